use Rattle.std.proofs.Common.{◌<◌, length, arith}
use Rattle.std.specs.Prelude.{is_ok}
use Rattle.fnc_switch.specs.declared.plug.TheConstants.{MOST_PLUGS}
use Rattle.fnc_switch.proofs.Kept.{pushed_kept}
use Rattle.fnc_switch.proofs.switch.Switch.add_line.Goals as goal

pub invariant_of-self : goal.invariant_of-self
invariant_of-self c =
    let short : length c.self.inside.plugs.items < MOST_PLUGS = omega (arith, c.self.inside.plugs.ok.0) in
    pushed_kept c.self.inside.plugs.items c.push.new.self.items c.args.line.now c.in_ok-plug.plug
    (is_ok c.push.result) c.push.ensures.items short c.in_ok-plug.ensures c.self.invariant
