use Rattle.std.proofs.Common.{◌≡◌, arith}
use Rattle.fnc_desk.specs.Inputs.{inputs}
use Rattle.fnc_desk.proofs.Numbering.{advance-counted}
use Rattle.fnc_desk.proofs.desk.Desk.advance.Goals as goal

pub invariant_of-self : goal.invariant_of-self
invariant_of-self c =
    let mode = c.self.inside.mode in
    let uncounted : inputs mode c.advance.new.self.history ≡ inputs mode c.self.inside.fencer.history =
    advance-counted mode c.self.inside.fencer c.advance.new.self c.args.moment c.advance.ensures in
    (omega (arith, uncounted, c.self.invariant.0), c.self.invariant.1)
