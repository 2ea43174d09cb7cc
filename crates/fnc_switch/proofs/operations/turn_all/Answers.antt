use Rattle.std.proofs.Common.{◌∙◌, ap, map, lit<}
use Rattle.std.specs.List.{filter_map}
use Rattle.std.proofs.lemmas.Iterator.Consumers.{YieldsList-end}
use Rattle.std.proofs.lemmas.List.{map-append}
use Rattle.std.proofs.lemmas.Iterator.Splits.{YieldsList-from_str_split}
use Rattle.fnc_switch.specs.Agents.{switched}
use Rattle.fnc_switch.specs.References.{meant}
use Rattle.fnc_switch.proofs.Places.{goes_on}
use Rattle.fnc_switch.proofs.operations.turn_all.Goals as goal

pub returns : goal.returns
returns c =
    let all =
    YieldsList-end (YieldsList-from_str_split 44 c.args.value.now (lit< tt) (cc) (cc) (cc))
    c.loop-reference.yielded _ c.loop-reference.yielded_by _ _ c.in-None.is c.next.ensures.steps in
    c.loop-reference.invariant
    ∙ ap (λ rs. switched c.args.on (filter_map (meant c.args.plugs.now) rs) c.args.plugs.now) all.0

pub loop-reference-preserved : goal.loop-reference-preserved
loop-reference-preserved c =
    rw map-append (goes_on c.args.on c.args.plugs.now c.loop-reference.plugs c.turn_meant.new.plugs
    (map (λ p. p.now) c.loop-reference.yielded) c.in-Some.reference.now c.loop-reference.invariant
    c.turn_meant.ensures)
