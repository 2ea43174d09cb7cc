use Rattle.std.proofs.Common.{◌≡◌, map}
use Rattle.std.specs.List.{filter_map}
use Rattle.fnc_switch.specs.References.{meant}
use Rattle.fnc_switch.specs.Agents.{switched}
use Rattle.fnc_switch.proofs.operations.turn_all.Given as goal

-- the plugs that the references so far mean are switched
abbrev pub invariant-loop-reference : goal.invariant-loop-reference
invariant-loop-reference l =
    l.plugs ≡ switched l.on (filter_map (meant l.fn.plugs) (map (λ p. p.now) l.yielded)) l.fn.plugs
