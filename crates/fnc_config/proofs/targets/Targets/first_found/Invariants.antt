use Rattle.std.proofs.Common.{◌≡◌}
use Rattle.fnc_config.specs.Scopes.{scope_among}
use Rattle.fnc_config.proofs.Shown.{shown}
use Rattle.fnc_config.proofs.targets.Targets.first_found.Given as goal

-- no pattern so far is found
abbrev pub invariant-loop-text : goal.invariant-loop-text
invariant-loop-text l =
    (goal.iterator-loop-text).can_next l.text-iterator
    × (goal.iterator-loop-text).is_finite l.text-iterator
    × (scope_among (shown l.text-iterator) l.fn.node ≡ scope_among (shown l.initial.text-iterator) l.fn.node)
