use Rattle.std.proofs.Common.{◌≡◌, ◌+◌, ◌≤◌, min}
use Rattle.fnc_config.proofs.targets.Targets.count.Given as goal
use Rattle.fnc_config.proofs.TargetSteps.{lengths}

-- what is counted so far, and what is left
abbrev pub invariant-loop-levels : goal.invariant-loop-levels
invariant-loop-levels l =
    (l.count ≤ 18446744073709551615)
    × (min (l.count + lengths l.levels-iterator) 18446744073709551615
    ≡ min (lengths l.initial.levels-iterator) 18446744073709551615)
