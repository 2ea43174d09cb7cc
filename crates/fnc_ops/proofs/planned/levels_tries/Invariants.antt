use Rattle.std.proofs.Common.{◌≡◌, map, drop}
use Rattle.fnc_ops.specs.PlanTries.{sum_from, level_tries}
use Rattle.fnc_ops.proofs.planned.levels_tries.Given as goal

-- the tries so far, with those of what is left
abbrev pub invariant-loop-level : goal.invariant-loop-level
invariant-loop-level l = sum_from l.tries (map (level_tries l.kind l.journal.history) (drop l.level-index l.levels)) ≡
    sum_from 0 (map (level_tries l.kind l.journal.history) l.levels)
