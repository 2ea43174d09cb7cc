use Rattle.std.proofs.Common.{◌≡◌, map, drop}
use Rattle.fnc_ops.specs.PlanTries.{sum_from, candidate_tries}
use Rattle.fnc_ops.proofs.planned.candidates_tries.Given as goal

-- the tries so far, with those of what is left
abbrev pub invariant-loop-candidate : goal.invariant-loop-candidate
invariant-loop-candidate l = sum_from l.tries (map (candidate_tries l.levelled l.kind l.journal.history)
    (drop l.candidate-index l.candidates)) ≡ sum_from 0 (map (candidate_tries l.levelled l.kind l.journal.history)
    l.candidates)
