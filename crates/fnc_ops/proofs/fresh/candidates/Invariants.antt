use Rattle.std.proofs.Common.{◌≡◌, ◌++◌, map, drop}
use Rattle.fnc_journal.specs.Slots.{queried_from}
use Rattle.fnc_ops.specs.FreshRecords.{fresh_candidate}
use Rattle.fnc_ops.proofs.fresh.candidates.Given as goal

-- the records so far, and those of the candidates that are left
abbrev pub invariant-loop-candidate : goal.invariant-loop-candidate
invariant-loop-candidate l =
    (l.place ≡ l.candidate-index)
    × (l.levels.items ++ map (fresh_candidate l.operation.kind l.operation.target l.operation.coin)
    (queried_from l.place l.journal.history (drop l.candidate-index l.candidates))
    ≡ map (fresh_candidate l.operation.kind l.operation.target l.operation.coin)
    (queried_from 0 l.journal.history l.candidates))
