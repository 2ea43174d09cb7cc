use Rattle.std.proofs.Common.{◌≡◌, ◌++◌, map, drop}
use Rattle.fnc_journal.specs.Slots.{rank_of}
use Rattle.fnc_ops.specs.FreshRecords.{fresh_level}
use Rattle.fnc_ops.proofs.fresh.levels.Given as goal

-- the records so far, and those of the levels that are left
abbrev pub invariant-loop-level : goal.invariant-loop-level
invariant-loop-level l =
    l.levels.items ++ map (fresh_level l.operation.target l.operation.coin)
    (map (rank_of l.operation.kind l.journal.history) (drop l.level-index l.plan))
    ≡ map (fresh_level l.operation.target l.operation.coin) (map (rank_of l.operation.kind l.journal.history) l.plan)
