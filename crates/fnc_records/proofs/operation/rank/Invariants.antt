use Rattle.std.proofs.Common.{◌≡◌, ◌++◌, take, drop}
use Rattle.fnc_records.specs.OperationRecords.{ranked_levels}
use Rattle.fnc_records.proofs.operation.rank.Given as goal

-- the levels so far are ranked, and those that are left get the numbers from here on
abbrev pub invariant-loop-level : goal.invariant-loop-level
invariant-loop-level l = take l.level-index l.levels ++ ranked_levels l.index (drop l.level-index l.levels) ≡
    ranked_levels 1 l.initial.levels
