use Rattle.std.proofs.Common.{◌≡◌, drop}
use Rattle.fnc_records.specs.OperationRecords.{passed}
use Rattle.fnc_records.proofs.operation.passed.Given as goal

-- the levels so far are lost, so the rest decides
abbrev pub invariant-loop-level : goal.invariant-loop-level
invariant-loop-level l = passed l.over l.moment l.levels ≡ passed l.over l.moment (drop l.level-index l.levels)
