use Rattle.std.proofs.Common.{◌≡◌, drop}
use Rattle.fnc_records.specs.OperationRecords.{first_query}
use Rattle.fnc_records.proofs.operation.first_query.Given as goal

-- the queries so far are concluded, so the rest decides
abbrev pub invariant-loop-level : goal.invariant-loop-level
invariant-loop-level l = first_query l.moment l.levels ≡ first_query l.moment (drop l.level-index l.levels)
