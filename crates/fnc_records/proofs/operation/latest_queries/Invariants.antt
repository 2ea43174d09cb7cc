use Rattle.std.proofs.Common.{◌≡◌, drop}
use Rattle.fnc_records.specs.OperationRecords.{latest_queries}
use Rattle.fnc_records.proofs.operation.latest_queries.Given as goal

-- what was found so far, with the levels that are left
abbrev pub invariant-loop-level : goal.invariant-loop-level
invariant-loop-level l = latest_queries l.begin l.moment l.latest (drop l.level-index l.levels) ≡ latest_queries
    l.begin l.moment l.at l.levels
