use Rattle.std.proofs.Common.{◌≡◌, ◌++◌, map, take, drop}
use Rattle.fnc_records.specs.OperationRecords.{at_moment_unless_ending}
use Rattle.fnc_ops.proofs.records.see_moment_unless_ending.Given as goal

-- the operations so far have seen it
abbrev pub invariant-loop-record : goal.invariant-loop-record
invariant-loop-record l = l.records ≡ map (at_moment_unless_ending l.operation.0 l.moment)
    (take l.record-index l.initial.records) ++ drop l.record-index l.initial.records
