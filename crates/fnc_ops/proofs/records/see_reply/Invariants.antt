use Rattle.std.proofs.Common.{◌≡◌, ◌++◌, map, take, drop}
use Rattle.fnc_records.specs.OperationRecords.{only, replied}
use Rattle.fnc_ops.proofs.records.see_reply.Given as goal

-- the operations so far have seen it
abbrev pub invariant-loop-record : goal.invariant-loop-record
invariant-loop-record l = l.records ≡ map (only l.operation.0 replied) (take l.record-index l.initial.records) ++ drop
    l.record-index l.initial.records
