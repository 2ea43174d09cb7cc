use Rattle.std.proofs.Common.{◌≡◌, ◌++◌, map, take, drop}
use Rattle.fnc_records.specs.OperationRecords.{only, operation_ended}
use Rattle.fnc_ops.proofs.records.see_exit.Given as goal

-- the operations so far have seen it
abbrev pub invariant-loop-record : goal.invariant-loop-record
invariant-loop-record l = l.records ≡ map (only l.operation.0 (operation_ended l.slot l.exit l.listed l.moment))
    (take l.record-index l.initial.records) ++ drop l.record-index l.initial.records
