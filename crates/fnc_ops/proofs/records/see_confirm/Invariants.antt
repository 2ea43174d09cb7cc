use Rattle.std.proofs.Common.{◌≡◌, ◌++◌, map, take, drop}
use Rattle.fnc_records.specs.OperationRecords.{operation_confirmed}
use Rattle.fnc_ops.proofs.records.see_confirm.Given as goal

-- the operations so far have seen it
abbrev pub invariant-loop-record : goal.invariant-loop-record
invariant-loop-record l = l.records ≡ map (operation_confirmed l.target) (take l.record-index l.initial.records) ++
    drop l.record-index l.initial.records
