use Rattle.std.proofs.Common.{◌≡◌, drop}
use Rattle.fnc_ops.specs.OpsRecords.{owed_with}
use Rattle.fnc_ops.proofs.records.owed_with.Given as goal

-- what is owed so far, with the operations that are left
abbrev pub invariant-loop-record : goal.invariant-loop-record
invariant-loop-record l = owed_with l.all (drop l.record-index l.records) ≡ owed_with l.owed l.records
