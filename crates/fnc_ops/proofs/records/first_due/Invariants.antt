use Rattle.std.proofs.Common.{◌≡◌, drop}
use Rattle.fnc_ops.specs.OpsRecords.{first_due}
use Rattle.fnc_ops.proofs.records.first_due.Given as goal

-- to the operations so far no answer is due, so the rest decides
abbrev pub invariant-loop-record : goal.invariant-loop-record
invariant-loop-record l = first_due l.moment l.records ≡ first_due l.moment (drop l.record-index l.records)
