use Rattle.std.proofs.Common.{◌≡◌, drop}
use Rattle.fnc_ops.specs.OpsRecords.{sooner, first_expiry}
use Rattle.fnc_ops.proofs.records.first_expiry.Given as goal

-- the sooner of what was found and what is still to come is the first of all
abbrev pub invariant-loop-record : goal.invariant-loop-record
invariant-loop-record l = sooner l.first (first_expiry l.moment (drop l.record-index l.records)) ≡ first_expiry
    l.moment l.records
