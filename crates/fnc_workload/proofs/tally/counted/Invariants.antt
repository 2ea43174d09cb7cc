use Rattle.std.proofs.Common.{◌≡◌}
use Rattle.fnc_journal.specs.Prefix.{prefix}
use Rattle.fnc_workload.specs.Summed.{tally_of}
use Rattle.fnc_workload.proofs.tally.counted.Given as goal

-- the entries so far are counted
abbrev pub invariant-loop-index : goal.invariant-loop-index
invariant-loop-index l = l.tally ≡ tally_of (prefix l.index l.journal.history)
