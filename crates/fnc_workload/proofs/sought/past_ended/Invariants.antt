use Rattle.std.proofs.Common.{◌-◌, length}
use Rattle.fnc_workload.specs.Ended.{AreEnded}
use Rattle.fnc_workload.proofs.sought.past_ended.Given as goal

-- all runs that were passed have ended
abbrev pub invariant-loop-run : goal.invariant-loop-run
invariant-loop-run l = AreEnded l.run l.journal.history

-- and there are no more runs than entries
abbrev pub decreases-loop-run : goal.decreases-loop-run
decreases-loop-run l = length l.journal.history - l.run
