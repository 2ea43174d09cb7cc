use Rattle.std.proofs.Common.{◌≡◌, ◌-◌, length}
use Rattle.fnc_journal.specs.declared.limits.TheConstants.{LONGEST_LINE}
use Rattle.fnc_workload.specs.Turns.{Stands, course_of}
use Rattle.fnc_workload.proofs.session.work.Given as goal

-- the workload stands between two lines
abbrev pub invariant-loop-full : goal.invariant-loop-full
invariant-loop-full l = record {
  stands : Stands l.worker l.desk;
  same : course_of l.worker ≡ course_of l.fn.worker;
  size : l.line.size ≡ LONGEST_LINE;
  limit : l.desk.limit ≡ 1048576;
}

-- each line takes one of the entries that are left
abbrev pub decreases-loop-full : goal.decreases-loop-full
decreases-loop-full l = l.desk.limit - length l.desk.history
