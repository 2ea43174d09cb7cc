use Rattle.std.proofs.Common.{◌-◌, length}
use Rattle.fnc_replay.specs.Rests.{StartsSome}
use Rattle.fnc_replay.proofs.starts.start_all.Given as goal

-- tries were started so far
abbrev pub invariant-loop-started : goal.invariant-loop-started
invariant-loop-started l = StartsSome l.initial.desk l.desk

-- each start takes one of the entries that are left
abbrev pub decreases-loop-started : goal.decreases-loop-started
decreases-loop-started l = l.desk.limit - length l.desk.history
