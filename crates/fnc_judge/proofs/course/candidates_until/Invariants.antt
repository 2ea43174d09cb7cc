use Rattle.std.proofs.Common.{◌≡◌, ◌≤◌, ◌+◌, length}
use Rattle.fnc_journal.specs.Acts.{acts}
use Rattle.fnc_search.specs.Keyed.{later}
use Rattle.fnc_search.specs.Pursued.{operation, candidates_of}
use Rattle.fnc_judge.specs.Courses.{coursed_all, start}
use Rattle.fnc_search.proofs.Queue.{keyed_of, left}
use Rattle.fnc_judge.proofs.course.candidates_until.Given as goal

-- what was gathered so far, with what is left, for which there are entries enough
abbrev pub invariant-loop-place : goal.invariant-loop-place
invariant-loop-place l = record {
  all : coursed_all (operation l.operation) l.moment (acts l.operation.req l.past) start (candidates_of l.operation)
      ≡ coursed_all (operation l.operation) l.moment (acts l.operation.req l.past) l.course
      (left l.operation l.after l.place);
  room : l.place + length (later l.after (keyed_of l.operation)) ≤ length l.operation.asked.before;
  few : l.course.index ≤ l.place + 1;
}
