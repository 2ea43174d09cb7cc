-- A workload between two lines, and what the next line makes of it.
use Rattle.std.specs.Prelude.{◌≡◌, ◌≤◌, ◌<◌, ◌*◌, None, length}
use Rattle.fnc_journal.specs.Driven.{Driven}
use Rattle.fnc_core.specs.Cored.{Cored}
use Rattle.fnc_desk.specs.Lines.{last_come}
use Rattle.fnc_replay.specs.Rests.{Rests}
use Rattle.fnc_workload.specs.Ended.{AreEnded, IsPast}
use Rattle.fnc_workload.specs.Lines.{AreMade, Course, IsCut, next_line, standing}
use Rattle.fnc_workload.specs.declared.turn.Turned.{Turned}
use Rattle.fnc_workload.specs.declared.turn.Worker.{Worker}

-- what was asked for
abbrev pub course_of : Worker → Course
course_of w = record { number = w.number; count = w.count }

-- The session rests, each input is that of a line that was made, the workload stands as the journal says, and all runs
-- below the one that it keeps have ended. Its moment is bounded by the length of the journal.
pub record Stands (w : Worker) (v : Cored) : Type 0 where
  pub rests : Rests v
  pub made : AreMade (course_of w) v
  pub last : last_come v.history ≡ v.last
  pub making : w.making ≡ standing (course_of w) v.history
  pub ended : AreEnded w.past v.history
  pub past : IsPast w.past v.history
  pub early : w.making.moment ≤ 2000 * length v.history
  pub within : length v.history ≤ 1048576
  pub few : w.count ≤ 100000

-- a line was served
pub record Serves (old new : Worker) (before after : Cored) : Type 0 where
  pub stands : Stands new after
  pub same : course_of new ≡ course_of old
  pub more : length before.history < length after.history
  pub limit : after.limit ≡ before.limit

-- a line found no room
pub record Ends (w : Worker) (before after : Cored) (IsEnd : Cored → Type 0) : Type 0 where
  pub cut : IsEnd after
  pub driven : Driven after.history
  pub limit : after.limit ≡ before.limit

-- what a turn comes to
abbrev pub Turns : Turned → Worker → Worker → Cored → Cored → Type 0
Turns Turned.Served old new before after = Serves old new before after
Turns (Turned.Full full) old new before after = Ends old before after (λ v. IsCut (course_of old) v full)
Turns Turned.Whole old new before after =
    (after ≡ before) × (next_line (course_of old) before.history ≡ None)
