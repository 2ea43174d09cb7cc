-- What a workload comes to, by its outcome.
use Rattle.std.specs.Prelude.{ℕ, ◌≡◌, ◌<◌, ◌+◌, [], true}
use Rattle.fnc_journal.specs.declared.outcome.Outcome.{Outcome}
use Rattle.fnc_journal.specs.History.{History}
use Rattle.fnc_journal.specs.Found.{asks, is_answered}
use Rattle.fnc_answered.specs.Done.{IsDone}
use Rattle.fnc_core.specs.Cored.{Cored}
use Rattle.fnc_told.specs.Held.{Holds, HoldsFront, SentOn, SinkFaulted}
use Rattle.fnc_told.specs.SourceAndSink.{Change, SinkTold}
use Rattle.fnc_workload.specs.Lines.{Course, IsCut, IsWhole}
use Rattle.fnc_workload.specs.Summed.{summary_line, tally_of}

-- All lines were made and each gave its input, but where the journal was full: then all but the last one made.
abbrev pub EndsAt : Outcome → Course → Cored → Type 0
EndsAt Outcome.Finished c v = IsWhole c v
EndsAt Outcome.WriteFault c v = IsWhole c v
EndsAt (Outcome.JournalFull full) c v = IsCut c v full
EndsAt _ c v = ⊥

-- The line with the counts was written and sent on, or a part from the front of it where a write or a flush failed; a
-- workload whose journal was full writes nothing.
abbrev pub Writes : Outcome → Course → Change SinkTold → History → Type 0
Writes Outcome.Finished c sink h = SentOn sink (summary_line c h)
Writes Outcome.WriteFault c sink h = HoldsFront sink (summary_line c h) × SinkFaulted sink
Writes (Outcome.JournalFull full) c sink h = Holds sink []
Writes _ c sink h = ⊥

-- nothing is left to be done at a moment: no reply is due, no try may start, and no run is alive
pub record IsOver (h : History) : Type 0 where
  pub moment : ℕ
  pub done : IsDone moment h

-- Each request has its answer, so as many replies are counted as requests; and each reply is one that is counted by its
-- answer: a level passed, all levels are lost, the time is over, or no device could act.
pub record IsAnswered (h : History) : Type 0 where
  pub each : (r : ℕ) → r < asks h → is_answered r h ≡ true
  pub counted : (tally_of h).answered ≡ (tally_of h).asked
  pub told :
      (tally_of h).passed + (tally_of h).levels + (tally_of h).time + (tally_of h).none ≡ (tally_of h).answered

-- a workload of which all lines were made leaves nothing to be done, and no request without its answer
abbrev pub Leaves : Outcome → History → Type 0
Leaves Outcome.Finished h = IsOver h × IsAnswered h
Leaves Outcome.WriteFault h = IsOver h × IsAnswered h
Leaves _ h = Unit {0}
