-- What a session is worth at its end: what it wrote, and why it ended.
use Rattle.std.specs.Prelude.{ℕ, List, [], ◌++◌, ◌≡◌, ◌≤◌, ◌⊎◌, true, Option, Some, None}
use Rattle.fnc_journal.specs.declared.outcome.Outcome.{Outcome}
use Rattle.fnc_journal.specs.History.{History, Journaled}
use Rattle.fnc_journal.specs.Line.{end_line}
use Rattle.fnc_journal.specs.Lawful.{Lawful, Calm, last_moment}
use Rattle.fnc_journal.specs.Operations.{settled}
use Rattle.fnc_journal.specs.Driven.{Driven}
use Rattle.fnc_journal_text.specs.declared.form.Form.{Form}
use Rattle.fnc_journal_text.specs.Paper.{text}
use Rattle.fnc_core.specs.Cored.{Cored, IsFull}
use Rattle.fnc_replay.specs.Rests.{Rests}
use Rattle.fnc_told.specs.Held.{Holds, HoldsFront, SentOn, SinkFaulted}
use Rattle.fnc_told.specs.Read.{IsOver, SourceFaulted}
use Rattle.fnc_told.specs.SourceAndSink.{Change, SinkTold, SourceTold}

-- what is written after the text of a journal: the answers end with the end line
abbrev pub last_line : Form → History → List ℕ
last_line Form.Answers h = end_line h
last_line Form.Journal h = []

-- all that a session writes, where it comes to the end of its source
abbrev pub whole_text : Form → History → List ℕ
whole_text form h = text h form ++ last_line form h

-- What the sink gained, where it tells what it holds, and how much of it is still to be sent on. A session that
-- finished wrote the whole text; one whose write or flush failed left a part from the front of it; any other the text
-- of the journal, or a part from the front of it where a write or a flush failed. What did not fail was sent on.
abbrev pub Wrote : Outcome → Form → Change SinkTold → History → Type 0
Wrote Outcome.Finished form sink h = SentOn sink (whole_text form h)
Wrote Outcome.WriteFault form sink h = HoldsFront sink (whole_text form h)
Wrote Outcome.Budget form sink h = SentOn sink (text h form)
Wrote Outcome.ReadFault form sink h = SentOn sink (text h form) ⊎ (SinkFaulted sink × HoldsFront sink (text h form))
Wrote (Outcome.JournalFull full) form sink h =
    SentOn sink (text h form) ⊎ (SinkFaulted sink × HoldsFront sink (text h form))
Wrote _ form sink h = ⊥

-- the same before the last flush, where what was written may still wait
abbrev pub Printed : Outcome → Form → Change SinkTold → History → Type 0
Printed Outcome.Finished form sink h = Holds sink (whole_text form h)
Printed Outcome.WriteFault form sink h = HoldsFront sink (whole_text form h)
Printed Outcome.Budget form sink h = Holds sink (text h form)
Printed Outcome.ReadFault form sink h = Holds sink (text h form)
Printed (Outcome.JournalFull full) form sink h =
    Holds sink (text h form) ⊎ (SinkFaulted sink × HoldsFront sink (text h form))
Printed _ form sink h = ⊥

-- The outcome where the last flush fails. A session that nothing had ended before ends by that; any other keeps its
-- first cause.
abbrev pub after_failed_flush : Outcome → Outcome
after_failed_flush Outcome.Finished = Outcome.WriteFault
after_failed_flush Outcome.Budget = Outcome.WriteFault
after_failed_flush outcome = outcome

-- what the last flush makes of an outcome
abbrev pub Closes : Outcome → Outcome → Change SinkTold → Type 0
Closes outcome closed sink = (closed ≡ outcome) ⊎ ((closed ≡ after_failed_flush outcome) × SinkFaulted sink)

-- Why a session ended. The journal is the one that it hands back, of which a full one is said to be full.
abbrev pub EndsBy : Outcome → Change SourceTold → Change SinkTold → Cored → Type 0
EndsBy Outcome.Finished source sink v = IsOver source.after.left
EndsBy Outcome.ReadFault source sink v = SourceFaulted source
EndsBy Outcome.WriteFault source sink v = SinkFaulted sink
EndsBy (Outcome.JournalFull full) source sink v = IsFull v full.need full
EndsBy _ source sink v = ⊥

-- a journal that is handed back
pub record IsServed (h : History) : Type 0 where
  pub lawful : Lawful h
  pub calm : Calm h
  pub settled_then : settled h (last_moment h) ≡ true
  pub driven : Driven h

-- what ends a session that reads no more, or a write that fails
abbrev pub EndsWriting : Outcome → Change SinkTold → Type 0
EndsWriting Outcome.Finished sink = Unit {0}
EndsWriting Outcome.WriteFault sink = SinkFaulted sink
EndsWriting _ sink = ⊥

-- the text so far is held, and the count of faults did not fall
abbrev pub HoldsSoFar : Form → Change SinkTold → History → Type 0
HoldsSoFar form sink h = Holds sink (text h form) × (sink.before.faults ≤ sink.after.faults)

-- what the sink gained so far, or at the end before the last flush
abbrev pub Puts : Option Outcome → Form → Change SinkTold → History → Type 0
Puts None form sink h = HoldsSoFar form sink h
Puts (Some outcome) form sink h = Printed outcome form sink h

-- a write that fails
abbrev pub IsWriteFault : Outcome → Change SinkTold → Type 0
IsWriteFault Outcome.WriteFault sink = SinkFaulted sink
IsWriteFault _ sink = ⊥

-- a session that rests goes on resting, and one that ends has a Driven journal
abbrev pub Turns : Option Outcome → Cored → Cored → Type 0
Turns None old new = Rests old → Rests new
Turns (Some outcome) old new = Rests old → Driven new.history

-- a journal as the core keeps it
abbrev pub cored : Journaled → Cored
cored j = record { history = j.history; last = last_moment j.history; limit = j.limit }

-- the polls that a session made, and those that it was allowed
pub record PollCounts : Type 0 where
  pub made : ℕ
  pub allowed : ℕ

-- why a session ended, which may be that the polls that it was allowed were made
abbrev pub EndsSession : Outcome → Change SourceTold → Change SinkTold → PollCounts → Cored → Type 0
EndsSession Outcome.Budget source sink polls v = polls.made ≡ polls.allowed
EndsSession outcome source sink polls v = EndsBy outcome source sink v

-- the same of the journal that is handed back
abbrev pub HasCause : Outcome → Change SourceTold → Change SinkTold → PollCounts → Journaled → Type 0
HasCause outcome source sink polls j = EndsSession outcome source sink polls (cored j)

-- How a session ends where neither a read nor a write failed: at the end of its source, at the polls that it was
-- allowed, or at a line for which the journal has no room.
abbrev pub EndsOfItself : Outcome → Change SourceTold → PollCounts → Journaled → Type 0
EndsOfItself Outcome.Finished source polls j = IsOver source.after.left
EndsOfItself Outcome.Budget source polls j = polls.made ≡ polls.allowed
EndsOfItself (Outcome.JournalFull full) source polls j = IsFull (cored j) full.need full
EndsOfItself _ source polls j = ⊥

-- where no count of faults rose, a session ends of itself
abbrev pub IsComplete : Outcome → Change SourceTold → Change SinkTold → PollCounts → Journaled → Type 0
IsComplete outcome source sink polls j =
    (SourceFaulted source → ⊥) → (SinkFaulted sink → ⊥) → EndsOfItself outcome source polls j
