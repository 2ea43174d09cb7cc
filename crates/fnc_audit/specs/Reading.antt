-- How a text is read, poll by poll.
use Rattle.std.specs.Prelude.{ℕ, ◌≡◌, ◌≤◌, ◌<◌, ◌⊎◌, List, [], ◌∷◌, length, Option, Some, None}
use Rattle.fnc_journal.specs.declared.limits.TheConstants.{LONGEST_JOURNAL_LINE}
use Rattle.fnc_journal.specs.declared.outcome.Outcome.{Outcome}
use Rattle.fnc_journal.specs.History.{History}
use Rattle.fnc_outside.specs.Events.{Happening}
use Rattle.fnc_told.specs.Held.{Holds, HoldsFront, SentOn, SinkFaulted}
use Rattle.fnc_told.specs.Read.{Gave, IsOver, SourceFaulted}
use Rattle.fnc_told.specs.SourceAndSink.{Change, SinkTold, SourceTold}
use Rattle.fnc_audit.specs.declared.reading.Taken.{Taken}
use Rattle.fnc_audit.specs.Audits.{LacksFirst, Tells, TellsPart, full_at}
use Rattle.fnc_audit.specs.Said.{Said}
use Rattle.fnc_audit.specs.TextRead.{IsGood, TextRead, text_read, with_event}
use Rattle.fnc_audit.specs.Texted.{Texted, read}

-- a line that ends the reading, by what the lines are read as lines it
abbrev pub IsStop : Outcome → ℕ → TextRead → Type 0
IsStop Outcome.NoMemory limit lines = Unit {0}
IsStop (Outcome.BadEntry line) limit lines = lines ≡ TextRead.Bad line
IsStop (Outcome.JournalFull full) limit lines = (lines ≡ TextRead.Above) × (full ≡ full_at limit)
IsStop _ limit lines = ⊥

-- a line more: the text is read with it, or the reading ends
abbrev pub Adds : Option Outcome → TextRead → Texted → Texted → Type 0
Adds None lines old new = read new ≡ lines
Adds (Some outcome) lines old new = IsStop outcome old.limit lines

-- the source gave an event, and that does this
pub record GaveEvent (source : Change SourceTold) (Does : Happening → Type 0) : Type 0 where
  pub event : Happening
  pub gave : Gave LONGEST_JOURNAL_LINE source (event ∷ [])
  pub does : Does event

-- a poll that ends the reading
abbrev pub EndsPoll : Outcome → Change SourceTold → Texted → Type 0
EndsPoll Outcome.ReadFault source old = Gave LONGEST_JOURNAL_LINE source [] × SourceFaulted source
EndsPoll outcome source old =
    GaveEvent source (λ event. IsStop outcome old.limit (with_event old.limit (read old) event))

-- what a poll came to
abbrev pub Polls : Taken → Change SourceTold → Texted → Texted → Type 0
Polls Taken.More source old new = GaveEvent source (λ event. read new ≡ with_event old.limit (read old) event)
Polls Taken.Over source old new =
    (read new ≡ read old) × Gave LONGEST_JOURNAL_LINE source [] × IsOver source.after.left
Polls (Taken.Ended outcome) source old new = EndsPoll outcome source old

-- what a poll came to that gave a line, by what ended the reading there
abbrev pub ended : Option Outcome → Taken
ended None = Taken.More
ended (Some outcome) = Taken.Ended outcome

-- between two polls: each gave an event, and the text has their lines
pub record ReadsSoFar (source : Change SourceTold) (made : ℕ) (t : Texted) : Type 0 where
  pub events : List Happening
  pub gave : Gave LONGEST_JOURNAL_LINE source events
  pub polled : length events ≡ made
  pub reads : text_read t.limit events ≡ read t

-- why no line is read any more: the source is at its end, or an outcome
abbrev pub EndsReading : Option Outcome → Change SourceTold → ℕ → ℕ → TextRead → Texted → Type 0
EndsReading None source polls events lines t = (lines ≡ read t) × (events < polls) × IsOver source.after.left
EndsReading (Some Outcome.ReadFault) source polls events lines t =
    IsGood lines × (events < polls) × SourceFaulted source
EndsReading (Some Outcome.Budget) source polls events lines t = IsGood lines × (events ≡ polls)
EndsReading (Some outcome) source polls events lines t = IsStop outcome t.limit lines

-- all polls of a call
pub record Reads (ended : Option Outcome) (source : Change SourceTold) (polls : ℕ) (t : Texted) : Type 0 where
  pub events : List Happening
  pub gave : Gave LONGEST_JOURNAL_LINE source events
  pub few : length events ≤ polls
  pub ends : EndsReading ended source polls (length events) (text_read t.limit events) t

-- a text was written and sent on, and the outcome is the one that was wanted; or a write failed
abbrev pub IsWritten : Outcome → Outcome → Change SinkTold → List ℕ → Type 0
IsWritten result wanted sink text =
    ((result ≡ wanted) × SentOn sink text)
    ⊎ ((result ≡ Outcome.WriteFault) × SinkFaulted sink × HoldsFront sink text)

-- what is made of a text at the end of its source
abbrev pub Finishes : (History → Said) → Outcome → Change SinkTold → TextRead → Type 0
Finishes says Outcome.Finished sink lines = Tells says Outcome.Finished sink lines
Finishes says (Outcome.Unlawful index rule) sink lines = Tells says (Outcome.Unlawful index rule) sink lines
Finishes says Outcome.WriteFault sink lines = TellsPart says sink lines
Finishes says (Outcome.BadEntry line) sink lines = Holds sink [] × LacksFirst line lines
Finishes says _ sink lines = ⊥
