-- What a call that reads a journal's text took of its source, what it wrote, and why it ended.
use Rattle.std.specs.Prelude.{ℕ, ◌≡◌, ◌≤◌, ◌<◌, ◌⊎◌, List, [], length}
use Rattle.fnc_journal.specs.declared.limits.TheConstants.{LONGEST_JOURNAL_LINE}
use Rattle.fnc_journal.specs.declared.outcome.Full.{Full}
use Rattle.fnc_journal.specs.declared.outcome.Outcome.{Outcome}
use Rattle.fnc_journal.specs.History.{History}
use Rattle.fnc_outside.specs.Events.{Happening}
use Rattle.fnc_told.specs.Held.{Holds, HoldsFront, SentOn, SinkFaulted}
use Rattle.fnc_told.specs.Read.{Gave, IsOver, SourceFaulted}
use Rattle.fnc_told.specs.SourceAndSink.{Change, SinkTold, SourceTold}
use Rattle.fnc_audit.specs.Said.{Said}
use Rattle.fnc_audit.specs.TextRead.{IsGood, TextRead, text_read}

-- a call, as its source and its sink tell it, how many entries its journal may have, and how many polls it may make
pub record Call : Type 0 where
  pub source : Change SourceTold
  pub sink : Change SinkTold
  pub limit : ℕ
  pub polls : ℕ

-- a journal that has as many entries as it may have, where one more came
abbrev pub full_at : ℕ → Full
full_at limit = record { entries = limit; owed = 0; need = 1; limit = limit }

-- the source was read to its end, by a poll after those that gave an event
abbrev pub IsAtEnd : Call → ℕ → Type 0
IsAtEnd call events = (events < call.polls) × IsOver call.source.after.left

-- the lines spell a journal, all that is said of it was written and sent on, and the outcome is that
pub record Tells (says : History → Said) (outcome : Outcome) (sink : Change SinkTold) (read : TextRead) : Type 0 where
  pub history : History
  pub journal : read ≡ TextRead.Entries history
  pub outcome_said : outcome ≡ (says history).outcome
  pub written : SentOn sink (says history).text

-- a write of what is said of the journal failed, and a part from the front of it is left
pub record TellsPart (says : History → Said) (sink : Change SinkTold) (read : TextRead) : Type 0 where
  pub history : History
  pub journal : read ≡ TextRead.Entries history
  pub faulted : SinkFaulted sink
  pub written : HoldsFront sink (says history).text

-- no line came, so the first is missing
abbrev pub LacksFirst : ℕ → TextRead → Type 0
LacksFirst line read = (read ≡ TextRead.Nothing) × (line ≡ 1)

-- Why the call ended, by the events that were given and what their lines are read as. Nothing is written before the
-- end of the source was found.
abbrev pub Ends : (History → Said) → Outcome → Call → ℕ → TextRead → Type 0
Ends says Outcome.Finished call events read = IsAtEnd call events × Tells says Outcome.Finished call.sink read
Ends says (Outcome.Unlawful index rule) call events read =
    IsAtEnd call events × Tells says (Outcome.Unlawful index rule) call.sink read
Ends says Outcome.Usage call events read = ⊥
Ends says Outcome.ReadFault call events read =
    Holds call.sink [] × IsGood read × (events < call.polls) × SourceFaulted call.source
Ends says Outcome.WriteFault call events read = IsAtEnd call events × TellsPart says call.sink read
Ends says Outcome.NoMemory call events read = Holds call.sink []
Ends says Outcome.Budget call events read = Holds call.sink [] × IsGood read × (events ≡ call.polls)
Ends says (Outcome.BadEntry line) call events read =
    Holds call.sink [] × ((read ≡ TextRead.Bad line) ⊎ (IsAtEnd call events × LacksFirst line read))
Ends says (Outcome.JournalFull full) call events read =
    Holds call.sink [] × (read ≡ TextRead.Above) × (full ≡ full_at call.limit)

-- A bad line, an entry above the limit, and the last poll that was allowed end the call by these outcomes.
abbrev pub Stops : Outcome → Call → ℕ → TextRead → Type 0
Stops outcome call events (TextRead.Bad line) = outcome ≡ Outcome.BadEntry line
Stops outcome call events TextRead.Above = outcome ≡ Outcome.JournalFull (full_at call.limit)
Stops outcome call events _ = events ≡ call.polls → outcome ≡ Outcome.Budget

-- The call took these events, where the source tells them: lines of up to 65,536 bytes, and longer ones as too long. It
-- ended by a cause that they give; and what ends it does so, unless memory was refused.
pub record Audits (says : History → Said) (outcome : Outcome) (call : Call) : Type 0 where
  pub events : List Happening
  pub gave : Gave LONGEST_JOURNAL_LINE call.source events
  pub few : length events ≤ call.polls
  pub ends : Ends says outcome call (length events) (text_read call.limit events)
  pub exact : (outcome ≡ Outcome.NoMemory) ⊎ Stops outcome call (length events) (text_read call.limit events)

-- an outcome that needs no failed read and no failed write
abbrev pub IsOfText : Outcome → Type 0
IsOfText Outcome.ReadFault = ⊥
IsOfText Outcome.WriteFault = ⊥
IsOfText Outcome.Usage = ⊥
IsOfText _ = Unit {0}

-- where no count of faults rose, the call ends by what its source gave, or for want of memory
abbrev pub IsComplete : Outcome → Call → Type 0
IsComplete outcome call = (SourceFaulted call.source → ⊥) → (SinkFaulted call.sink → ⊥) → IsOfText outcome
