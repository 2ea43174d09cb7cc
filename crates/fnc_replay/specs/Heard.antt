-- What a session took of its source, and that the inputs of its journal are those of the lines that came.
use Rattle.std.specs.Prelude.{ℕ, ◌≡◌, ◌+◌, ◌⊎◌, List, length, Option, Some, None}
use Rattle.fnc_journal.specs.declared.limits.TheConstants.{LONGEST_LINE}
use Rattle.fnc_journal.specs.declared.outcome.Outcome.{Outcome}
use Rattle.fnc_outside.specs.Events.{Happening}
use Rattle.fnc_core.specs.Cored.{Cored}
use Rattle.fnc_replay.specs.Timed.{timed}
use Rattle.fnc_told.specs.Read.{Gave}
use Rattle.fnc_told.specs.SourceAndSink.{Change, SourceTold}
use Rattle.fnc_desk.specs.Lines.{AreLines, NewestFindsNoRoom, last_come, newest_lines}

-- Each poll gave an event, but for a last one that found the source at its end or failed. A write fails after either.
abbrev pub HasPolled : Outcome → ℕ → ℕ → Type 0
HasPolled Outcome.Finished events polls = events + 1 ≡ polls
HasPolled Outcome.ReadFault events polls = events + 1 ≡ polls
HasPolled Outcome.WriteFault events polls = (events ≡ polls) ⊎ (events + 1 ≡ polls)
HasPolled _ events polls = events ≡ polls

-- the lines, the newest first: each gave an input, but for a last one for which a full journal has no room
abbrev pub HasInputs : Outcome → List Happening → Cored → Type 0
HasInputs (Outcome.JournalFull full) lines v = NewestFindsNoRoom (timed v.limit) lines v full
HasInputs _ lines v = AreLines (timed v.limit) v.history lines

-- The events that the source gave in a session, where it tells them: as many as were polled, and each line among them
-- gave its input entry.
pub record Heard (outcome : Outcome) (source : Change SourceTold) (polls : ℕ) (v : Cored) : Type 0 where
  pub events : List Happening
  pub gave : Gave LONGEST_LINE source events
  pub polled : HasPolled outcome (length events) polls
  pub inputs : HasInputs outcome (newest_lines events) v

-- between two polls: each poll gave an event, and the last moment is that of the last input
pub record HeardSoFar (source : Change SourceTold) (polls : ℕ) (v : Cored) : Type 0 where
  pub events : List Happening
  pub gave : Gave LONGEST_LINE source events
  pub polled : length events ≡ polls
  pub inputs : AreLines (timed v.limit) v.history (newest_lines events)
  pub last : last_come v.history ≡ v.last

-- the same after a turn, which ends the session or not
abbrev pub HearsOn : Option Outcome → Change SourceTold → ℕ → Cored → Type 0
HearsOn None source polls v = HeardSoFar source polls v
HearsOn (Some outcome) source polls v = Heard outcome source polls v
