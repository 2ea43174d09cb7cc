-- What a command line comes to.
use Rattle.std.specs.Prelude.{ℕ, ◌≡◌, ◌⊎◌, [], Option, Some}
use Rattle.fnc_audit.specs.Audits as audited
use Rattle.fnc_audit.specs.Audits.{Audits, Call}
use Rattle.fnc_audit.specs.Said.{Said, answers_for, verdict}
use Rattle.fnc_journal.specs.declared.outcome.Outcome.{Outcome}
use Rattle.fnc_journal.specs.History.{History, Journaled}
use Rattle.fnc_outside.specs.Told.{Gains}
use Rattle.fnc_told.specs.SourceAndSink.{Change, SinkTold, SourceTold}
use Rattle.fnc_words.specs.declared.command.Command.{Command}
use Rattle.fnc_words.specs.declared.course.Course.{Course}
use Rattle.fnc_words.specs.declared.command.WordsFault.{WordsFault}
use Rattle.fnc_words.specs.declared.session.Session.{Session}
use Rattle.fnc_workload.specs.Worked.{EndsAt, Leaves, Writes}
use Rattle.fnc_replay.specs.Heard.{Heard}
use Rattle.fnc_replay.specs.Room.{KeepsRoom}
use Rattle.fnc_replay.specs.Session.{HasCause, IsComplete, IsServed, PollCounts, Wrote, cored}

-- words that ask for nothing are a bad command line
abbrev pub outcome_of : WordsFault → Outcome
outcome_of WordsFault.NoCommand = Outcome.Usage
outcome_of WordsFault.NoMemory = Outcome.NoMemory

-- The words asked for a session, it ran as they want it, and this is what its outcome and its journal are worth: the
-- journal is lawful, calm, driven and settled, and each line found room in it; its text was written in the form that
-- the words want; it ended by a cause, of itself where nothing failed; and its inputs are those of the lines that came.
pub record RunsSession (asked : Option Command) (outcome : Outcome) (source : Change SourceTold)
    (sink : Change SinkTold) (polls : PollCounts) (j : Journaled) : Type 0 where
  pub session : Session
  pub asked_for : asked ≡ Some (Command.Replay session)
  pub limit : j.limit ≡ session.entries
  pub served : IsServed j.history
  pub room : KeepsRoom j.limit j.history
  pub text : Wrote outcome session.form sink j.history
  pub cause : HasCause outcome source sink polls j
  pub complete : IsComplete outcome source sink polls j
  pub heard : Heard outcome source polls.made (cored j)

-- A workload ran, and this is what its outcome and its journal are worth: the journal is lawful, calm, driven and
-- settled; its inputs are those of the lines that were made, all of them, or all but the last one where the journal was
-- full; the line with the counts of the journal was written; and where all lines were made nothing is left to be done,
-- and no request without its answer. Nothing was read.
pub record RunsWorkload (course : Course) (outcome : Outcome) (source : Change SourceTold) (sink : Change SinkTold)
    (polls : PollCounts) (j : Journaled) : Type 0 where
  pub served : IsServed j.history
  pub limit : j.limit ≡ 1048576
  pub lines : EndsAt outcome (record { number = course.number; count = course.count }) (cored j)
  pub over : Leaves outcome j.history
  pub summary : Writes outcome (record { number = course.number; count = course.count }) sink j.history
  pub unread : Gains source.before.given source.after.given []
  pub unpolled : polls.made ≡ 0

-- what a command comes to that hands back a journal: that of a workload, or of a session of lines
abbrev pub RunsWith : Option Command → Outcome → Change SourceTold → Change SinkTold → PollCounts → Journaled →
    Type 0
RunsWith (Some (Command.Workload course)) outcome source sink polls j =
    RunsWorkload course outcome source sink polls j
RunsWith asked outcome source sink polls j = RunsSession asked outcome source sink polls j

-- a journal's text was read, and this is said of the journal
pub record Reads (says : History → Said) (outcome : Outcome) (call : Call) : Type 0 where
  pub audits : Audits says outcome call
  pub complete : audited.IsComplete outcome call

-- the reading of a text with room for so many entries
abbrev pub reading : ℕ → Change SourceTold → Change SinkTold → PollCounts → Call
reading entries source sink polls = record { source = source; sink = sink; limit = entries; polls = polls.allowed }

-- nothing was read, and nothing written
pub record DidNothing (source : Change SourceTold) (sink : Change SinkTold) (polls : PollCounts) : Type 0 where
  pub read : Gains source.before.given source.after.given []
  pub written : Gains sink.before.held sink.after.held []
  pub unpolled : polls.made ≡ 0

-- a bad command line, or memory was refused at the opening
pub record Refuses (outcome : Outcome) (source : Change SourceTold) (sink : Change SinkTold) (polls : PollCounts) :
    Type 0 where
  pub why : (outcome ≡ Outcome.Usage) ⊎ (outcome ≡ Outcome.NoMemory)
  pub nothing : DidNothing source sink polls

-- What a command comes to that hands back no journal: a journal's text was read, and the verdict on it or the answers
-- of a node were written; or nothing was done.
abbrev pub RunsWithout : Option Command → Outcome → Change SourceTold → Change SinkTold → PollCounts → Type 0
RunsWithout (Some (Command.Audit audit)) outcome source sink polls =
    Refuses outcome source sink polls ⊎ Reads verdict outcome (reading audit.entries source sink polls)
RunsWithout (Some (Command.History inquiry)) outcome source sink polls =
    Refuses outcome source sink polls
    ⊎ Reads (answers_for inquiry.node) outcome (reading inquiry.entries source sink polls)
RunsWithout asked outcome source sink polls = Refuses outcome source sink polls
