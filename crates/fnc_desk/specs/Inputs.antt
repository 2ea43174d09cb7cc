-- The input entry that a line gives, with the journal that it finds, the last moment and its number.
use Rattle.std.specs.Prelude.{ℕ, ◌≡◌, List, [], ◌∷◌, ◌+◌, ◌-◌, ◌^◌, Bool, true, false, not, ◌&&◌, ◌⊎◌, if◌then◌else◌, min, max, nat_lt, Some, None, unwrap_or, Result, Ok, Err}
use Rattle.fnc_journal.specs.declared.cause.Cause.{Cause}
use Rattle.fnc_journal.specs.declared.entry.Entry.{Entry}
use Rattle.fnc_journal.specs.declared.event.Event.{Event}
use Rattle.fnc_journal.specs.History.{History}
use Rattle.fnc_journal.specs.Found.{is_input}
use Rattle.fnc_outside.specs.Events.{Happening}
use Rattle.fnc_command.specs.declared.command.Command.{Command}
use Rattle.fnc_command.specs.declared.command.ExitRead.{ExitRead}
use Rattle.fnc_command.specs.declared.command.Mode.{Mode}
use Rattle.fnc_command.specs.declared.command.Read.{Read}
use Rattle.fnc_command.specs.Lines.{exit_said, said}
use Rattle.fnc_core.specs.Cored.{Cored}
use Rattle.fnc_desk.specs.Called.{Called, CallsFor}
use Rattle.fnc_desk.specs.declared.entering.Given.{Given}

-- in mode Timed a line says its own, and a coin that it does not say is 0
abbrev pub given_in : Mode → Given → Given
given_in Mode.Timed given = record { moment = 0; coin = 0 }
given_in Mode.Live given = given

-- whether it is the exit of a run
abbrev pub is_exit : Event → Bool
is_exit (Event.Exit ended) = true
is_exit _ = false

-- whether a line gives such an entry: in mode Live an exit is told by no line
abbrev pub is_of_line : Mode → Event → Bool
is_of_line Mode.Timed event = is_input event
is_of_line Mode.Live event = is_input event && not (is_exit event)

-- how many entries of a journal lines gave
abbrev pub inputs : Mode → History → ℕ
inputs mode [] = 0
inputs mode (e ∷ before) = if is_of_line mode e.event then inputs mode before + 1 else inputs mode before

-- Lines are numbered from 1, and each gives one input. The number stands still at the greatest that it can be.
abbrev pub line_number : ℕ → ℕ
line_number before = min (before + 1) (2 ^ 32 - 1)

-- a line that is refused for a cause
abbrev pub refused : ℕ → ℕ → Cause → Entry
refused m number cause = record { moment = m; event = Event.Refused (record { line = number; cause = cause }) }

-- the entry of what a line calls for
abbrev pub entry_of : ℕ → ℕ → Called → Entry
entry_of m number (Ok event) = record { moment = m; event = event }
entry_of m number (Err cause) = refused m number cause

-- an exit that was read, with its output, as what its line says
abbrev pub read_of : ExitRead → List ℕ → Read
read_of exit output = record { moment = Some exit.moment; command = Command.Exit exit.run exit.exit output }

-- the moment of a line that was read
abbrev pub moment_in : Given → Read → ℕ
moment_in given read = unwrap_or read.moment given.moment

-- a command calls for an entry, after what came before it
pub record GivesCommand (v : Cored) (coin : ℕ) (command : Command) (number : ℕ) (e : Entry) : Type 0 where
  pub called : Called
  pub calls : CallsFor v coin command called
  pub is : e ≡ entry_of v.last number called

-- the same at the last moment, after these entries
abbrev pub GivesNow : Cored → ℕ → Command → ℕ → History → Entry → Type 0
GivesNow v coin command number h e =
    GivesCommand (record { history = h; last = v.last; limit = v.limit }) coin command number e

-- the same, or want of memory in its place
abbrev pub GivesOther : Cored → ℕ → Command → ℕ → History → Entry → Type 0
GivesOther v coin command number h e =
    GivesNow v coin command number h e ⊎ (e ≡ refused v.last number Cause.NoMemory)

-- whether a command tells of the end of a run
abbrev pub ends_run : Command → Bool
ends_run (Command.Exit run exit output) = true
ends_run _ = false

-- a line that was read is refused where its moment is past, and else gives what it calls for at its moment
abbrev pub GivesIfPast : Bool → Given → Read → History → ℕ → ℕ → ℕ → Entry → Type 0
GivesIfPast true given read h last limit number e = e ≡ refused last number Cause.PastMoment
GivesIfPast false given read h last limit number e =
    GivesCommand (record { history = h; last = moment_in given read; limit = limit }) given.coin read.command number e

-- one that could not be read is refused at the last moment
abbrev pub GivesRead : Given → Result Read Cause → History → ℕ → ℕ → ℕ → Entry → Type 0
GivesRead given (Err cause) h last limit number e = e ≡ refused last number cause
GivesRead given (Ok read) h last limit number e =
    GivesIfPast (nat_lt (moment_in given read) last) given read h last limit number e

-- the moment at which a line enters
abbrev pub moment_of_line : Given → Result Read Cause → ℕ → ℕ
moment_of_line given (Err cause) last = last
moment_of_line given (Ok read) last = max last (moment_in given read)

-- want of memory stands in place of any line but an exit that says its moment, at the line's moment or the last one
pub record LacksMemory (given : Given) (line : Result Read Cause) (last number : ℕ) (e : Entry) : Type 0 where
  pub no_exit : exit_said line ≡ None
  pub is :
      (e ≡ refused last number Cause.NoMemory)
      ⊎ (e ≡ refused (moment_of_line given line last) number Cause.NoMemory)

-- the entry of a line that was read, or was not
abbrev pub GivesLine : Given → Result Read Cause → History → ℕ → ℕ → ℕ → Entry → Type 0
GivesLine given line h last limit number e =
    GivesRead given line h last limit number e ⊎ LacksMemory given line last number e

-- the entry that a line gives; a line that was too long for the buffer is refused
abbrev pub Gives : Mode → Given → Happening → History → ℕ → ℕ → ℕ → Entry → Type 0
Gives mode given (Happening.Line bytes) h last limit number e =
    GivesLine (given_in mode given) (said mode bytes) h last limit number e
Gives mode given (Happening.TooLong size) h last limit number e = e ≡ refused last number Cause.TooLong
Gives mode given Happening.Again h last limit number e = ⊥
