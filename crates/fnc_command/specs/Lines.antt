-- The line language: what a whole line says, or the first cause why it says nothing.
use Rattle.std.specs.Prelude.{
  ℕ,
  List,
  [],
  ◌∷◌,
  if◌then◌else◌,
  nat_lt,
  length,
  codes,
  bytes_eq,
  ok_or,
  Option,
  Some,
  None,
  Result,
  Ok,
  Err,
}
use Rattle.std.specs.Option.{option_or}
use Rattle.std.specs.Str.{is_utf8}
use Rattle.fnc_journal.specs.declared.limits.TheConstants.{GREATEST_MOMENT, LONGEST_LINE}
use Rattle.fnc_journal.specs.declared.cause.Cause.{Cause}
use Rattle.fnc_text.specs.Words.{words}
use Rattle.fnc_command.specs.declared.command.Command.{Command}
use Rattle.fnc_command.specs.declared.command.ExitRead.{ExitRead}
use Rattle.fnc_command.specs.declared.command.Mode.{Mode}
use Rattle.fnc_command.specs.declared.command.Read.{Read}
use Rattle.fnc_command.specs.declared.head.Verb.{Verb}
use Rattle.fnc_command.specs.Answers.{and_then}
use Rattle.fnc_command.specs.Asks.{said_ask}
use Rattle.fnc_command.specs.Commands.{said_remove, said_agent, said_exit, said_pass, said_confirm}
use Rattle.fnc_command.specs.Fields.{bytes_of, number_of}
use Rattle.fnc_command.specs.Levels.{said_level, said_unlevel}
use Rattle.fnc_command.specs.Options.{said_device}

-- the same, whatever the cause was
abbrev pub as_cause : {X : Type 0} → Cause → Result X Cause → Result X Cause
as_cause cause (Ok x) = Ok x
as_cause cause (Err other) = Err cause

-- the moment that a word spells, in milliseconds
abbrev pub moment_of : List ℕ → Result ℕ Cause
moment_of word = as_cause Cause.BadMoment (number_of GREATEST_MOMENT word)

-- the verbs of both modes
abbrev pub common_verb : List ℕ → Option Verb
common_verb bytes =
    if bytes_eq bytes (codes "device") then Some Verb.Device
    else (if bytes_eq bytes (codes "remove") then Some Verb.Remove
    else (if bytes_eq bytes (codes "level") then Some Verb.Level
    else (if bytes_eq bytes (codes "unlevel") then Some Verb.Unlevel
    else (if bytes_eq bytes (codes "agent") then Some Verb.Agent
    else (if bytes_eq bytes (codes "ask") then Some Verb.Ask
    else (if bytes_eq bytes (codes "confirm") then Some Verb.Confirm
    else None))))))

-- the verbs of mode Timed alone
abbrev pub timed_verb : Mode → List ℕ → Option Verb
timed_verb Mode.Live bytes = None
timed_verb Mode.Timed bytes =
    if bytes_eq bytes (codes "exit") then Some Verb.Exit
    else (if bytes_eq bytes (codes "pass") then Some Verb.Pass
    else None)

-- the verb of a mode
abbrev pub verb : Mode → List ℕ → Option Verb
verb mode bytes = option_or (common_verb bytes) (timed_verb mode bytes)

-- the verb that a word spells
abbrev pub verb_of : Mode → List ℕ → Result Verb Cause
verb_of mode word =
    as_cause Cause.UnknownVerb (and_then (bytes_of word) (λ bytes. ok_or (verb mode bytes) Cause.UnknownVerb))

-- how a line begins: in mode Timed with a moment, then with a verb; and the words after it
pub record Beginning : Type 0 where
  pub moment : Option ℕ
  pub verb : Verb
  pub words : List (List ℕ)

-- the verb, after the moment
abbrev pub after_moment : Mode → Option ℕ → List (List ℕ) → Result Beginning Cause
after_moment mode moment [] = Err Cause.MissingWord
after_moment mode moment (word ∷ ws) =
    and_then (verb_of mode word) (λ verb. Ok (record { moment = moment; verb = verb; words = ws }))

-- how words begin
abbrev pub beginning : Mode → List (List ℕ) → Result Beginning Cause
beginning mode [] = Err Cause.Empty
beginning Mode.Timed (word ∷ ws) = and_then (moment_of word) (λ moment. after_moment Mode.Timed (Some moment) ws)
beginning Mode.Live (word ∷ ws) = after_moment Mode.Live None (word ∷ ws)

-- what the words after a verb say
abbrev pub command : Mode → Verb → List (List ℕ) → Result Command Cause
command mode Verb.Device ws = said_device ws
command mode Verb.Remove ws = said_remove ws
command mode Verb.Level ws = said_level ws
command mode Verb.Unlevel ws = said_unlevel ws
command mode Verb.Agent ws = said_agent ws
command mode Verb.Ask ws = said_ask mode ws
command mode Verb.Exit ws = said_exit ws
command mode Verb.Pass ws = said_pass ws
command mode Verb.Confirm ws = said_confirm ws

-- the words of a line that can be read: at most 8192 bytes of UTF-8
abbrev pub readable : List ℕ → Result (List (List ℕ)) Cause
readable line =
    if nat_lt LONGEST_LINE (length line) then Err Cause.TooLong
    else (if is_utf8 line then Ok (words line) else Err Cause.NotUtf8)

-- what a line says after its beginning
abbrev pub said_after : Mode → Beginning → Result Read Cause
said_after mode b =
    and_then (command mode b.verb b.words) (λ command. Ok (record { moment = b.moment; command = command }))

-- what a line says
abbrev pub said : Mode → List ℕ → Result Read Cause
said mode line = and_then (readable line) (λ ws. and_then (beginning mode ws) (λ b. said_after mode b))

-- an exit at a moment, with the bytes of its output
abbrev pub exit_at : Command → Option ℕ → Option (ExitRead × List ℕ)
exit_at (Command.Exit run exit output) (Some moment) = Some (record { moment = moment; run = run; exit = exit }, output)
exit_at _ _ = None

-- the exit that a line says, if it says one
abbrev pub exit_said : Result Read Cause → Option (ExitRead × List ℕ)
exit_said (Ok read) = exit_at read.command read.moment
exit_said (Err cause) = None
