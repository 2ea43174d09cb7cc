-- What one word says.
use Rattle.std.specs.Prelude.{
  ℕ,
  List,
  ◌==◌,
  not,
  ◌&&◌,
  Bool,
  if◌then◌else◌,
  codes,
  bytes_eq,
  ok_or,
  Option,
  Some,
  None,
  Result,
  Ok,
  Err,
}
use Rattle.std.specs.List.{list_any}
use Rattle.std.specs.Str.{is_utf8}
use Rattle.fnc_journal.specs.declared.cause.Cause.{Cause}
use Rattle.fnc_journal.specs.declared.entry.Kind.{Kind}
use Rattle.fnc_journal.specs.declared.entry.Exit.{Exit}
use Rattle.fnc_text.specs.declared.escape.EscapeFault.{EscapeFault}
use Rattle.fnc_text.specs.Digits.{number}
use Rattle.fnc_text.specs.Escapes.{unescaped}
use Rattle.fnc_journal.specs.Names.{is_name}
use Rattle.fnc_command.specs.Answers.{and_then}

-- a fault of escapes is one cause
abbrev pub well_spelled : Result (List ℕ) EscapeFault → Result (List ℕ) Cause
well_spelled (Ok bytes) = Ok bytes
well_spelled (Err fault) = Err Cause.BadEscape

-- the bytes that a word spells
abbrev pub bytes_of : List ℕ → Result (List ℕ) Cause
bytes_of word = well_spelled (unescaped word)

-- a value that has to pass a test, else this is the cause
abbrev pub passing : {X : Type 0} → Cause → Bool → X → Result X Cause
passing cause passes x = if passes then Ok x else Err cause

-- the text that a word spells: its bytes, where they are UTF-8
abbrev pub text_of : List ℕ → Result (List ℕ) Cause
text_of word = and_then (bytes_of word) (λ bytes. passing Cause.BadEscape (is_utf8 bytes) bytes)

-- the name that a word spells
abbrev pub name_of : List ℕ → Result (List ℕ) Cause
name_of word = and_then (text_of word) (λ t. passing Cause.BadName (is_name t) t)

-- whether bytes have an equals sign
abbrev pub has_equals : List ℕ → Bool
has_equals bytes = list_any (λ b. b == 61) bytes

-- an agent's name is a name without an equals sign
abbrev pub is_agent_name : List ℕ → Bool
is_agent_name t = is_name t && not (has_equals t)

-- the name of an agent that a word spells
abbrev pub agent_of : List ℕ → Result (List ℕ) Cause
agent_of word = and_then (text_of word) (λ t. passing Cause.BadName (is_agent_name t) t)

-- the number up to a limit that a word spells
abbrev pub number_of : ℕ → List ℕ → Result ℕ Cause
number_of most word = and_then (bytes_of word) (λ bytes. ok_or (number most bytes) Cause.BadNumber)

-- the action that can be asked for
abbrev pub action : List ℕ → Option Kind
action bytes =
    if bytes_eq bytes (codes "on") then Some Kind.On
    else (if bytes_eq bytes (codes "off") then Some Kind.Off
    else (if bytes_eq bytes (codes "reboot") then Some Kind.Reboot
    else None))

-- the action that a word spells
abbrev pub action_of : List ℕ → Result Kind Cause
action_of word = and_then (bytes_of word) (λ bytes. ok_or (action bytes) Cause.BadAction)

-- the exits without a status
abbrev pub named_exit : List ℕ → Option Exit
named_exit bytes =
    if bytes_eq bytes (codes "signal") then Some Exit.Signal
    else (if bytes_eq bytes (codes "no-start") then Some Exit.NoStart
    else (if bytes_eq bytes (codes "too-long") then Some Exit.TooLong
    else (if bytes_eq bytes (codes "no-memory") then Some Exit.NoMemory
    else None)))

-- that exit, else one by this status
abbrev pub or_coded : Option Exit → Option ℕ → Option Exit
or_coded (Some exit) code = Some exit
or_coded None None = None
or_coded None (Some code) = Some (Exit.Code code)

-- how a run ended: a named exit, or a status from 0 to 255
abbrev pub exit : List ℕ → Option Exit
exit bytes = or_coded (named_exit bytes) (number 255 bytes)

-- the exit that a word spells
abbrev pub exit_of : List ℕ → Result Exit Cause
exit_of word = and_then (bytes_of word) (λ bytes. ok_or (exit bytes) Cause.BadExit)
