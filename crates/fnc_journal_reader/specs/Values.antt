-- What the words of a line are read as. Reading takes more than the spellings: which line is one is told by printing
-- again.
use Rattle.std.specs.Prelude.{
  ℕ,
  List,
  [],
  ◌∷◌,
  Bool,
  ◌==◌,
  if◌then◌else◌,
  Option,
  Some,
  None,
  Result,
  Ok,
  Err,
  ℤ,
  pos,
  neg_ℤ,
  bytes_eq,
  codes,
  find,
  drop,
}
use Rattle.std.specs.List.{list_any}
use Rattle.fnc_journal.specs.declared.cause.Cause.{Cause}
use Rattle.fnc_journal.specs.declared.definition.Actions.{Actions}
use Rattle.fnc_journal.specs.declared.definition.Allowed.{Allowed}
use Rattle.fnc_journal.specs.declared.definition.Base.{Base}
use Rattle.fnc_journal.specs.declared.definition.Delay.{Delay}
use Rattle.fnc_journal.specs.declared.definition.HostCheck.{HostCheck}
use Rattle.fnc_journal.specs.declared.definition.Parameter.{Parameter}
use Rattle.fnc_journal.specs.declared.entry.Answer.{Answer}
use Rattle.fnc_journal.specs.declared.entry.Exit.{Exit}
use Rattle.fnc_journal.specs.declared.entry.Kind.{Kind}
use Rattle.fnc_journal.specs.declared.entry.LevelTarget.{LevelTarget}
use Rattle.fnc_journal.specs.declared.entry.Phase.{Phase}
use Rattle.fnc_journal.specs.declared.entry.Scope.{Scope}
use Rattle.fnc_journal.specs.declared.limits.TheConstants.{GREATEST_PRIORITY}
use Rattle.fnc_journal.specs.declared.names.Pair.{Pair}
use Rattle.fnc_journal.specs.Causes.{word_of}
use Rattle.fnc_journal.specs.Line.{kind_word}
use Rattle.fnc_text.specs.declared.escape.EscapeFault.{EscapeFault}
use Rattle.fnc_text.specs.Digits.{number}
use Rattle.fnc_text.specs.Escapes.{unescaped_text}
use Rattle.fnc_journal_reader.specs.declared.fault.EntryFault.{EntryFault}
use Rattle.fnc_journal_reader.specs.declared.cases.TheConstants.{CAUSES, CHECKS, KINDS, PHASES}
use Rattle.fnc_journal_reader.specs.Cuts.{after, front, parts}
use Rattle.fnc_journal_text.specs.Spelled.{check_word, phase_word}
use Rattle.fnc_journal_reader.specs.Reads.{◌>>=◌, each, or_malformed}

-- a number of at most this
abbrev pub number_of : ℕ → List ℕ → Result ℕ EntryFault
number_of most text = or_malformed (number most text)

-- numbers of 64, 32 and 8 bits
abbrev pub u64_of : List ℕ → Result ℕ EntryFault
u64_of text = number_of 18446744073709551615 text

abbrev pub u32_of : List ℕ → Result ℕ EntryFault
u32_of text = number_of 4294967295 text

abbrev pub u8_of : List ℕ → Result ℕ EntryFault
u8_of text = number_of 255 text

-- what was unescaped
abbrev pub or_no_text : Result (List ℕ) EscapeFault → Result (List ℕ) EntryFault
or_no_text (Ok text) = Ok text
or_no_text (Err fault) = Err EntryFault.Malformed

-- the text that a word spells
abbrev pub text_of : List ℕ → Result (List ℕ) EntryFault
text_of word = or_no_text (unescaped_text word)

-- a text that need not be there
abbrev pub optional_of : List ℕ → Result (Option (List ℕ)) EntryFault
optional_of [] = Ok None
optional_of (b ∷ bs) = text_of (b ∷ bs) >>= λ text. Ok (Some text)

-- a flag
abbrev pub flag_of : List ℕ → Bool
flag_of word = bytes_eq word (codes "1")

-- whether a word is in a list
abbrev pub has_word : List ℕ → List ℕ → Bool
has_word text word = list_any (bytes_eq word) (parts 44 text)

-- a list of actions
abbrev pub actions_of : List ℕ → Actions
actions_of text =
    record {
      on = has_word text (codes "on");
      off = has_word text (codes "off");
      reboot = has_word text (codes "reboot");
      list = has_word text (codes "list");
      status = has_word text (codes "status");
    }

-- a host check by its word
abbrev pub check_of : List ℕ → Result HostCheck EntryFault
check_of word = or_malformed (find (λ c. bytes_eq word (check_word c)) CHECKS)

-- an action by its word
abbrev pub kind_of : List ℕ → Result Kind EntryFault
kind_of word = or_malformed (find (λ k. bytes_eq word (kind_word k)) KINDS)

-- a phase by its word
abbrev pub phase_of : List ℕ → Result Phase EntryFault
phase_of word = or_malformed (find (λ p. bytes_eq word (phase_word p)) PHASES)

-- an exit
abbrev pub exit_of : List ℕ → Result Exit EntryFault
exit_of word =
    if bytes_eq word (codes "signal") then Ok Exit.Signal
    else (if bytes_eq word (codes "no-start") then Ok Exit.NoStart
    else (if bytes_eq word (codes "too-long") then Ok Exit.TooLong
    else (if bytes_eq word (codes "no-memory") then Ok Exit.NoMemory
    else (u8_of word >>= λ code. Ok (Exit.Code code)))))

-- a cause by its word
abbrev pub cause_of : List ℕ → Result Cause EntryFault
cause_of word = or_malformed (find (λ c. bytes_eq word (word_of c)) CAUSES)

-- a scope
abbrev pub scope_of : List ℕ → Result Scope EntryFault
scope_of word =
    if bytes_eq word (codes "none") then Ok Scope.Nothing
    else (if bytes_eq word (codes "name") then Ok Scope.Name
    else (u32_of (after 58 word) >>= λ index. Ok (Scope.Pattern index)))

-- an answer that is a success, and one that is none
abbrev pub success_of : List ℕ → Result Answer EntryFault
success_of word =
    if bytes_eq word (codes "confirmed") then Ok Answer.Confirmed
    else (u8_of word >>= λ level. Ok (Answer.Passed level))

abbrev pub failure_of : List ℕ → Result Answer EntryFault
failure_of word =
    if bytes_eq word (codes "levels") then Ok Answer.Levels
    else (if bytes_eq word (codes "time") then Ok Answer.Time
    else (if bytes_eq word (codes "none") then Ok Answer.NoDevice
    else Err EntryFault.Malformed))

-- an answer in two words
abbrev pub answer_of : List ℕ → List ℕ → Result Answer EntryFault
answer_of first second = if bytes_eq first (codes "ok") then success_of second else failure_of second

-- what a level is for
abbrev pub target_of : List ℕ → List ℕ → Result LevelTarget EntryFault
target_of word text =
    text_of text >>= λ read.
    if bytes_eq word (codes "name") then Ok (LevelTarget.Name read) else Ok (LevelTarget.Pattern read)

-- a limit of runs
abbrev pub cap_of : List ℕ → Result (Option ℕ) EntryFault
cap_of text = if bytes_eq text (codes "-1") then Ok None else (u32_of text >>= λ limit. Ok (Some limit))

-- a priority
abbrev pub priority_of : List ℕ → Result ℤ EntryFault
priority_of [] = Err EntryFault.Malformed
priority_of (b ∷ bs) =
    if b == 45 then (number_of GREATEST_PRIORITY bs >>= λ n. Ok (neg_ℤ (pos n)))
    else (number_of GREATEST_PRIORITY (b ∷ bs) >>= λ n. Ok (pos n))

-- a name and a value, cut at a byte
abbrev pub pair_of : ℕ → List ℕ → Result Pair EntryFault
pair_of sep part =
    text_of (front sep part) >>= λ name.
    text_of (after sep part) >>= λ value.
    Ok (record { name = name; value = value })

-- a node and its delay
abbrev pub delay_of : List ℕ → Result Delay EntryFault
delay_of part =
    text_of (front 58 part) >>= λ name. u64_of (after 58 part) >>= λ ms. Ok (record { name = name; ms = ms })

-- an option after the two bytes `o.`, and a parameter after `p.`
abbrev pub own_of : List ℕ → Result Pair EntryFault
own_of word = pair_of 61 (drop 2 word)

abbrev pub parameter_of : List ℕ → Result Parameter EntryFault
parameter_of word =
    text_of (front 61 (drop 2 word)) >>= λ name.
    Ok (record { name = name; required = flag_of (after 61 (drop 2 word)) })

-- a delay, written for all nodes or node by node
abbrev pub base_of : List ℕ → Result Base EntryFault
base_of text =
    if list_any (λ b. b == 58) text then (each delay_of (parts 59 text) >>= λ delays. Ok (Base.ByNode delays))
    else (u64_of text >>= λ ms. Ok (Base.Fixed ms))

-- what an action is allowed
abbrev pub allowed_of : List ℕ → Result Allowed EntryFault
allowed_of text =
    text_of (front 47 text) >>= λ word.
    u64_of (front 47 (after 47 text)) >>= λ time.
    u8_of (after 47 (after 47 text)) >>= λ tries.
    Ok (record { word = word; time = time; tries = tries })
