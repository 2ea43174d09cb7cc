-- The words of `ask`, with its options: the total, and in mode Timed the coin.
use Rattle.std.specs.Prelude.{
  ℕ,
  List,
  [],
  ◌∷◌,
  if◌then◌else◌,
  nat_le,
  length,
  codes,
  bytes_eq,
  is_none,
  ok_or,
  unwrap_or,
  Option,
  Some,
  None,
  Result,
  Ok,
  Err,
}
use Rattle.fnc_journal.specs.declared.limits.TheConstants.{DEFAULT_TOTAL}
use Rattle.fnc_journal.specs.declared.cause.Cause.{Cause}
use Rattle.fnc_text.specs.declared.duration.DurationFault.{DurationFault}
use Rattle.fnc_text.specs.Digits.{number}
use Rattle.fnc_text.specs.Durations.{duration}
use Rattle.fnc_command.specs.declared.ask.AskOptions.{AskOptions}
use Rattle.fnc_command.specs.declared.ask.OptionName.{OptionName}
use Rattle.fnc_command.specs.declared.command.Command.{Command}
use Rattle.fnc_command.specs.declared.command.Mode.{Mode}
use Rattle.fnc_command.specs.Answers.{and_then}
use Rattle.fnc_command.specs.Fields.{passing, bytes_of, text_of, name_of, action_of}
use Rattle.fnc_command.specs.Options.{cut_option}

-- the words after `ask`: three, and at most two option words
pub record Asking : Type 0 where
  pub client : List ℕ
  pub action : List ℕ
  pub target : List ℕ
  pub options : List (List ℕ)

-- cut so, where they are enough and not too many
abbrev pub asking : List (List ℕ) → Result Asking Cause
asking (client ∷ action ∷ target ∷ options) =
    passing Cause.ExtraWord (nat_le (length options) 2)
    (record { client = client; action = action; target = target; options = options })
asking _ = Err Cause.MissingWord

-- the coin is an option in mode Timed alone
abbrev pub coin_name : Mode → List ℕ → Option OptionName
coin_name Mode.Live name = None
coin_name Mode.Timed name = if bytes_eq name (codes "coin") then Some OptionName.Coin else None

-- the options by their names
abbrev pub option_name : Mode → List ℕ → Option OptionName
option_name mode name = if bytes_eq name (codes "total") then Some OptionName.Total else coin_name mode name

-- a duration of at least a millisecond
abbrev pub at_least_one : Result ℕ DurationFault → Option ℕ
at_least_one (Ok ms) = if nat_le 1 ms then Some ms else None
at_least_one (Err fault) = None

-- an option with its value, beside those before it. None comes twice
abbrev pub with_option : AskOptions → List ℕ → Option OptionName → Result AskOptions Cause
with_option before value None = Err Cause.BadWord
with_option before value (Some OptionName.Total) =
    and_then (ok_or (at_least_one (duration value)) Cause.BadTotal) (λ ms.
    passing Cause.BadWord (is_none before.total) (record before { total = Some ms }))
with_option before value (Some OptionName.Coin) =
    and_then (ok_or (number 18446744073709551615 value) Cause.BadNumber) (λ n.
    passing Cause.BadWord (is_none before.coin) (record before { coin = Some n }))

-- the value that a word spells: that of the coin is a number, any other is a text
abbrev pub value_of : Option OptionName → List ℕ → Result (List ℕ) Cause
value_of (Some OptionName.Coin) word = bytes_of word
value_of _ word = text_of word

-- a word that was cut at its equals sign, beside the options before it. A name is a text
abbrev pub with_cut : Mode → AskOptions → List ℕ → Option (List ℕ × List ℕ) → Result AskOptions Cause
with_cut mode before word None = and_then (text_of word) (λ t. Err Cause.BadWord)
with_cut mode before word (Some cut) =
    and_then (text_of cut.0) (λ name. and_then (value_of (option_name mode name) cut.1) (λ value.
    with_option before value (option_name mode name)))

-- the options of words, beside those before them
abbrev pub with_words : Mode → AskOptions → List (List ℕ) → Result AskOptions Cause
with_words mode before [] = Ok before
with_words mode before (word ∷ ws) =
    and_then (with_cut mode before word (cut_option word)) (λ next. with_words mode next ws)

-- before any option
abbrev pub no_options : AskOptions
no_options = record { total = None; coin = None }

-- the words of `ask`. A total is 600 s where none is said
abbrev pub ask_of : Mode → Asking → Result Command Cause
ask_of mode a =
    and_then (name_of a.client) (λ client. and_then (action_of a.action) (λ kind.
    and_then (name_of a.target) (λ target. and_then (with_words mode no_options a.options) (λ o.
    Ok (Command.Ask client kind target (unwrap_or o.total DEFAULT_TOTAL) o.coin)))))

-- `ask CLIENT ACTION TARGET [total=DURATION] [coin=NUMBER]`, in mode Live without the coin
abbrev pub said_ask : Mode → List (List ℕ) → Result Command Cause
said_ask mode ws = and_then (asking ws) (ask_of mode)
