-- What each action is allowed: the word that the agent is sent, its time, and its tries.
use Rattle.std.specs.Prelude.{
  ℕ,
  List,
  ◌++◌,
  ◌==◌,
  if◌then◌else◌,
  max,
  Option,
  Some,
  None,
  Result,
  Ok,
  Err,
  unwrap_or,
  codes,
}
use Rattle.fnc_journal.specs.declared.limits.TheConstants.{DEFAULT_TIME, DEFAULT_TRIES, MOST_TRIES}
use Rattle.fnc_journal.specs.declared.definition.Allowed.{Allowed}
use Rattle.fnc_journal.specs.declared.entry.Kind.{Kind}
use Rattle.fnc_journal.specs.declared.names.Pair.{Pair}
use Rattle.fnc_journal.specs.Line.{kind_word}
use Rattle.fnc_text.specs.declared.duration.DurationFault.{DurationFault}
use Rattle.fnc_text.specs.Digits.{number}
use Rattle.fnc_text.specs.Durations.{duration}
use Rattle.fnc_device.specs.declared.fault.DefineFault.{DefineFault}
use Rattle.fnc_device.specs.declared.allowance.Allowances.{Allowances}
use Rattle.fnc_device.specs.Steps.{◌>>=◌}
use Rattle.fnc_device.specs.Options.{action_option, value_of}

-- the options that say an action's time and its tries
abbrev pub timeout_option : Kind → List ℕ
timeout_option kind = codes "pcmk_" ++ kind_word kind ++ codes "_timeout"

abbrev pub retries_option : Kind → List ℕ
retries_option kind = codes "pcmk_" ++ kind_word kind ++ codes "_retries"

-- a time is at least a millisecond
abbrev pub some_time : List ℕ → Result ℕ DurationFault → Result ℕ DefineFault
some_time name (Ok ms) = if ms == 0 then Err (DefineFault.BadDuration name) else Ok ms
some_time name (Err e) = Err (DefineFault.BadDuration name)

-- the time for all tries, a minute where none is given
abbrev pub timeout_of : List ℕ → Option (List ℕ) → Result ℕ DefineFault
timeout_of name None = Ok DEFAULT_TIME
timeout_of name (Some text) = some_time name (duration text)

-- no tries are one
abbrev pub some_tries : List ℕ → Option ℕ → Result ℕ DefineFault
some_tries name None = Err (DefineFault.BadRetries name)
some_tries name (Some n) = Ok (max n 1)

-- the tries in all, two where none are given
abbrev pub retries_of : List ℕ → Option (List ℕ) → Result ℕ DefineFault
retries_of name None = Ok DEFAULT_TRIES
retries_of name (Some text) = some_tries name (number MOST_TRIES text)

-- the word that the agent is sent, the action's own where none is given
abbrev pub word : Kind → List Pair → List ℕ
word kind options = unwrap_or (value_of (action_option kind) options) (kind_word kind)

-- what an action is allowed
abbrev pub allowed : Kind → List Pair → Result Allowed DefineFault
allowed kind options =
    timeout_of (timeout_option kind) (value_of (timeout_option kind) options) >>= λ time.
    retries_of (retries_option kind) (value_of (retries_option kind) options) >>= λ tries.
    Ok (record { word = word kind options; time = time; tries = tries })

-- what each action is allowed
abbrev pub allowances : List Pair → Result Allowances DefineFault
allowances options =
    allowed Kind.On options >>= λ on.
    allowed Kind.Off options >>= λ off.
    allowed Kind.Reboot options >>= λ reboot.
    allowed Kind.List options >>= λ list.
    allowed Kind.Status options >>= λ status.
    Ok (record { on = on; off = off; reboot = reboot; list = list; status = status })
