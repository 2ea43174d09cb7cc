-- Options that are durations, in milliseconds.
use Rattle.std.specs.Prelude.{ℕ, List, Option, Some, None, Result, Ok, Err}
use Rattle.fnc_journal.specs.declared.names.Pair.{Pair}
use Rattle.fnc_text.specs.declared.duration.DurationFault.{DurationFault}
use Rattle.fnc_text.specs.Durations.{duration}
use Rattle.fnc_device.specs.declared.fault.DefineFault.{DefineFault}
use Rattle.fnc_device.specs.Options.{value_of}

-- a duration that was read, or the fault of the option of this name
abbrev pub or_bad : List ℕ → Result ℕ DurationFault → Result ℕ DefineFault
or_bad name (Ok ms) = Ok ms
or_bad name (Err e) = Err (DefineFault.BadDuration name)

-- what an option of this name says, or the default where it says nothing
abbrev pub time_of : List ℕ → ℕ → Option (List ℕ) → Result ℕ DefineFault
time_of name default None = Ok default
time_of name default (Some text) = or_bad name (duration text)

-- the duration that an option says, or the default
abbrev pub time : List ℕ → ℕ → List Pair → Result ℕ DefineFault
time name default options = time_of name default (value_of name options)
