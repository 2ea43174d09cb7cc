-- Durations: digits and a unit, in milliseconds.
use Rattle.std.specs.Prelude.{
  ℕ,
  List,
  [],
  ◌∷◌,
  ◌*◌,
  ◌||◌,
  if◌then◌else◌,
  nat_le,
  Option,
  Some,
  None,
  Result,
  Ok,
  Err,
  bytes_eq,
  codes,
  take_while,
  drop,
}
use Rattle.std.specs.List.{prefix_len}
use Rattle.std.specs.Char.{is_ascii_digit}
use Rattle.fnc_journal.specs.declared.limits.TheConstants.{DAY}
use Rattle.fnc_text.specs.Digits.{digits_value}
use Rattle.fnc_text.specs.declared.duration.DurationFault.{DurationFault}

-- what follows the digits that a text begins with
abbrev pub after_digits : List ℕ → List ℕ
after_digits text = drop (prefix_len is_ascii_digit text) text

-- how many milliseconds a unit is: none, s and sec are seconds
abbrev pub unit : List ℕ → Option ℕ
unit text =
    if bytes_eq text [] || bytes_eq text (codes "s") || bytes_eq text (codes "sec") then Some 1000
    else (if bytes_eq text (codes "ms") || bytes_eq text (codes "msec") then Some 1
    else (if bytes_eq text (codes "m") || bytes_eq text (codes "min") then Some 60000
    else (if bytes_eq text (codes "h") || bytes_eq text (codes "hr") then Some 3600000
    else None)))

-- a day at most
abbrev pub within_a_day : ℕ → Result ℕ DurationFault
within_a_day ms = if nat_le ms DAY then Ok ms else Err DurationFault.TooLarge

-- so many of a unit
abbrev pub counted : ℕ → Option ℕ → Result ℕ DurationFault
counted n None = Err DurationFault.BadUnit
counted n (Some ms) = within_a_day (n * ms)

-- the duration that a text spells, or its first fault
abbrev pub duration : List ℕ → Result ℕ DurationFault
duration [] = Err DurationFault.Empty
duration (b ∷ bs) =
    if is_ascii_digit b then counted (digits_value (take_while is_ascii_digit (b ∷ bs))) (unit (after_digits (b ∷ bs)))
    else Err DurationFault.NoDigits
