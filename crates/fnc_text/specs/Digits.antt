-- Numbers written in decimal digits.
use Rattle.std.specs.Prelude.{
  ℕ,
  List,
  [],
  ◌∷◌,
  ◌+◌,
  ◌-◌,
  ◌*◌,
  ◌^◌,
  Bool,
  ◌&&◌,
  if◌then◌else◌,
  nat_lt,
  nat_le,
  length,
  Option,
  Some,
  None,
}
use Rattle.std.specs.List.{list_all}
use Rattle.std.specs.Char.{is_ascii_digit}

-- the number that decimal digits spell: the first counts ten times for each digit after it
abbrev pub digits_value : List ℕ → ℕ
digits_value [] = 0
digits_value (d ∷ ds) = (d - 48) * 10 ^ length ds + digits_value ds

-- the number, where it is at most a limit
abbrev pub at_most : ℕ → ℕ → Option ℕ
at_most most n = if nat_le n most then Some n else None

-- whether a text is 1 to 20 decimal digits
abbrev pub is_number : List ℕ → Bool
is_number text = nat_lt 0 (length text) && nat_le (length text) 20 && list_all is_ascii_digit text

-- the number that a text spells, where it spells one of at most this
abbrev pub number : ℕ → List ℕ → Option ℕ
number most text = if is_number text then at_most most (digits_value text) else None
