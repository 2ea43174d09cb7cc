-- Blanks, which are dropped at both ends of a line and of each of its parts.
use Rattle.std.specs.Prelude.{ℕ, List, Bool, ◌==◌, ◌||◌, ◌-◌, length, take, drop}
use Rattle.std.specs.List.{prefix_len, suffix_len}

-- a space, a tab or a carriage return
abbrev pub is_blank : ℕ → Bool
is_blank b = b == 32 || b == 9 || b == 13

-- the bytes without the blanks before the first byte that is none
abbrev pub without_leading : List ℕ → List ℕ
without_leading bs = drop (prefix_len is_blank bs) bs

-- the bytes without the blanks after the last byte that is none
abbrev pub without_trailing : List ℕ → List ℕ
without_trailing bs = take (length bs - suffix_len is_blank bs) bs

-- the bytes without the blanks at both ends
abbrev pub trimmed : List ℕ → List ℕ
trimmed bs = without_trailing (without_leading bs)
