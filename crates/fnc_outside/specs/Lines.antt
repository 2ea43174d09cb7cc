-- The lines of a text.
use Rattle.std.specs.Prelude.{ℕ, ◌+◌, ◌==◌, List, [], ◌∷◌, if◌then◌else◌}

-- one more byte in front of the first line; where there is no line, it begins one
abbrev pub put_first : ℕ → List (List ℕ) → List (List ℕ)
put_first byte [] = (byte ∷ []) ∷ []
put_first byte (line ∷ lines) = (byte ∷ line) ∷ lines

-- A line ends at a line feed, which is no part of it. A last line without a line feed is one where it has a byte.
abbrev pub lines_of : List ℕ → List (List ℕ)
lines_of [] = []
lines_of (byte ∷ rest) = if byte == 10 then [] ∷ lines_of rest else put_first byte (lines_of rest)

-- how many bytes stand before the first line feed, all of them where there is none
abbrev pub line_length : List ℕ → ℕ
line_length [] = 0
line_length (byte ∷ rest) = if byte == 10 then 0 else line_length rest + 1
