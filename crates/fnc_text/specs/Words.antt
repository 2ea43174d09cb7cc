-- Words, separated by spaces.
use Rattle.std.specs.Prelude.{
  ◌≡◌,
  ℕ,
  List,
  [],
  ◌∷◌,
  ◌+◌,
  ◌<◌,
  ◌≤◌,
  Bool,
  ◌==◌,
  if◌then◌else◌,
  nat_lt,
  length,
  drop,
  filter,
  slice_range,
  Option,
  Some,
  None,
}
use Rattle.std.specs.List.{prefix_len, position_or_len, slice_split}
use Rattle.fnc_text.specs.declared.word.Span.{Span}

-- the byte that separates words
abbrev pub is_space : ℕ → Bool
is_space b = b == 32

-- the word of this length that begins at a place, if it has a byte
abbrev pub span : ℕ → ℕ → Option Span
span start n = if n == 0 then None else Some (record { start = start; end = start + n })

-- the word that begins at a place of a line, if one does: it goes up to the next space or the end
abbrev pub word_at : List ℕ → ℕ → Option Span
word_at line start = span start (position_or_len is_space (drop start line))

-- the next word of a line, from a place on
abbrev pub word_from : List ℕ → ℕ → Option Span
word_from line from = word_at line (from + prefix_len is_space (drop from line))

-- the words of a text in order: the parts between its spaces that have a byte
abbrev pub words : List ℕ → List (List ℕ)
words text = filter (λ part. nat_lt 0 (length part)) (slice_split is_space text)

-- what a place of a line leaves of its words, and where the next of them stands
abbrev pub NextWord : List ℕ → ℕ → Option Span → Type 0
NextWord line from None = words (drop from line) ≡ []
NextWord line from (Some s) =
    (from ≤ s.start) × (s.start < s.end) × (s.end ≤ length line)
    × (words (drop from line) ≡ slice_range line s.start s.end ∷ words (drop s.end line))
