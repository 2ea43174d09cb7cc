-- Bytes cut at a separator, and at line feeds.
use Rattle.std.specs.Prelude.{ℕ, List, [], ◌∷◌, ◌==◌, if◌then◌else◌}
use Rattle.std.specs.List.{before_first, after_first, onto_first}

-- what stands before the first separator: all where there is none
abbrev pub before : ℕ → List ℕ → List ℕ
before separator bs = before_first (λ b. b == separator) bs

-- what stands after the first separator: nothing where there is none
abbrev pub after : ℕ → List ℕ → List ℕ
after separator bs = after_first (λ b. b == separator) bs

-- the lines: each ends at a line feed, and bytes that follow the last line feed are a line too
abbrev pub lines_of : List ℕ → List (List ℕ)
lines_of [] = []
lines_of (b ∷ bs) = if b == 10 then [] ∷ lines_of bs else onto_first b (lines_of bs)
