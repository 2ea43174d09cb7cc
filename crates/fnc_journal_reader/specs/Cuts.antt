-- How a text is cut at a byte.
use Rattle.std.specs.Prelude.{ℕ, List, [], ◌∷◌, ◌==◌, if◌then◌else◌, get_or}

-- what stands before the first such byte
abbrev pub front : ℕ → List ℕ → List ℕ
front sep [] = []
front sep (b ∷ bs) = if b == sep then [] else b ∷ front sep bs

-- what follows it, nothing where there is none
abbrev pub after : ℕ → List ℕ → List ℕ
after sep [] = []
after sep (b ∷ bs) = if b == sep then bs else after sep bs

-- a byte before the first of some parts
abbrev pub onto_first : ℕ → List (List ℕ) → List (List ℕ)
onto_first b [] = (b ∷ []) ∷ []
onto_first b (part ∷ parts) = (b ∷ part) ∷ parts

-- the parts of a text, each ended by the byte or by the end of the text
abbrev pub parts : ℕ → List ℕ → List (List ℕ)
parts sep [] = []
parts sep (b ∷ bs) = if b == sep then [] ∷ parts sep bs else onto_first b (parts sep bs)

-- the words of a line
abbrev pub words : List ℕ → List (List ℕ)
words line = parts 32 line

-- the word of an index, counted from 0
abbrev pub nth : List (List ℕ) → ℕ → List ℕ
nth ws index = get_or ws index []

-- what follows the equals sign in the word of an index
abbrev pub value : List (List ℕ) → ℕ → List ℕ
value ws index = after 61 (nth ws index)
