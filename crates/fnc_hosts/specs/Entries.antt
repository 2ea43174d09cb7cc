-- Entries of a text, which separators keep apart.
use Rattle.std.specs.Prelude.{
  ◌≡◌,
  ℕ,
  List,
  [],
  ◌∷◌,
  ◌+◌,
  ◌<◌,
  Bool,
  ◌==◌,
  ◌||◌,
  nat_lt,
  length,
  filter,
  Option,
  Some,
  None,
}
use Rattle.std.specs.List.{slice_split}
use Rattle.fnc_hosts.specs.declared.entry.Form.{Form}
use Rattle.fnc_hosts.specs.declared.entry.Cut.{Cut}

-- which bytes separate the entries of a map: the semicolon and the space
abbrev pub separates_map : ℕ → Bool
separates_map b = (b == 59) || (b == 32)

-- those of a list: the comma too
abbrev pub separates_list : ℕ → Bool
separates_list b = (b == 44) || separates_map b

-- which bytes separate the entries of a text of this form
abbrev pub separates : Form → ℕ → Bool
separates Form.List b = separates_list b
separates Form.Map b = separates_map b

-- a part of a text, and the byte at which it begins
pub record Entry : Type 0 where
  pub place : ℕ
  pub text : List ℕ

-- parts that follow each other with one separator between, the first of them at a place
abbrev pub placed_from : ℕ → List (List ℕ) → List Entry
placed_from place [] = []
placed_from place (part ∷ parts) =
    record { place = place; text = part } ∷ placed_from (place + (length part + 1)) parts

-- the entries of a text that begins at a place: the parts between its separators that have a byte
abbrev pub entries_from : (ℕ → Bool) → ℕ → List ℕ → List Entry
entries_from separator place text =
    filter (λ (e : Entry). nat_lt 0 (length e.text)) (placed_from place (slice_split separator text))

-- the entries of a text
abbrev pub entries : (ℕ → Bool) → List ℕ → List Entry
entries separator text = entries_from separator 0 text

-- the first entry is cut off a text, wherever the text begins
abbrev pub CutsFirst : (ℕ → Bool) → List ℕ → Option Cut → Type 0
CutsFirst separator text None = (place : ℕ) → entries_from separator place text ≡ []
CutsFirst separator text (Some cut) =
    (0 < length cut.entry.now)
    × (cut.skipped + length cut.entry.now + length cut.rest.now ≡ length text)
    × ((place : ℕ) → entries_from separator place text ≡ record { place = place + cut.skipped; text = cut.entry.now }
    ∷ entries_from separator (place + cut.skipped + length cut.entry.now) cut.rest.now)
