-- Which levels a request takes: those of the node's name, else those of the pattern that has stood longest among those
-- that are found in it.
use Rattle.std.specs.Prelude.{
  ◌≡◌,
  ◌≤◌,
  ℕ,
  List,
  [],
  ◌∷◌,
  true,
  false,
  if◌then◌else◌,
  Option,
  Some,
  None,
}
use Rattle.fnc_journal.specs.declared.entry.LevelTarget.{LevelTarget}
use Rattle.fnc_journal.specs.declared.entry.Scope.{Scope}
use Rattle.fnc_journal.specs.History.{History}
use Rattle.fnc_journal.specs.Levels.{birth, levels, oldest, stands}
use Rattle.fnc_journal.specs.Missing.{has_any}
use Rattle.fnc_config.specs.Configured.{Configured, Targets, levels_of}
use Rattle.fnc_config.specs.Patterns.{finds}

-- a pattern is named by the oldest entry of its levels
abbrev pub scope_by : Option ℕ → Scope
scope_by None = Scope.Nothing
scope_by (Some n) = Scope.Pattern n

-- the first of these patterns that is found
abbrev pub scope_among : Targets → List ℕ → Scope
scope_among [] target = Scope.Nothing
scope_among (t ∷ ts) target = if finds t.0 target then scope_by (oldest t.1) else scope_among ts target

-- the scope of a node in a configuration
abbrev pub scope_in : Configured → List ℕ → Scope
scope_in c target = if has_any (levels_of target c.names) then Scope.Name else scope_among c.patterns target

-- the pattern of a text stands and is found in a node
abbrev pub IsFoundIn : History → List ℕ → List ℕ → Type 0
IsFoundIn h target text = (stands (LevelTarget.Pattern text) h ≡ true) × (finds text target ≡ true)

-- it is that of the name where the name stands; else that of a pattern which is found and began to stand no later than
-- any other that is found; else nothing, where none is found
abbrev pub IsScopeOf : History → List ℕ → Scope → Type 0
IsScopeOf h target Scope.Name = stands (LevelTarget.Name target) h ≡ true
IsScopeOf h target (Scope.Pattern n) =
    (stands (LevelTarget.Name target) h ≡ false)
    × ((text : List ℕ) × IsFoundIn h target text × (oldest (levels (LevelTarget.Pattern text) h) ≡ Some n)
    × ((other : List ℕ) → IsFoundIn h target other →
    birth (LevelTarget.Pattern text) h ≤ birth (LevelTarget.Pattern other) h))
IsScopeOf h target Scope.Nothing =
    (stands (LevelTarget.Name target) h ≡ false)
    × ((other : List ℕ) → stands (LevelTarget.Pattern other) h ≡ true → finds other target ≡ false)
