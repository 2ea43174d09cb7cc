-- What the levels that a request takes are for.
use Rattle.std.specs.Prelude.{ℕ, List, Option, Some, None}
use Rattle.fnc_journal.specs.declared.entry.LevelTarget.{LevelTarget}
use Rattle.fnc_journal.specs.declared.entry.Scope.{Scope}
use Rattle.fnc_journal.specs.History.{History}
use Rattle.fnc_journal.specs.Levels.{pattern_at}

-- what the levels that a scope speaks of are for
abbrev pub scoped_target : Scope → List ℕ → History → Option LevelTarget
scoped_target Scope.Nothing target h = None
scoped_target Scope.Name target h = Some (LevelTarget.Name target)
scoped_target (Scope.Pattern n) target h =
    elim (pattern_at n h) [ None ↦ None | Some text ↦ Some (LevelTarget.Pattern text) ]
