-- The levels of a target, each found by its index.
use Rattle.std.specs.Prelude.{ℕ, List, [], ◌∷◌, ◌==◌, ◌+◌, ◌&&◌, if◌then◌else◌, nat_lt, max, Option, Some, None}
use Rattle.fnc_journal.specs.declared.event.Event.{Event}
use Rattle.fnc_journal.specs.declared.entry.LevelTarget.{LevelTarget}
use Rattle.fnc_journal.specs.History.{History}
use Rattle.fnc_journal.specs.Missing.{least_of}
use Rattle.fnc_journal.specs.Same.{same_target}
use Rattle.fnc_journal.specs.Levels.{Level}

-- what an entry makes of the level of an index
abbrev pub level_step : LevelTarget → ℕ → ℕ → Event → Option Level → Option Level
level_step target index at (Event.Level set) earlier =
    if same_target target set.target && (index == set.index)
    then Some (record { at = at; index = set.index; devices = set.devices })
    else earlier
level_step target index at (Event.LevelGone cleared) earlier =
    if same_target target cleared.target && (index == cleared.index) then None else earlier
level_step target index at _ earlier = earlier

-- a number above the index of the level that an entry sets
abbrev pub top_here : LevelTarget → Event → ℕ
top_here target (Event.Level set) = if same_target target set.target then set.index + 1 else 0
top_here target _ = 0

-- a number above the index of each level that was ever set for a target
abbrev pub top : LevelTarget → History → ℕ
top target [] = 0
top target (e ∷ before) = max (top_here target e.event) (top target before)

-- the levels from an index on
abbrev pub from : ℕ → List Level → List Level
from i [] = []
from i (l ∷ ls) = if nat_lt l.index i then from i ls else l ∷ ls

-- the oldest entry with that of one more level
abbrev pub oldest_with : Option ℕ → Option Level → Option ℕ
oldest_with least None = least
oldest_with least (Some l) = least_of least (Some l.at)
