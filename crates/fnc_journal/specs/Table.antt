-- A table of the journal's index: under each number at most one index of an entry.
use Rattle.std.specs.Prelude.{ℕ, List, ◌==◌, nat_lt, if◌then◌else◌, Option, None, option_map, find, slice_index_or}
use Rattle.fnc_journal.specs.declared.stray.Stray.{Stray}

-- what stands under the numbers below its room, by number, and under others, the newest first
pub record Table : Type 0 where
  pub cells : List (Option ℕ)
  pub strays : List Stray
  pub room : ℕ

-- what stands under a number
abbrev pub under : ℕ → Table → Option ℕ
under n t =
    if nat_lt n t.room
    then slice_index_or t.cells n None
    else option_map (λ (s : Stray). s.index) (find (λ (s : Stray). s.number == n) t.strays)
