-- The slots of a level, read off the names of its devices.
use Rattle.std.specs.Prelude.{ℕ, List, [], ◌∷◌, Bool, ◌+◌, is_none, option_map, option_and_then}
use Rattle.std.specs.List.{list_any, cons_option}
use Rattle.fnc_journal.specs.declared.entry.Kind.{Kind}
use Rattle.fnc_journal.specs.History.{History}
use Rattle.fnc_journal.specs.Slots.{Task, act_task, on_task}
use Rattle.fnc_search.specs.Placed.{placed}

-- whether one of the names has no such device
abbrev pub is_unfit : Kind → History → List (List ℕ) → Bool
is_unfit kind before names = list_any (λ name. is_none (placed kind before name)) names

-- the Act or Off slots of those that have one
abbrev pub firsts_over : Bool → Kind → History → ℕ → ℕ → List (List ℕ) → List Task
firsts_over split kind before level place [] = []
firsts_over split kind before level place (name ∷ names) =
    cons_option (option_map (act_task split kind level place) (placed kind before name))
    (firsts_over split kind before level (place + 1) names)

-- the On slots of those that have one
abbrev pub ons_over : Kind → History → ℕ → ℕ → List (List ℕ) → List Task
ons_over kind before level place [] = []
ons_over kind before level place (name ∷ names) =
    cons_option (option_and_then (on_task level place) (placed kind before name))
    (ons_over kind before level (place + 1) names)
