-- Slots of which no two are the same.
use Rattle.std.specs.Prelude.{List, [], ◌∷◌, ◌≡◌, false}
use Rattle.std.specs.List.{AllByRecursion}
use Rattle.fnc_journal.specs.Same.{same_slot}
use Rattle.fnc_journal.specs.Slots.{Task}

-- no two of these slots are the same
abbrev pub AreDistinct : List Task → Type 0
AreDistinct [] = Unit {0}
AreDistinct (t ∷ ts) = AllByRecursion (λ u. same_slot u.slot t.slot ≡ false) ts × AreDistinct ts
