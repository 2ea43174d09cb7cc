-- The oldest entry of levels.
use Rattle.std.proofs.Common.{ℕ, List, [], ◌∷◌, ◌≡◌, min, refl, ap, Option, Some, None, arith, true}
use Rattle.std.specs.Prelude.{is_some}
use Rattle.fnc_journal.specs.Missing.{least_of, has_any}
use Rattle.fnc_journal.specs.Levels.{Level, oldest}
use Rattle.fnc_search.specs.Indices.{oldest_with}
use Rattle.fnc_search.proofs.Rising.{before_it}

least-none : (x : Option ℕ) → least_of x None ≡ x
least-none None = refl
least-none (Some x) = refl

least-assoc : (x y z : Option ℕ) → least_of (least_of x y) z ≡ least_of x (least_of y z)
least-assoc None y z = refl
least-assoc (Some x) None z = refl
least-assoc (Some x) (Some y) None = refl
least-assoc (Some x) (Some y) (Some z) = let same : min (min x y) z ≡ min x (min y z) = omega arith in ap Some same

pub oldest-more : (least : Option ℕ) (l : Option Level) (ls : List Level) →
    least_of (oldest_with least l) (oldest ls) ≡ least_of least (oldest (before_it l ls))
oldest-more least None ls = refl
oldest-more least (Some l) ls = least-assoc least (Some l.at) (oldest ls)

pub oldest-last : (least : Option ℕ) → least_of least (oldest []) ≡ least
oldest-last least = least-none least

pub oldest-some : (ls : List Level) → is_some (oldest ls) ≡ has_any ls
oldest-some [] = refl
oldest-some (l ∷ ls) = go (oldest ls)
  where
    go : (x : Option ℕ) → is_some (least_of (Some l.at) x) ≡ true
    go None = refl
    go (Some y) = refl
