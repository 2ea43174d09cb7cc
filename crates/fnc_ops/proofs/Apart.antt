-- Lists in which no two elements have one number.
use Rattle.std.proofs.Common.{ℕ, List, [], ◌∷◌, ◌++◌, Bool, true, false, ◌≡◌, ◌==◌, cond}
use Rattle.std.specs.Prelude.{filter}
use Rattle.std.specs.List.{AllByRecursion}
use Rattle.fnc_journal.proofs.Each.{each-append, each-filter}

-- no two of these have the same number
abbrev pub AreApart : {X : Type 0} → (X → ℕ) → List X → Type 0
AreApart number [] = Unit {0}
AreApart number (x ∷ xs) = AllByRecursion (λ y. (number y == number x) ≡ false) xs × AreApart number xs

pub apart-append : {X : Type 0} (number : X → ℕ) (xs : List X) (y : X) →
    AllByRecursion (λ x. (number y == number x) ≡ false) xs → AreApart number xs → AreApart number (xs ++ y ∷ [])
apart-append number [] y a d = (tt, tt)
apart-append number (x ∷ xs) y a d = (
  each-append (λ z. (number z == number x) ≡ false) xs y d.0 a.0,
  apart-append number xs y a.1 d.1,
)

pub apart-filter : {X : Type 0} (number : X → ℕ) (p : X → Bool) (xs : List X) → AreApart number xs →
    AreApart number (filter p xs)
apart-filter number p [] d = tt
apart-filter number p (x ∷ xs) d = go (p x) (apart-filter number p xs d.1)
  where
    go : (b : Bool) → AreApart number (filter p xs) → AreApart number (cond b (x ∷ filter p xs) (filter p xs))
    go true k = (each-filter (λ y. (number y == number x) ≡ false) p xs d.0, k)
    go false k = k
