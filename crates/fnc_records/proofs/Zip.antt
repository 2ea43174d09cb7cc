-- Tests and searches of two lists whose elements are related place by place.
use Rattle.std.proofs.Common.{List, [], ◌∷◌, ◌++◌, Bool, true, false, ◌≡◌, refl, Some, cond, map}
use Rattle.std.specs.Prelude.{find, filter}
use Rattle.std.specs.List.{list_any, list_all, AllZip, AllByRecursion}
use Rattle.fnc_records.specs.SlotFacts.{BothOr}

pub zip_all : {A B : Type 0} (R : A → B → Type 0) (p : A → Bool) (q : B → Bool) →
    ((x : A) (y : B) → R x y → p x ≡ q y) →
    (xs : List A) (ys : List B) → AllZip R xs ys → list_all p xs ≡ list_all q ys
zip_all R p q h [] [] z = refl
zip_all R p q h [] (y ∷ ys) z = absurd z
zip_all R p q h (x ∷ xs) [] z = absurd z
zip_all R p q h (x ∷ xs) (y ∷ ys) z = rw (h x y z.0, zip_all R p q h xs ys z.1) refl

pub zip_any : {A B : Type 0} (R : A → B → Type 0) (p : A → Bool) (q : B → Bool) →
    ((x : A) (y : B) → R x y → p x ≡ q y) →
    (xs : List A) (ys : List B) → AllZip R xs ys → list_any p xs ≡ list_any q ys
zip_any R p q h [] [] z = refl
zip_any R p q h [] (y ∷ ys) z = absurd z
zip_any R p q h (x ∷ xs) [] z = absurd z
zip_any R p q h (x ∷ xs) (y ∷ ys) z = rw (h x y z.0, zip_any R p q h xs ys z.1) refl

pub zip_find : {A B : Type 0} (R : A → B → Type 0) (p : A → Bool) (q : B → Bool) →
    ((x : A) (y : B) → R x y → p x ≡ q y) →
    (xs : List A) (ys : List B) → AllZip R xs ys → BothOr R (find p xs) (find q ys)
zip_find R p q h [] [] z = tt
zip_find R p q h [] (y ∷ ys) z = absurd z
zip_find R p q h (x ∷ xs) [] z = absurd z
zip_find R p q h (x ∷ xs) (y ∷ ys) z = rw (h x y z.0) (go (q y) (zip_find R p q h xs ys z.1))
  where
    go : (b : Bool) → BothOr R (find p xs) (find q ys) → BothOr R (cond b (Some x) (find p xs))
        (cond b (Some y) (find q ys))
    go true e = z.0
    go false e = e

pub zip_filter : {A B : Type 0} (R : A → B → Type 0) (p : A → Bool) (q : B → Bool) →
    ((x : A) (y : B) → R x y → p x ≡ q y) →
    (xs : List A) (ys : List B) → AllZip R xs ys → AllZip R (filter p xs) (filter q ys)
zip_filter R p q h [] [] z = tt
zip_filter R p q h [] (y ∷ ys) z = absurd z
zip_filter R p q h (x ∷ xs) [] z = absurd z
zip_filter R p q h (x ∷ xs) (y ∷ ys) z = rw (h x y z.0) (go (q y) (zip_filter R p q h xs ys z.1))
  where
    go : (b : Bool) → AllZip R (filter p xs) (filter q ys) → AllZip R (cond b (x ∷ filter p xs) (filter p xs))
        (cond b (y ∷ filter q ys) (filter q ys))
    go true e = (z.0, e)
    go false e = e

-- each of the first list changed
pub zip_map : {A B : Type 0} (R S : A → B → Type 0) (f : A → A) → ((x : A) (y : B) → R x y → S (f x) y) →
    (xs : List A) (ys : List B) → AllZip R xs ys → AllZip S (map f xs) ys
zip_map R S f h [] [] z = tt
zip_map R S f h [] (y ∷ ys) z = z
zip_map R S f h (x ∷ xs) [] z = z
zip_map R S f h (x ∷ xs) (y ∷ ys) z = (h x y z.0, zip_map R S f h xs ys z.1)

pub zip_weaken : {A B : Type 0} (R S : A → B → Type 0) → ((x : A) (y : B) → R x y → S x y) →
    (xs : List A) (ys : List B) → AllZip R xs ys → AllZip S xs ys
zip_weaken R S h [] [] z = tt
zip_weaken R S h [] (y ∷ ys) z = z
zip_weaken R S h (x ∷ xs) [] z = z
zip_weaken R S h (x ∷ xs) (y ∷ ys) z = (h x y z.0, zip_weaken R S h xs ys z.1)

pub zip_append : {A B : Type 0} (R : A → B → Type 0) (xs vs : List A) (ys ws : List B) → AllZip R xs ys →
    AllZip R vs ws → AllZip R (xs ++ vs) (ys ++ ws)
zip_append R [] vs [] ws z y = y
zip_append R [] vs (b ∷ ys) ws z y = absurd z
zip_append R (a ∷ xs) vs [] ws z y = absurd z
zip_append R (a ∷ xs) vs (b ∷ ys) ws z y = (z.0, zip_append R xs vs ys ws z.1 y)

-- what each of the second list has by its relation
pub zip_each : {A B : Type 0} (R : A → B → Type 0) (P : B → Type 0) → ((x : A) (y : B) → R x y → P y) →
    (xs : List A) (ys : List B) → AllZip R xs ys → AllByRecursion P ys
zip_each R P h [] [] z = tt
zip_each R P h [] (y ∷ ys) z = absurd z
zip_each R P h (x ∷ xs) [] z = absurd z
zip_each R P h (x ∷ xs) (y ∷ ys) z = (h x y z.0, zip_each R P h xs ys z.1)

-- each of the first list changed, where each of the second has something besides
pub zip_map_each : {A B : Type 0} (R S : A → B → Type 0) (P : B → Type 0) (f : A → A) →
    ((x : A) (y : B) → P y → R x y → S (f x) y) →
    (xs : List A) (ys : List B) → AllByRecursion P ys → AllZip R xs ys → AllZip S (map f xs) ys
zip_map_each R S P f h [] [] p z = tt
zip_map_each R S P f h [] (y ∷ ys) p z = z
zip_map_each R S P f h (x ∷ xs) [] p z = z
zip_map_each R S P f h (x ∷ xs) (y ∷ ys) p z = (h x y p.0 z.0, zip_map_each R S P f h xs ys p.1 z.1)
