-- What is known of what a search finds, of what it does not find, and of the elements of two lists.
use Rattle.std.proofs.Common.{List, [], ◌∷◌, ◌++◌, Bool, true, false, ◌≡◌, refl, subst, Some, cond, ◌||◌}
use Rattle.std.specs.Prelude.{find}
use Rattle.std.specs.List.{list_any, AllByRecursion}
use Rattle.fnc_journal.specs.Slots.{Task, Rank, slots_of}
use Rattle.fnc_journal.proofs.Each.{each-left, each-right}

-- what is found passes
pub found-passes : {X : Type 0} (p : X → Bool) (xs : List X) (x : X) → find p xs ≡ Some x → p x ≡ true
found-passes p [] x e = cc
found-passes {X} p (y ∷ ys) x e = go (p y) refl e (λ k. found-passes p ys x k)
  where
    go : (b : Bool) → p y ≡ b → cond b (Some y) (find p ys) ≡ Some x → (find p ys ≡ Some x → p x ≡ true) → p x ≡ true
    go true k f ih = let same : y ≡ x = cc in subst (λ (w : X). p w ≡ true) same k
    go false k f ih = ih f

-- where none passes each fails
pub none-each : {X : Type 0} (p : X → Bool) (xs : List X) → list_any p xs ≡ false → AllByRecursion (λ x. p x ≡ false) xs
none-each p [] e = tt
none-each p (x ∷ xs) e = go (p x) e (λ k. none-each p xs k)
  where
    go : (b : Bool) → (b || list_any p xs) ≡ false → (list_any p xs ≡ false → AllByRecursion (λ x. p x ≡ false) xs) →
        (b ≡ false) × AllByRecursion (λ x. p x ≡ false) xs
    go true f ih = cc
    go false f ih = (refl, ih f)

-- what the elements of both lists have
pub each-joined : {X : Type 0} (P : X → Type 0) (xs ys : List X) → AllByRecursion P xs → AllByRecursion P ys →
    AllByRecursion P (xs ++ ys)
each-joined P [] ys a b = b
each-joined P (x ∷ xs) ys a b = (a.0, each-joined P xs ys a.1 b)

-- what each slot of some levels has, the slots of each level have
pub each-slots : (P : Task → Type 0) (ls : List Rank) → AllByRecursion P (slots_of ls) →
    AllByRecursion (λ l. AllByRecursion P l.firsts × AllByRecursion P l.ons) ls
each-slots P [] a = tt
each-slots P (l ∷ ls) a =
    let here = each-left P (l.firsts ++ l.ons) (slots_of ls) a in (
      (each-left P l.firsts l.ons here, each-right P l.firsts l.ons here),
      each-slots P ls
          (each-right P (l.firsts ++ l.ons) (slots_of ls) a),
    )

-- an element of a list has what each has
abbrev pub IsIn : Task → List Task → Type 1
IsIn t ts = (P : Task → Type 0) → AllByRecursion P ts → P t

-- what any element has each has
pub each-in : (P : Task → Type 0) (ts : List Task) → ((t : Task) → IsIn t ts → P t) → AllByRecursion P ts
each-in P [] f = tt
each-in P (t ∷ ts) f = (f t (λ Q a. a.0), each-in P ts (λ u k. f u (λ Q a. k Q a.1)))
