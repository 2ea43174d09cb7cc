-- The registry of a lawful journal: each name once, by rising registrations. So its numbers are the current ones.
use Rattle.std.proofs.Common.{
  ℕ,
  List,
  [],
  ◌∷◌,
  ◌++◌,
  Bool,
  true,
  false,
  ◌≡◌,
  ◌==◌,
  ◌<◌,
  ◌+◌,
  ap,
  sym,
  ◌∙◌,
  refl,
  subst,
  arith,
  None,
  Some,
  Option,
  if◌then◌else◌,
  cond,
}
use Rattle.std.specs.Prelude.{bytes_eq}
use Rattle.std.specs.Cmp.Lexicographic.{same_text}
use Rattle.std.specs.List.{AllByRecursion}
use Rattle.std.proofs.lemmas.Bool.{eq-eqb, eqb-true, ne_eqb}
use Rattle.std.proofs.lemmas.Cmp.{nat_list_eq_equiv}
use Rattle.std.proofs.lemmas.Map.{lookup-none}
use Rattle.std.proofs.lemmas.Option.{same_Some}
use Rattle.fnc_journal.specs.Missing.{is_number}
use Rattle.fnc_config.specs.Configured.{Numbered, number_of, with_last, without, without_number}

-- each name once, by rising numbers below n
abbrev pub IsRegistry : Numbered → ℕ → Type 0
IsRegistry [] n = Unit {0}
IsRegistry (e ∷ es) n =
    (e.1 < n) × AllByRecursion (λ f. e.1 < f.1) es × AllByRecursion (λ f. bytes_eq e.0 f.0 ≡ false) es × IsRegistry es n

module _ (P : List ℕ × ℕ → Type 0) where
  all-without : (name : List ℕ) (es : Numbered) → AllByRecursion P es → AllByRecursion P (without name es)
  all-without name [] h = tt
  all-without name (e ∷ es) h = go (bytes_eq name e.0) (all-without name es h.1)
    where
      go : (b : Bool) → AllByRecursion P (without name es) → AllByRecursion P (cond b es (e ∷ without name es))
      go true rest = h.1
      go false rest = (h.0, rest)

  all-without-number : (n : ℕ) (es : Numbered) → AllByRecursion P es → AllByRecursion P (without_number n es)
  all-without-number n [] h = tt
  all-without-number n (e ∷ es) h = go (e.1 == n) (all-without-number n es h.1)
    where
      go : (b : Bool) → AllByRecursion P (without_number n es) → AllByRecursion P (cond b es (e ∷ without_number n es))
      go true rest = h.1
      go false rest = (h.0, rest)

  all-last : (es : Numbered) (x : List ℕ × ℕ) → AllByRecursion P es → P x → AllByRecursion P (es ++ x ∷ [])
  all-last [] x h p = (p, tt)
  all-last (e ∷ es) x h p = (h.0, all-last es x h.1 p)

pub registry-without : (name : List ℕ) (ds : Numbered) (n : ℕ) → IsRegistry ds n → IsRegistry (without name ds) n
registry-without name [] n h = tt
registry-without name (e ∷ es) n h = go (bytes_eq name e.0) (registry-without name es n h.3)
  where
    go : (b : Bool) → IsRegistry (without name es) n → IsRegistry (cond b es (e ∷ without name es)) n
    go true rest = h.3
    go false rest = (h.0, all-without _ name es h.1, all-without _ name es h.2, rest)

pub registry-without-number : (r : ℕ) (ds : Numbered) (n : ℕ) → IsRegistry ds n → IsRegistry (without_number r ds) n
registry-without-number r [] n h = tt
registry-without-number r (e ∷ es) n h = go (e.1 == r) (registry-without-number r es n h.3)
  where
    go : (b : Bool) → IsRegistry (without_number r es) n → IsRegistry (cond b es (e ∷ without_number r es)) n
    go true rest = h.3
    go false rest = (h.0, all-without-number _ r es h.1, all-without-number _ r es h.2, rest)

-- a name that is that of an entry is not one of the others
absent-later : (name other : List ℕ) (es : Numbered) → bytes_eq name other ≡ true →
    AllByRecursion (λ f. bytes_eq other f.0 ≡ false) es → number_of name es ≡ None
absent-later name other es p h =
    lookup-none (bytes_eq name) es
    (subst (λ o. AllByRecursion (λ f. bytes_eq o f.0 ≡ false) es) (sym (same_text name other (sym p))) h)

-- what is found among the others is greater
later : (name : List ℕ) (m : ℕ) (es : Numbered) (r : ℕ) → AllByRecursion (λ f. m < f.1) es → number_of name es
    ≡ Some r → m < r
later name m [] r h p = absurd cc
later name m (e ∷ es) r h p = go (bytes_eq name e.0) refl (later name m es r h.1)
  where
    go : (b : Bool) → bytes_eq name e.0 ≡ b → (number_of name es ≡ Some r → m < r) → m < r
    go true q rest =
        let here : Some e.1 ≡ Some r = rw q at p in
        let least : m < e.1 = h.0 in
        omega (arith, least, same_Some e.1 r here)
    go false q rest = rest (rw q at p)

-- a name that is taken away is gone
pub taken-away : (name : List ℕ) (ds : Numbered) (n : ℕ) → IsRegistry ds n → number_of name (without name ds) ≡ None
taken-away name [] n h = refl
taken-away name (e ∷ es) n h = go (bytes_eq name e.0) refl (taken-away name es n h.3)
  where
    go : (b : Bool) → bytes_eq name e.0 ≡ b → number_of name (without name es) ≡ None →
        number_of name (without name (e ∷ es)) ≡ None
    go true q rest = rw q (absent-later name e.0 es q h.2)
    go false q rest = rw q (rw q rest)

-- and the others stay
pub others-stay : (name other : List ℕ) (ds : Numbered) → bytes_eq name other ≡ false →
    number_of name (without other ds) ≡ number_of name ds
others-stay name other [] p = refl
others-stay name other (e ∷ es) p = go (bytes_eq other e.0) refl (others-stay name other es p)
  where
    go : (b : Bool) → bytes_eq other e.0 ≡ b → number_of name (without other es) ≡ number_of name es →
        number_of name (cond b es (e ∷ without other es)) ≡ number_of name (e ∷ es)
    go true q rest =
        let unlike : bytes_eq name e.0 ≡ false = subst (λ o. bytes_eq name o ≡ false) (same_text other e.0 (sym q)) p in
        sym (ap (λ b. cond b (Some e.1) (number_of name es)) unlike)
    go false q rest = ap (cond (bytes_eq name e.0) (Some e.1)) rest

-- the last one is found where none before it is
pub found-last : (name : List ℕ) (es : Numbered) (x : List ℕ × ℕ) → number_of name es ≡ None → bytes_eq name x.0
    ≡ true →
    number_of name (es ++ x ∷ []) ≡ Some x.1
found-last name [] x p q = rw q refl
found-last name (e ∷ es) x p q = go (bytes_eq name e.0) refl (λ r. found-last name es x r q)
  where
    go : (b : Bool) → bytes_eq name e.0 ≡ b → (number_of name es ≡ None → number_of name (es ++ x ∷ []) ≡ Some x.1) →
        number_of name (e ∷ es ++ x ∷ []) ≡ Some x.1
    go true t rest = let some : Some e.1 ≡ None = rw t at p in absurd cc
    go false t rest = rw t (rest (rw t at p))

pub not-last : (name : List ℕ) (es : Numbered) (x : List ℕ × ℕ) → bytes_eq name x.0 ≡ false →
    number_of name (es ++ x ∷ []) ≡ number_of name es
not-last name [] x q = rw q refl
not-last name (e ∷ es) x q = ap (cond (bytes_eq name e.0) (Some e.1)) (not-last name es x q)

registry-last : (name : List ℕ) (ds : Numbered) (n : ℕ) → IsRegistry ds n → number_of name ds ≡ None →
    IsRegistry (ds ++ (name, n) ∷ []) (n + 1)
registry-last name [] n h p = (omega arith, tt, tt, tt)
registry-last name (e ∷ es) n h p = go (bytes_eq name e.0) refl (registry-last name es n h.3)
  where
    go : (b : Bool) → bytes_eq name e.0 ≡ b → (number_of name es ≡ None → IsRegistry (es ++ (name, n) ∷ []) (n + 1)) →
        IsRegistry (e ∷ es ++ (name, n) ∷ []) (n + 1)
    go true q rest = let some : Some e.1 ≡ None = rw q at p in absurd cc
    go false q rest =
        let below : e.1 < n = h.0 in
        let unlike : bytes_eq e.0 name ≡ false = nat_list_eq_equiv.symm e.0 name ∙ q in
        (omega (arith, below), all-last _ es (name, n) h.1 below, all-last _ es (name, n) h.2 unlike, rest (rw q at p))

-- a device that is registered under the next number
pub registry-with : (name : List ℕ) (ds : Numbered) (n : ℕ) → IsRegistry ds n → IsRegistry (with_last name n ds) (n + 1)
registry-with name ds n h =
    registry-last name (without name ds) n (registry-without name ds n h) (taken-away name ds n h)

pub number-with : (name other : List ℕ) (ds : Numbered) (n r : ℕ) → IsRegistry ds n →
    number_of name (with_last other r ds) ≡ (if bytes_eq name other then Some r else number_of name ds)
number-with name other ds n r h = go (bytes_eq name other) refl
  where
    go : (b : Bool) → bytes_eq name other ≡ b →
        number_of name (with_last other r ds) ≡ (if b then Some r else number_of name ds)
    go true q =
        let same = same_text name other (sym q) in
        let none : number_of name (without other ds) ≡ None =
        subst (λ o. number_of name (without o ds) ≡ None) same (taken-away name ds n h) in
        found-last name (without other ds) (other, r) none q
    go false q = not-last name (without other ds) (other, r) q ∙ others-stay name other ds q

-- the device of a registration is that of the name which has it
pub same-gone : (name : List ℕ) (ds : Numbered) (n r : ℕ) → IsRegistry ds n → number_of name ds ≡ Some r →
    without name ds ≡ without_number r ds
same-gone name [] n r h p = refl
same-gone name (e ∷ es) n r h p = go (bytes_eq name e.0) refl (same-gone name es n r h.3)
  where
    go : (b : Bool) → bytes_eq name e.0 ≡ b → (number_of name es ≡ Some r → without name es ≡ without_number r es) →
        without name (e ∷ es) ≡ without_number r (e ∷ es)
    go true q rest =
        let here : Some e.1 ≡ Some r = rw q at p in
        let same : (e.1 == r) ≡ true = eq-eqb e.1 r (same_Some e.1 r here) in
        rw q (rw same refl)
    go false q rest =
        let there : number_of name es ≡ Some r = rw q at p in
        let less : e.1 < r = later name e.1 es r h.1 there in
        let unlike : (e.1 == r) ≡ false = ne_eqb e.1 r (λ s. omega (arith, less, s)) in
        rw q (rw unlike (ap (λ l. e ∷ l) (rest there)))

-- a number that is less than those of a list is of none of them
not-here : (m : ℕ) (o : Option ℕ) → ((r : ℕ) → o ≡ Some r → m < r) → is_number o m ≡ false
not-here m None h = refl
not-here m (Some r) h = let less : m < r = h r refl in ne_eqb r m (λ s. omega (arith, less, s))

gone-number : (name : List ℕ) (e : List ℕ × ℕ) (es : Numbered) (r : ℕ) → (e.1 ≡ r) →
    AllByRecursion (λ f. e.1 < f.1) es → AllByRecursion (λ f. bytes_eq e.0 f.0 ≡ false) es →
    number_of name es ≡ (if is_number (number_of name (e ∷ es)) r then None else number_of name (e ∷ es))
gone-number name e es r same rising apart = go (bytes_eq name e.0) refl
  where
    go : (b : Bool) → bytes_eq name e.0 ≡ b →
        number_of name es
        ≡ (if is_number (cond b (Some e.1) (number_of name es)) r then None else cond b (Some e.1) (number_of name es))
    go true q = absent-later name e.0 es q apart ∙ sym (rw (eq-eqb e.1 r same) refl)
    go false q =
        let none : is_number (number_of name es) r ≡ false =
        subst (λ k. is_number (number_of name es) k ≡ false) same
        (not-here e.1 (number_of name es) (λ k p. later name e.1 es k rising p)) in
        rw none refl

-- what a removal makes of a name's number
pub number-gone : (name : List ℕ) (ds : Numbered) (n r : ℕ) → IsRegistry ds n →
    number_of name (without_number r ds) ≡ (if is_number (number_of name ds) r then None else number_of name ds)
number-gone name [] n r h = refl
number-gone name (e ∷ es) n r h = go (e.1 == r) refl (number-gone name es n r h.3)
  where
    go : (b : Bool) → (e.1 == r) ≡ b →
        number_of name (without_number r es) ≡ (if is_number (number_of name es) r then None else number_of name es) →
        number_of name (cond b es (e ∷ without_number r es))
        ≡ (if is_number (number_of name (e ∷ es)) r then None else number_of name (e ∷ es))
    go true q rest = gone-number name e es r (eqb-true e.1 r q) h.1 h.2
    go false q rest = at-head (bytes_eq name e.0)
      where
        at-head : (b : Bool) →
            cond b (Some e.1) (number_of name (without_number r es))
            ≡ (if is_number (cond b (Some e.1) (number_of name es)) r then None else cond b (Some e.1)
            (number_of name es))
        at-head true = rw q refl
        at-head false = rest
