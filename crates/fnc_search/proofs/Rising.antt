-- Levels stand by rising index, so that each is found by its index, and one is found after the other.
use Rattle.std.proofs.Common.{
  ℕ,
  List,
  [],
  ◌∷◌,
  Bool,
  true,
  false,
  ◌≡◌,
  ◌≤◌,
  ◌<◌,
  ◌+◌,
  ◌==◌,
  ◌&&◌,
  max,
  cond,
  refl,
  sym,
  ap,
  subst,
  ◌∙◌,
  Option,
  Some,
  None,
  arith,
  length,
  ltb,
  ltb-true,
  ltb-false,
  lt-ltb,
  le-ltb,
  eqb-true,
  false-eqb,
  ne_eqb,
}
use Rattle.std.specs.Prelude.{find}
use Rattle.std.specs.List.{AllByRecursion}
use Rattle.fnc_journal.specs.declared.event.Event.{Event}
use Rattle.fnc_journal.specs.declared.entry.LevelTarget.{LevelTarget}
use Rattle.fnc_journal.specs.History.{History}
use Rattle.fnc_journal.specs.Same.{same_target}
use Rattle.fnc_journal.specs.Levels.{Level, with_level, without_level, levels_after, levels}
use Rattle.fnc_journal.proofs.Each.{each-map}
use Rattle.fnc_journal.proofs.RisingLevels.{Above, Rising, levels-rising}
use Rattle.fnc_search.specs.Indices.{level_step, top, top_here, from}

above-higher : (i j : ℕ) (ls : List Level) → i < j → Above j ls → Above i ls
above-higher i j ls l a =
    each-map (λ (k : Level). j < k.index) (λ (k : Level). i < k.index) ls (λ k p. omega (arith, l, p)) a

-- what is found by its index
abbrev pub of_index : ℕ → List Level → Option Level
of_index i ls = find (λ (l : Level). i == l.index) ls

above-none : (i : ℕ) (ls : List Level) → Above i ls → of_index i ls ≡ None
above-none i [] a = refl
above-none i (k ∷ ks) a =
    let other : (i == k.index) ≡ false = ne_eqb i k.index (λ p. omega (arith, p, a.0)) in rw other (above-none i ks a.1)

find-with : (i : ℕ) (l : Level) (ls : List Level) →
    of_index i (with_level l ls) ≡ cond (i == l.index) (Some l) (of_index i ls)
find-with i l [] = refl
find-with i l (k ∷ ks) =
    go (ltb l.index k.index) (l.index == k.index) refl (i == l.index) refl (i == k.index) refl (find-with i l ks)
  where
    go : (b c : Bool) → (l.index == k.index) ≡ c → (d : Bool) → (i == l.index) ≡ d → (e : Bool) → (i == k.index) ≡ e →
        of_index i (with_level l ks) ≡ cond (i == l.index) (Some l) (of_index i ks) →
        of_index i (cond b (l ∷ k ∷ ks) (cond c (l ∷ ks) (k ∷ with_level l ks)))
        ≡ cond d (Some l) (cond e (Some k) (of_index i ks))
    go true c p true q e s ih = rw q refl
    go true c p false q e s ih = rw (q, s) refl
    go false true p true q e s ih = rw q refl
    go false true p false q true s ih =
        let same : l.index ≡ k.index = eqb-true l.index k.index p in
        let one : i ≡ k.index = eqb-true i k.index s in
        absurd (false-eqb i l.index (sym q) (one ∙ sym same))
    go false true p false q false s ih = rw q refl
    go false false p true q true s ih =
        let other : l.index ≡ k.index → ⊥ = false-eqb l.index k.index (sym p) in
        absurd (other (sym (eqb-true i l.index q) ∙ eqb-true i k.index s))
    go false false p true q false s ih = rw s (ih ∙ rw q refl)
    go false false p false q true s ih = rw s refl
    go false false p false q false s ih = rw s (ih ∙ rw q refl)

find-without : (i index : ℕ) (ls : List Level) → Rising ls →
    of_index i (without_level index ls) ≡ cond (i == index) None (of_index i ls)
find-without i index [] r = go (i == index)
  where
    go : (b : Bool) → of_index i [] ≡ cond b None (of_index i [])
    go true = refl
    go false = refl
find-without i index (k ∷ ks) r =
    go (index == k.index) refl (i == index) refl (i == k.index) refl (find-without i index ks r.1)
  where
    go : (b : Bool) → (index == k.index) ≡ b → (d : Bool) → (i == index) ≡ d → (e : Bool) → (i == k.index) ≡ e →
        of_index i (without_level index ks) ≡ cond (i == index) None (of_index i ks) →
        of_index i (cond b ks (k ∷ without_level index ks)) ≡ cond d None (cond e (Some k) (of_index i ks))
    go true p true q e s ih =
        let same : k.index ≡ i = sym (eqb-true i index q ∙ eqb-true index k.index p) in
        above-none i ks (subst (λ n. Above n ks) same r.0)
    go true p false q true s ih =
        absurd (false-eqb i index (sym q) (eqb-true i k.index s ∙ sym (eqb-true index k.index p)))
    go true p false q false s ih = refl
    go false p true q true s ih =
        absurd (false-eqb index k.index (sym p) (sym (eqb-true i index q) ∙ eqb-true i k.index s))
    go false p true q false s ih = rw s (ih ∙ rw q refl)
    go false p false q true s ih = rw s refl
    go false p false q false s ih = rw s (ih ∙ rw q refl)

-- the level of an index, one entry after another
pub level-more : (target : LevelTarget) (i m : ℕ) (event : Event) (h : History) →
    level_step target i (length h) event (of_index i (levels target h))
    ≡ of_index i (levels target (record { moment = m; event = event } ∷ h))
level-more target i m (Event.Level set) h =
    go (same_target target set.target) (i == set.index)
    (find-with i (record { at = length h; index = set.index; devices = set.devices }) (levels target h))
  where
    go : (b c : Bool) → of_index i
        (with_level (record { at = length h; index = set.index; devices = set.devices }) (levels target h))
        ≡ cond c (Some (record { at = length h; index = set.index; devices = set.devices }))
        (of_index i (levels target h)) →
        cond (b && c) (Some (record { at = length h; index = set.index; devices = set.devices }))
        (of_index i (levels target h))
        ≡ of_index i (cond b (with_level (record { at = length h; index = set.index; devices = set.devices })
        (levels target h)) (levels target h))
    go true true f = sym f
    go true false f = sym f
    go false c f = refl
level-more target i m (Event.LevelGone cleared) h =
    go (same_target target cleared.target) (i == cleared.index)
    (find-without i cleared.index (levels target h) (levels-rising target h))
  where
    go : (b c : Bool) → of_index i (without_level cleared.index (levels target h))
        ≡ cond c None (of_index i (levels target h)) →
        cond (b && c) None (of_index i (levels target h))
        ≡ of_index i (cond b (without_level cleared.index (levels target h)) (levels target h))
    go true true f = sym f
    go true false f = sym f
    go false c f = refl
level-more target i m _ h = refl

-- each index is below a number
abbrev pub Below : ℕ → List Level → Type 0
Below n ls = AllByRecursion (λ (k : Level). k.index < n) ls

below-with : (n : ℕ) (l : Level) (ls : List Level) → l.index < n → Below n ls → Below n (with_level l ls)
below-with n l [] less a = (less, tt)
below-with n l (k ∷ ks) less a = go (ltb l.index k.index) (l.index == k.index) (below-with n l ks less a.1)
  where
    go : (b c : Bool) → Below n (with_level l ks) →
        Below n (cond b (l ∷ k ∷ ks) (cond c (l ∷ ks) (k ∷ with_level l ks)))
    go true c ih = (less, a)
    go false true ih = (less, a.1)
    go false false ih = (a.0, ih)

below-without : (n index : ℕ) (ls : List Level) → Below n ls → Below n (without_level index ls)
below-without n index [] a = tt
below-without n index (k ∷ ks) a = go (index == k.index) (below-without n index ks a.1)
  where
    go : (b : Bool) → Below n (without_level index ks) → Below n (cond b ks (k ∷ without_level index ks))
    go true ih = a.1
    go false ih = (a.0, ih)

below-higher : (n m : ℕ) (ls : List Level) → n ≤ m → Below n ls → Below m ls
below-higher n m ls l a =
    each-map (λ (k : Level). k.index < n) (λ (k : Level). k.index < m) ls (λ k p. omega (arith, l, p)) a

pub below-top : (target : LevelTarget) (h : History) → Below (top target h) (levels target h)
below-top target [] = tt
below-top target (e ∷ before) = go e.event (below-top target before)
  where
    go : (event : Event) → Below (top target before) (levels target before) →
        Below (max (top_here target event) (top target before))
        (levels_after target (length before) event (levels target before))
    go (Event.Level set_) r = set (same_target target set_.target) r
      where
        set : (b : Bool) → Below (top target before) (levels target before) →
            Below (max (cond b (set_.index + 1) 0) (top target before))
            (cond b (with_level (record { at = length before; index = set_.index; devices = set_.devices })
            (levels target before)) (levels target before))
        set true r =
            below-with _ _ (levels target before) (omega arith)
            (below-higher _ _ (levels target before) (omega arith) r)
        set false r = below-higher _ _ (levels target before) (omega arith) r
    go (Event.LevelGone cleared) r =
        gone (same_target target cleared.target)
        (below-higher _ (max 0 (top target before)) (levels target before) (omega arith) r)
      where
        gone : (b : Bool) → Below (max 0 (top target before)) (levels target before) →
            Below (max 0 (top target before))
            (cond b (without_level cleared.index (levels target before)) (levels target before))
        gone true r = below-without _ cleared.index (levels target before) r
        gone false r = r
    go _ r = below-higher _ _ (levels target before) (omega arith) r

-- the levels from an index on, one index after another
pub from-none : (ls : List Level) → from 0 ls ≡ ls
from-none [] = refl
from-none (l ∷ ls) = rw (le-ltb l.index 0 (omega arith)) refl

pub from-all : (n : ℕ) (ls : List Level) → Below n ls → from n ls ≡ []
from-all n [] b = refl
from-all n (l ∷ ls) b = rw (lt-ltb l.index n b.0) (from-all n ls b.1)

from-above : (i : ℕ) (ls : List Level) → Above i ls → from (i + 1) ls ≡ ls
from-above i [] a = refl
from-above i (l ∷ ls) a = rw (le-ltb l.index (i + 1) (omega (arith, a.0))) refl

-- the list with one before it, if there is one
abbrev pub before_it : Option Level → List Level → List Level
before_it None ls = ls
before_it (Some l) ls = l ∷ ls

pub from-more : (i : ℕ) (ls : List Level) → Rising ls → from i ls ≡ before_it (of_index i ls) (from (i + 1) ls)
from-more i [] r = refl
from-more i (k ∷ ks) r = go (ltb k.index i) refl (i == k.index) refl (from-more i ks r.1)
  where
    go : (b : Bool) → ltb k.index i ≡ b → (c : Bool) → (i == k.index) ≡ c →
        from i ks ≡ before_it (of_index i ks) (from (i + 1) ks) →
        cond b (from i ks) (k ∷ ks) ≡ before_it (cond c (Some k) (of_index i ks)) (from (i + 1) (k ∷ ks))
    go true p true q ih =
        let less : k.index < i = ltb-true k.index i p in absurd (omega (arith, less, eqb-true i k.index q))
    go true p false q ih =
        let less : k.index < i = ltb-true k.index i p in rw (lt-ltb k.index (i + 1) (omega (arith, less))) ih
    go false p true q ih =
        let same : i ≡ k.index = eqb-true i k.index q in
        rw (lt-ltb k.index (i + 1) (omega (arith, same)))
        (ap (λ xs. k ∷ xs) (sym (from-above i ks (subst (λ n. Above n ks) (sym same) r.0))))
    go false p false q ih =
        let most : i ≤ k.index = ltb-false k.index i p in
        let other : i ≡ k.index → ⊥ = false-eqb i k.index (sym q) in
        let less : i < k.index = omega (arith, most, other) in
        rw (le-ltb k.index (i + 1) (omega (arith, less)), above-none i ks (above-higher i k.index ks less r.0)) refl

pub from-past : (n : ℕ) (target : LevelTarget) (h : History) → top target h ≤ n → from n (levels target h) ≡ []
from-past n target h l =
    from-all n (levels target h) (below-higher (top target h) n (levels target h) l (below-top target h))
