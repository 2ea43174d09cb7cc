-- Levels stand by rising index: those of a target, those of a pattern's entry, and those that a scope speaks of.
use Rattle.std.proofs.Common.{ℕ, List, [], ◌∷◌, Bool, true, false, ◌≡◌, ◌≤◌, ◌<◌, ◌==◌, cond, refl, sym, subst, Option, Some, None, arith, length, ltb, ltb-true, ltb-false, eqb-true, false-eqb}
use Rattle.std.specs.List.{AllByRecursion}
use Rattle.fnc_journal.specs.declared.event.Event.{Event}
use Rattle.fnc_journal.specs.declared.entry.LevelTarget.{LevelTarget}
use Rattle.fnc_journal.specs.declared.entry.Scope.{Scope}
use Rattle.fnc_journal.specs.History.{History}
use Rattle.fnc_journal.specs.Same.{same_target}
use Rattle.fnc_journal.specs.Levels.{
  Level,
  with_level,
  without_level,
  levels_after,
  levels,
  pattern_at,
  pattern_levels,
  scoped,
}
use Rattle.fnc_journal.proofs.Each.{each-map}

-- each index is above a number
abbrev pub Above : ℕ → List Level → Type 0
Above i ls = AllByRecursion (λ (k : Level). i < k.index) ls

-- each index is above the one before
abbrev pub Rising : List Level → Type 0
Rising [] = Unit {0}
Rising (l ∷ ls) = Above l.index ls × Rising ls

above-higher : (i j : ℕ) (ls : List Level) → i < j → Above j ls → Above i ls
above-higher i j ls l a =
    each-map (λ (k : Level). j < k.index) (λ (k : Level). i < k.index) ls (λ k p. omega (arith, l, p)) a

above-with : (i : ℕ) (l : Level) (ls : List Level) → i < l.index → Above i ls → Above i (with_level l ls)
above-with i l [] less a = (less, tt)
above-with i l (k ∷ ks) less a = go (ltb l.index k.index) (l.index == k.index) (above-with i l ks less a.1)
  where
    go : (b c : Bool) → Above i (with_level l ks) →
        Above i (cond b (l ∷ k ∷ ks) (cond c (l ∷ ks) (k ∷ with_level l ks)))
    go true c ih = (less, a)
    go false true ih = (less, a.1)
    go false false ih = (a.0, ih)

rising-with : (l : Level) (ls : List Level) → Rising ls → Rising (with_level l ls)
rising-with l [] r = (tt, tt)
rising-with l (k ∷ ks) r = go (ltb l.index k.index) refl (l.index == k.index) refl (rising-with l ks r.1)
  where
    go : (b : Bool) → ltb l.index k.index ≡ b → (c : Bool) → (l.index == k.index) ≡ c → Rising (with_level l ks) →
        Rising (cond b (l ∷ k ∷ ks) (cond c (l ∷ ks) (k ∷ with_level l ks)))
    go true p c q ih =
        let less : l.index < k.index = ltb-true l.index k.index p in
        ((less, above-higher l.index k.index ks less r.0), r)
    go false p true q ih =
        let same : k.index ≡ l.index = sym (eqb-true l.index k.index q) in
        (subst (λ i. Above i ks) same r.0, r.1)
    go false p false q ih =
        let most : k.index ≤ l.index = ltb-false l.index k.index p in
        let other : l.index ≡ k.index → ⊥ = false-eqb l.index k.index (sym q) in
        (above-with k.index l ks (omega (arith, most, other)) r.0, ih)

above-without : (i index : ℕ) (ls : List Level) → Above i ls → Above i (without_level index ls)
above-without i index [] a = tt
above-without i index (k ∷ ks) a = go (index == k.index) (above-without i index ks a.1)
  where
    go : (b : Bool) → Above i (without_level index ks) → Above i (cond b ks (k ∷ without_level index ks))
    go true ih = a.1
    go false ih = (a.0, ih)

rising-without : (index : ℕ) (ls : List Level) → Rising ls → Rising (without_level index ls)
rising-without index [] r = tt
rising-without index (k ∷ ks) r = go (index == k.index) (rising-without index ks r.1)
  where
    go : (b : Bool) → Rising (without_level index ks) → Rising (cond b ks (k ∷ without_level index ks))
    go true ih = r.1
    go false ih = (above-without k.index index ks r.0, ih)

pub levels-rising : (target : LevelTarget) (h : History) → Rising (levels target h)
levels-rising target [] = tt
levels-rising target (e ∷ before) = go e.event (levels-rising target before)
  where
    go : (event : Event) → Rising (levels target before) →
        Rising (levels_after target (length before) event (levels target before))
    go (Event.Level set_) r = set (same_target target set_.target) r
      where
        level : Level
        level = record { at = length before; index = set_.index; devices = set_.devices }

        set : (b : Bool) → Rising (levels target before) →
            Rising (cond b (with_level level (levels target before)) (levels target before))
        set true r = rising-with _ (levels target before) r
        set false r = r
    go (Event.LevelGone cleared) r = gone (same_target target cleared.target) r
      where
        gone : (b : Bool) → Rising (levels target before) →
            Rising (cond b (without_level cleared.index (levels target before)) (levels target before))
        gone true r = rising-without cleared.index (levels target before) r
        gone false r = r
    go _ r = r

pub pattern-rising : (n : ℕ) (h : History) → Rising (pattern_levels n h)
pattern-rising n h = go (pattern_at n h) refl
  where
    go : (x : Option (List ℕ)) → pattern_at n h ≡ x → Rising (pattern_levels n h)
    go None e =
        let none : pattern_levels n h ≡ [] = rw (e, pattern_levels) refl in
        subst Rising (sym none) tt
    go (Some text) e =
        let some : pattern_levels n h ≡ levels (LevelTarget.Pattern text) h = rw (e, pattern_levels) refl in
        subst Rising (sym some) (levels-rising (LevelTarget.Pattern text) h)

pub scoped-rising : (scope : Scope) (target : List ℕ) (h : History) → Rising (scoped scope target h)
scoped-rising Scope.Nothing target h = tt
scoped-rising Scope.Name target h = levels-rising (LevelTarget.Name target) h
scoped-rising (Scope.Pattern n) target h = pattern-rising n h
