-- A prefix is no longer than its number says.
use Rattle.std.proofs.Common.{
  ℕ,
  [],
  ◌∷◌,
  ◌≡◌,
  ◌≤◌,
  ◌<◌,
  ◌==◌,
  ◌∙◌,
  Bool,
  true,
  false,
  cond,
  refl,
  sym,
  arith,
  length,
  ltb,
  ltb-true,
  ltb-false,
  ne_eqb,
  le-ltb,
  None,
}
use Rattle.fnc_journal.specs.Found.{entry_at}
use Rattle.fnc_journal.specs.History.{History}
use Rattle.fnc_journal.specs.Prefix.{prefix}

pub prefix-most : (h : History) (n : ℕ) → length (prefix n h) ≤ n
prefix-most [] n = omega arith
prefix-most (e ∷ before) n = go (ltb (length before) n) refl (prefix-most before n)
  where
    go : (b : Bool) → ltb (length before) n ≡ b → length (prefix n before) ≤ n →
        length (cond b (e ∷ before) (prefix n before)) ≤ n
    go true k ih = let less : length before < n = ltb-true (length before) n k in omega (arith, less)
    go false k ih = ih

pub prefix-shorter : (n : ℕ) (h : History) → length (prefix n h) ≤ length h
prefix-shorter n [] = omega arith
prefix-shorter n (e ∷ before) = go (ltb (length before) n) (prefix-shorter n before)
  where
    go : (b : Bool) → length (prefix n before) ≤ length before →
        length (cond b (e ∷ before) (prefix n before)) ≤ length (e ∷ before)
    go true k = omega arith
    go false k = omega arith

-- an entry of a prefix is that of the journal
pub entry_at-prefix : (h : History) (n i : ℕ) → i < length (prefix n h) → entry_at i (prefix n h) ≡ entry_at i h
entry_at-prefix [] n i l = refl
entry_at-prefix (e ∷ before) n i l = go (ltb (length before) n) refl l (λ k. entry_at-prefix before n i k)
  where
    go : (b : Bool) → ltb (length before) n ≡ b → i < length (cond b (e ∷ before) (prefix n before)) →
        (i < length (prefix n before) → entry_at i (prefix n before) ≡ entry_at i before) →
        entry_at i (cond b (e ∷ before) (prefix n before)) ≡ entry_at i (e ∷ before)
    go true k l ih = refl
    go false k l ih =
        let short : length (prefix n before) ≤ length before = prefix-shorter n before in
        let other : (i == length before) ≡ false = ne_eqb i (length before) (λ p. omega arith) in
        ih l ∙ sym (rw other refl)

pub prefix-length : (h : History) (n : ℕ) → n ≤ length h → length (prefix n h) ≡ n
prefix-length [] n l = omega arith
prefix-length (e ∷ before) n l = go (ltb (length before) n) refl (λ k. prefix-length before n k)
  where
    go : (b : Bool) → ltb (length before) n ≡ b → (n ≤ length before → length (prefix n before) ≡ n) →
        length (cond b (e ∷ before) (prefix n before)) ≡ n
    go true k ih = let less : length before < n = ltb-true (length before) n k in omega arith
    go false k ih = let most : n ≤ length before = ltb-false (length before) n k in ih most

-- a prefix of a prefix is that of the journal
pub prefix-prefix : (h : History) (n i : ℕ) → i ≤ n → prefix i (prefix n h) ≡ prefix i h
prefix-prefix [] n i l = refl
prefix-prefix (e ∷ before) n i l = go (ltb (length before) n) refl (prefix-prefix before n i l)
  where
    go : (b : Bool) → ltb (length before) n ≡ b → prefix i (prefix n before) ≡ prefix i before →
        prefix i (cond b (e ∷ before) (prefix n before)) ≡ prefix i (e ∷ before)
    go true k ih = refl
    go false k ih =
        let most : n ≤ length before = ltb-false (length before) n k in ih
        ∙ sym (rw (le-ltb (length before) i (omega arith)) refl)

-- there is no entry past the end
pub entry_at-past : (h : History) (n : ℕ) → length h ≤ n → entry_at n h ≡ None
entry_at-past [] n l = refl
entry_at-past (e ∷ before) n l =
    let other : (n == length before) ≡ false = ne_eqb n (length before) (λ p. omega arith) in
    rw other (entry_at-past before n (omega arith))
