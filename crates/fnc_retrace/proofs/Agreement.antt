-- Two journals that begin alike: the first entries of both, as each goes on.
use Rattle.std.proofs.Common.{
  ℕ,
  [],
  ◌∷◌,
  ◌++◌,
  Bool,
  true,
  false,
  cond,
  ◌≡◌,
  ◌<◌,
  ◌≤◌,
  ◌+◌,
  ◌==◌,
  refl,
  ap,
  sym,
  ◌∙◌,
  subst,
  arith,
  length,
  length-append,
  ltb,
  le-ltb,
  eqb-true,
  Some,
}
use Rattle.fnc_journal.specs.declared.entry.Entry.{Entry}
use Rattle.fnc_journal.specs.Found.{entry_at}
use Rattle.fnc_journal.specs.History.{History}
use Rattle.fnc_journal.specs.Lawful.{Lawful}
use Rattle.fnc_journal.specs.Prefix.{prefix}
use Rattle.fnc_journal.proofs.Prefixes.{prefix-all, prefix-more}
use Rattle.fnc_retrace.specs.Agreeing.{Agrees, GoesOn}

-- what comes later changes nothing of the first entries
prefix-later : (n : ℕ) (more h : History) → n ≤ length h → prefix n (more ++ h) ≡ prefix n h
prefix-later n [] h l = refl
prefix-later n (e ∷ more) h l =
    let longer : n ≤ length (more ++ h) = omega (arith, length-append more h) in
    rw (le-ltb (length (more ++ h)) n longer) (prefix-later n more h l)

prefix-goes_on : (n : ℕ) (old new : History) → n ≤ length old → GoesOn old new → prefix n new ≡ prefix n old
prefix-goes_on n old new l g = ap (prefix n) g.1 ∙ prefix-later n g.0 old l

longer-goes_on : (old new : History) → GoesOn old new → length old ≤ length new
longer-goes_on old new g = omega (arith, ap (λ (h : History). length h) g.1, length-append g.0 old)

-- the first entries of a lawful journal are one
pub lawful-prefix : (h : History) (n : ℕ) → Lawful h → Lawful (prefix n h)
lawful-prefix [] n l = tt
lawful-prefix (e ∷ before) n l = go (ltb (length before) n) (lawful-prefix before n l.1)
  where
    go : (b : Bool) → Lawful (prefix n before) → Lawful (cond b (e ∷ before) (prefix n before))
    go true k = l
    go false k = k

-- an entry that is there is not past the end
entry_at-within : (h : History) (n : ℕ) (e : Entry) → entry_at n h ≡ Some e → n < length h
entry_at-within [] n e q = cc
entry_at-within (d ∷ before) n e q = go (n == length before) refl q (entry_at-within before n e)
  where
    go : (b : Bool) → (n == length before) ≡ b → cond b (Some d) (entry_at n before) ≡ Some e →
        (entry_at n before ≡ Some e → n < length before) → n < length (d ∷ before)
    go true p k ih = let same : n ≡ length before = eqb-true n (length before) p in omega (arith, same)
    go false p k ih = let less : n < length before = ih k in omega (arith, less)

-- what is known to be lawful of the journal that is read
pub lawful-read : (n : ℕ) (read own : History) → Agrees n read own → Lawful (prefix n read)
lawful-read n read own a = subst (λ (h : History). Lawful h) (sym a.same) (lawful-prefix own n a.lawful)

-- two empty journals
pub agrees-none : (read own : History) → read ≡ [] → own ≡ [] → Agrees 0 read own
agrees-none read own r o =
    rw (r, o) (record { same = refl; are_read = omega arith; are_own = omega arith; lawful = tt })

-- one more entry is read, and need not be the other journal's
pub agrees-still : (n : ℕ) (read old new : History) (e : Entry) → GoesOn old new → Lawful new → Agrees n read old →
    Agrees n (e ∷ read) new
agrees-still n read old new e g lawful a = record {
  same = prefix-later n (e ∷ []) read a.are_read ∙ a.same ∙ sym (prefix-goes_on n old new a.are_own g);
  are_read = omega (arith, a.are_read);
  are_own = omega (arith, a.are_own, longer-goes_on old new g);
  lawful = lawful;
}

-- one more entry is read, and the other journal has it in its place
pub agrees-more : (n : ℕ) (read old new : History) (e : Entry) → GoesOn old new → Lawful new →
    entry_at n new ≡ Some e → length read ≡ n → Agrees n read old → Agrees (n + 1) (e ∷ read) new
agrees-more n read old new e g lawful at here a =
    let within : n < length new = entry_at-within new n e at in
    let whole : prefix n read ≡ read = prefix-all read n (omega (arith, here)) in
    let own : read ≡ prefix n new = sym whole ∙ a.same ∙ sym (prefix-goes_on n old new a.are_own g) in
    record {
      same =
          prefix-all (e ∷ read) (n + 1) (omega (arith, here))
          ∙ ap (λ (h : History). e ∷ h) own
          ∙ sym (prefix-more new n e within at);
      are_read = omega (arith, here);
      are_own = omega (arith, within);
      lawful = lawful;
    }

-- the same, where as many entries were read as agree
pub agrees-next : (n r : ℕ) (read old new : History) (e : Entry) → r ≤ n → length read ≡ r → GoesOn old new →
    Lawful new → entry_at n new ≡ Some e → Agrees n read old → Agrees (r + 1) (e ∷ read) new
agrees-next n r read old new e below is g lawful at a =
    let same : n ≡ r = omega (arith, below, is, a.are_read) in
    subst (λ k. Agrees (k + 1) (e ∷ read) new) same (agrees-more n read old new e g lawful at (is ∙ sym same) a)
