-- The first fault of a journal, found entry by entry.
use Rattle.std.proofs.Common.{
  ℕ,
  [],
  ◌∷◌,
  Bool,
  true,
  false,
  ◌≡◌,
  ◌<◌,
  ◌↔◌,
  cond,
  refl,
  sym,
  ap,
  ◌∙◌,
  Option,
  Some,
  None,
  length,
  ltb,
  ◌+◌,
  arith,
}
use Rattle.fnc_journal.specs.declared.outcome.Rule.{Rule}
use Rattle.fnc_journal.specs.Found.{entry_at}
use Rattle.fnc_journal.proofs.Prefixes.{prefix-more}
use Rattle.fnc_search.proofs.Prefixed.{prefix-length}
use Rattle.fnc_journal.specs.declared.entry.Entry.{Entry}
use Rattle.fnc_journal.specs.History.{History}
use Rattle.fnc_journal.specs.Prefix.{prefix}
use Rattle.fnc_journal.specs.Lawful.{Lawful, Fault, fault, fault_at, broken}
use Rattle.fnc_journal.proofs.Faults.{with_before, lawful-no_fault, no_fault-lawful}
use Rattle.fnc_judge.specs.declared.verdict.Verdict.{Verdict}
use Rattle.fnc_judge.specs.Verdicts.{IsLawful, fault_of}

-- the fault of a prefix is that of the journal
pub fault-prefix : (h : History) (n : ℕ) (f : Fault) → fault (prefix n h) ≡ Some f → fault h ≡ Some f
fault-prefix [] n f e = e
fault-prefix (d ∷ before) n f e = go (ltb (length before) n) e (λ k. fault-prefix before n f k)
  where
    go : (b : Bool) → fault (cond b (d ∷ before) (prefix n before)) ≡ Some f →
        (fault (prefix n before) ≡ Some f → fault before ≡ Some f) → fault (d ∷ before) ≡ Some f
    go true e ih = e
    go false e ih = ap (with_before (fault_at (length before) (broken d before))) (ih e)

-- one more entry has a fault where it breaks a rule
pub fault-more : (h : History) (e : Entry) → fault h ≡ None → fault (e ∷ h) ≡ fault_at (length h) (broken e h)
fault-more h e p = ap (with_before (fault_at (length h) (broken e h))) p

-- the fault of the next prefix, where there was none before
pub fault-next : (h : History) (i : ℕ) (e : Entry) (x : Option Rule) → i < length h → entry_at i h ≡ Some e →
    fault (prefix i h) ≡ None → broken e (prefix i h) ≡ x →
    fault (prefix (i + 1) h) ≡ fault_at i x
fault-next h i e x l f none b =
    ap fault (prefix-more h i e l f)
    ∙ fault-more (prefix i h) e none
    ∙ ap (λ n. fault_at n (broken e (prefix i h))) (prefix-length h i (omega (arith, l)))
    ∙ ap (fault_at i) b

-- a verdict is lawful where it tells of no fault
pub lawful-none : (v : Verdict) (h : History) → fault_of v ≡ fault h → IsLawful v ↔ Lawful h
lawful-none Verdict.Lawful h e = (λ l. lawful-no_fault h (sym e), λ l. refl)
lawful-none (Verdict.Unlawful index rule) h e = (λ l. cc, λ l. let none = no_fault-lawful h l in cc)
