-- Searches from the oldest entry on. One that has found something can stop, since no later entry changes what it found.
use Rattle.std.proofs.Common.{
  ℕ,
  [],
  ◌∷◌,
  Bool,
  true,
  false,
  ◌≡◌,
  ◌<◌,
  ◌+◌,
  ◌||◌,
  ◌∙◌,
  cond,
  refl,
  ap,
  Option,
  Some,
  None,
  length,
  ltb,
}
use Rattle.fnc_journal.specs.declared.entry.Entry.{Entry}
use Rattle.fnc_journal.specs.Found.{entry_at}
use Rattle.fnc_journal.specs.History.{History}
use Rattle.fnc_journal.specs.Missing.{or_here}
use Rattle.fnc_journal.specs.Prefix.{prefix}
use Rattle.fnc_journal.proofs.Prefixes.{prefix-more}

-- what each later entry keeps
abbrev pub Keeps : {X : Type 0} → (History → X) → X → Type 0
Keeps s v = (e : Entry) (before : History) → s before ≡ v → s (e ∷ before) ≡ v

-- what is said of some first entries is said of all
stays : {X : Type 0} (s : History → X) (v : X) → Keeps s v → (h : History) (n : ℕ) → s (prefix n h) ≡ v → s h ≡ v
stays s v kept [] n p = p
stays s v kept (e ∷ before) n p = go (ltb (length before) n) p (λ q. stays s v kept before n q)
  where
    go : (b : Bool) → s (cond b (e ∷ before) (prefix n before)) ≡ v → (s (prefix n before) ≡ v → s before ≡ v) →
        s (e ∷ before) ≡ v
    go true q ih = q
    go false q ih = kept e before (ih q)

-- one entry further
pub goes-on : {X : Type 0} (s : History → X) (v : X) (h : History) (n : ℕ) (e : Entry) → n < length h →
    entry_at n h ≡ Some e → s (e ∷ prefix n h) ≡ v → s (prefix (n + 1) h) ≡ v
goes-on s v h n e less here p = ap s (prefix-more h n e less here) ∙ p

-- at an entry after which no later one matters
pub stops : {X : Type 0} (s : History → X) (v : X) → Keeps s v → (h : History) (n : ℕ) (e : Entry) → n < length h →
    entry_at n h ≡ Some e → s (e ∷ prefix n h) ≡ v → s h ≡ v
stops s v kept h n e less here p = stays s v kept h (n + 1) (goes-on s v h n e less here p)

-- where nothing was found earlier it is what is found here
pub or-first : {X : Type 0} (a b x : Option X) → a ≡ None → b ≡ x → or_here a b ≡ x
or-first a b None p q = rw (p, q) refl
or-first a b (Some x) p q = rw (p, q) refl

-- what was found earlier is kept
pub or-kept : {X : Type 0} (x : X) (a b : Option X) → a ≡ Some x → or_here a b ≡ Some x
or-kept x a None p = p
or-kept x a (Some y) p = rw p refl

pub any-kept : (a b : Bool) → b ≡ true → (a || b) ≡ true
any-kept true b p = refl
any-kept false b p = p

pub any-none : (a b : Bool) → a ≡ false → b ≡ false → (a || b) ≡ false
any-none a b p q = rw (p, q) refl
