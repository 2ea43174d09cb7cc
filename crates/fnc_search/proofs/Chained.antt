-- The entries of an operation from its newest one back, each found by the one after it.
use Rattle.std.proofs.Common.{
  ℕ,
  [],
  ◌∷◌,
  Bool,
  true,
  false,
  ◌≡◌,
  ◌<◌,
  ◌≤◌,
  ◌+◌,
  ◌==◌,
  ◌∙◌,
  refl,
  ap,
  ap₂,
  sym,
  subst,
  Option,
  Some,
  None,
  arith,
  cond,
  length,
  ltb,
  ltb-false,
  eqb-true,
  eq-eqb,
  ne_eqb,
  false-eqb,
}
use Rattle.std.specs.Prelude.{IfSome, option_and_then, option_map}
use Rattle.fnc_journal.specs.declared.entry.Entry.{Entry}
use Rattle.fnc_journal.specs.declared.entry.Slot.{Slot}
use Rattle.fnc_journal.specs.declared.event.Event.{Event}
use Rattle.fnc_journal.specs.declared.event.Start.{Start}
use Rattle.fnc_journal.specs.History.{History}
use Rattle.fnc_journal.specs.Missing.{is_number}
use Rattle.fnc_journal.specs.Found.{entry_at, started}
use Rattle.fnc_journal.specs.Links.{operation_here, latest, earlier}
use Rattle.fnc_journal.specs.Acts.{Act, acts, act_here}
use Rattle.fnc_journal.specs.Lawful.{Lawful}
use Rattle.fnc_journal.specs.Prefix.{prefix}
use Rattle.fnc_journal.proofs.ActsLemmas.{acts-none}
use Rattle.fnc_journal.proofs.Finds.{entry_at-newest, entry_at-push}
use Rattle.fnc_search.specs.Seen.{slot_for}
use Rattle.fnc_search.proofs.Numbered.{run-slot}
use Rattle.fnc_search.proofs.Pointed.{before-newest, before-older}
use Rattle.fnc_search.proofs.Prefixed.{prefix-most, prefix-prefix, prefix-shorter}

number-some : (x : Option ℕ) (n : ℕ) → is_number x n ≡ true → x ≡ Some n
number-some None n k = cc
number-some (Some m) n k = ap Some (eqb-true m n k)

entry_same : (a b : Entry) → ◌≡◌ {A = Option Entry} (Some a) (Some b) → a ≡ b
entry_same a b e = cc

-- the newest entry of an operation stands in the journal
pub latest-less : (o : ℕ) (h : History) (i : ℕ) → latest o h ≡ Some i → i < length h
latest-less o [] i k = cc
latest-less o (e ∷ h) i k = go (is_number (operation_here h e.event) o) k (λ j. latest-less o h i j)
  where
    go : (b : Bool) → cond b (Some (length h)) (latest o h) ≡ Some i → (latest o h ≡ Some i → i < length h) →
        i < length (e ∷ h)
    go true k ih = let same : length h ≡ i = cc in omega (arith, same)
    go false k ih = let less : i < length h = ih k in omega (arith, less)

-- an index that is there is below a number
abbrev pub IsBelow : ℕ → Option ℕ → Type 0
IsBelow n None = Unit {0}
IsBelow n (Some i) = i < n

-- it is the newest of some first entries too, where it is one of them
pub latest-prefix : (o : ℕ) (h : History) (n : ℕ) (x : Option ℕ) → latest o h ≡ x → IsBelow n x →
    latest o (prefix n h) ≡ x
latest-prefix o [] n x k l = k
latest-prefix o (e ∷ h) n x k l =
    go (ltb (length h) n) refl (is_number (operation_here h e.event) o) refl k (λ j. latest-prefix o h n x j l)
  where
    go : (b : Bool) → ltb (length h) n ≡ b → (c : Bool) → is_number (operation_here h e.event) o ≡ c →
        cond c (Some (length h)) (latest o h) ≡ x → (latest o h ≡ x → latest o (prefix n h) ≡ x) →
        latest o (cond b (e ∷ h) (prefix n h)) ≡ x
    go true p c q k ih = rw q k
    go false p true q k ih =
        let low : length h < n = subst (IsBelow n) (sym k) l in
        let most : n ≤ length h = ltb-false (length h) n p in
        absurd (omega (arith, low, most))
    go false p false q k ih = ih k

-- the entry before an entry is the same in some first entries
pub earlier-prefix : (h : History) (n i : ℕ) → i < length (prefix n h) → earlier i (prefix n h) ≡ earlier i h
earlier-prefix [] n i l = refl
earlier-prefix (e ∷ before) n i l = go (ltb (length before) n) l (λ k. earlier-prefix before n i k)
  where
    go : (b : Bool) → i < length (cond b (e ∷ before) (prefix n before)) →
        (i < length (prefix n before) → earlier i (prefix n before) ≡ earlier i before) →
        earlier i (cond b (e ∷ before) (prefix n before)) ≡ earlier i (e ∷ before)
    go true l ih = refl
    go false l ih =
        let short : length (prefix n before) ≤ length before = prefix-shorter n before in
        let other : (length before == i) ≡ false = ne_eqb (length before) i (λ p. omega (arith, short, l, p)) in
        ih l ∙ sym (rw other refl)

-- the entry before the newest one is the newest of what lies before that
pub earlier-latest : (o : ℕ) (h : History) (i : ℕ) → latest o h ≡ Some i → earlier i h ≡ latest o (prefix i h)
earlier-latest o [] i k = cc
earlier-latest o (e ∷ h) i k =
    go (is_number (operation_here h e.event) o) refl k (λ j. earlier-latest o h i j)
  where
    go : (b : Bool) → is_number (operation_here h e.event) o ≡ b → cond b (Some (length h)) (latest o h) ≡ Some i →
        (latest o h ≡ Some i → earlier i h ≡ latest o (prefix i h)) → earlier i (e ∷ h) ≡ latest o (prefix i (e ∷ h))
    go true q k ih =
        let same : length h ≡ i = cc in
        let here : (length h == i) ≡ true = eq-eqb (length h) i same in
        let whole : prefix i (e ∷ h) ≡ h = ap (λ n. prefix n (e ∷ h)) (sym same) ∙ before-newest e h in
        rw here (ap (option_and_then (λ n. latest n h)) (number-some (operation_here h e.event) o q)
        ∙ ap (latest o) (sym whole))
    go false q k ih =
        let less : i < length h = latest-less o h i k in
        let other : (length h == i) ≡ false = ne_eqb (length h) i (λ p. omega (arith, less, p)) in
        rw other (ih k ∙ ap (latest o) (sym (before-older e h i less)))

-- an entry of no run of an operation is no act of it
other-acts : (o : ℕ) (e : Entry) (h : History) → Lawful h → is_number (operation_here h e.event) o ≡ false →
    acts o (e ∷ h) ≡ acts o h
other-acts o e h l k = acts-none o e h (go e.event k)
  where
    turned : (n : ℕ) → (n == o) ≡ false → (o == n) ≡ false
    turned n p = ne_eqb o n (λ q. false-eqb n o (sym p) (sym q))

    none : (x : Option Start) → is_number (option_map (λ (s : Start). s.req.0) x) o ≡ false → slot_for o x ≡ None
    none None p = refl
    none (Some s) p = rw (turned s.req.0 p) refl

    go : (event : Event) → is_number (operation_here h event) o ≡ false → act_here o e.moment (acts o h) event ≡ None
    go (Event.Start start) p = rw (turned start.req.0 p) refl
    go (Event.Exit ended) p =
        ap (option_map (λ (w : Slot). Act.Ended e.moment w ended.exit ended.listed))
        (run-slot h l o ended.run.0 ∙ none (started ended.run.0 h) p)
    go _ p = refl

-- the acts of an operation are those up to its newest entry
pub acts-latest : (o : ℕ) (h : History) → Lawful h → (i : ℕ) (e : Entry) → latest o h ≡ Some i →
    entry_at i h ≡ Some e → acts o h ≡ acts o (e ∷ prefix i h)
acts-latest o [] l i e k f = cc
acts-latest o (d ∷ h) l i e k f =
    go (is_number (operation_here h d.event) o) refl k (λ j g. acts-latest o h l.1 i e j g)
  where
    go : (b : Bool) → is_number (operation_here h d.event) o ≡ b → cond b (Some (length h)) (latest o h) ≡ Some i →
        (latest o h ≡ Some i → entry_at i h ≡ Some e → acts o h ≡ acts o (e ∷ prefix i h)) →
        acts o (d ∷ h) ≡ acts o (e ∷ prefix i (d ∷ h))
    go true q k ih =
        let same : length h ≡ i = cc in
        let one : d ≡ e = entry_same d e
        (sym (entry_at-newest d h) ∙ ap (λ n. entry_at n (d ∷ h)) same ∙ f) in
        let whole : prefix i (d ∷ h) ≡ h = ap (λ n. prefix n (d ∷ h)) (sym same) ∙ before-newest d h in
        ap₂ (λ (x : Entry) (b : History). acts o (x ∷ b)) one (sym whole)
    go false q k ih =
        let less : i < length h = latest-less o h i k in
        other-acts o d h l.1 q ∙ ih k (sym (entry_at-push d h i less) ∙ f)
        ∙ ap (λ (b : History). acts o (e ∷ b)) (sym (before-older d h i less))

pub acts-nowhere : (o : ℕ) (h : History) → Lawful h → latest o h ≡ None → acts o h ≡ []
acts-nowhere o [] l k = refl
acts-nowhere o (d ∷ h) l k = go (is_number (operation_here h d.event) o) refl k (λ j. acts-nowhere o h l.1 j)
  where
    go : (b : Bool) → is_number (operation_here h d.event) o ≡ b → cond b (Some (length h)) (latest o h) ≡ None →
        (latest o h ≡ None → acts o h ≡ []) → acts o (d ∷ h) ≡ []
    go true q k ih = cc
    go false q k ih = other-acts o d h l.1 q ∙ ih k

-- an index on the way from the newest entry of all to the newest of the first n
abbrev pub Reaches : ℕ → History → ℕ → Option ℕ → Type 0
Reaches o h n None = latest o (prefix n h) ≡ None
Reaches o h n (Some i) = (latest o (prefix (i + 1) h) ≡ Some i) × (i < n → latest o (prefix n h) ≡ Some i)

pub reaches : (o n m : ℕ) (h : History) (x : Option ℕ) → n ≤ m → latest o (prefix m h) ≡ x → Reaches o h n x
reaches o n m h None l k =
    ap (latest o) (sym (prefix-prefix h m n l)) ∙ latest-prefix o (prefix m h) n None k tt
reaches o n m h (Some i) l k =
    let less : i < length (prefix m h) = latest-less o (prefix m h) i k in
    let short : length (prefix m h) ≤ m = prefix-most h m in (
      ap (latest o) (sym (prefix-prefix h m (i + 1) (omega (arith, less, short))))
          ∙ latest-prefix o (prefix m h) (i + 1) (Some i) k (omega arith),
      λ low. ap (latest o) (sym (prefix-prefix h m n l)) ∙ latest-prefix o (prefix m h) n (Some i) k low,
    )

-- the entry before one that is on the way
pub before-it : (o : ℕ) (h : History) (i : ℕ) → latest o (prefix (i + 1) h) ≡ Some i →
    latest o (prefix i h) ≡ earlier i h
before-it o h i k =
    ap (latest o) (sym (prefix-prefix h (i + 1) i (omega arith)))
    ∙ sym (earlier-latest o (prefix (i + 1) h) i k)
    ∙ earlier-prefix h (i + 1) i (latest-less o (prefix (i + 1) h) i k)

-- is less
pub before-less : (o : ℕ) (h : History) (i j : ℕ) → latest o (prefix (i + 1) h) ≡ Some i → earlier i h ≡ Some j → j < i
before-less o h i j k e =
    let less : j < length (prefix i h) = latest-less o (prefix i h) j (before-it o h i k ∙ e) in
    let short : length (prefix i h) ≤ i = prefix-most h i in
    omega (arith, less, short)

-- how far an index is on the way
abbrev pub way : Option ℕ → ℕ
way None = 0
way (Some i) = i + 1

pub way-less : (o : ℕ) (h : History) (i : ℕ) → latest o (prefix (i + 1) h) ≡ Some i → way (earlier i h) < i + 1
way-less o h i k = go (earlier i h) refl
  where
    go : (x : Option ℕ) → earlier i h ≡ x → way x < i + 1
    go None e = omega arith
    go (Some j) e = let less : j < i = before-less o h i j k e in omega (arith, less)

pub latest-within : (o : ℕ) (h : History) (x : Option ℕ) → x ≡ latest o h → IfSome x (λ i. i < length h)
latest-within o h None k = tt
latest-within o h (Some i) k = latest-less o h i (sym k)
