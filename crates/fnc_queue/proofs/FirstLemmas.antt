-- The first to start is the least of those that may start.
use Rattle.std.proofs.Common.{ℕ, List, [], ◌∷◌, Bool, true, false, ◌≡◌, ◌+◌, refl, sym, ap, ◌∙◌, subst, Option, Some, None, is_some, arith, add-one, suc, zero, eq-eqb, Bor, IfSome, cond, ◌==◌, ◌||◌}
use Rattle.std.specs.Option.{option_copied}
use Rattle.std.specs.List.{list_any, AllByRecursion, Contains}
use Rattle.fnc_journal.specs.declared.entry.Reg.{Reg}
use Rattle.fnc_queue.specs.declared.waiting.Waiting.{Waiting}
use Rattle.fnc_queue.specs.Items.{is_waiting, item_of, InOrder}
use Rattle.fnc_queue.specs.Lines.{AreApart}
use Rattle.fnc_queue.proofs.Numbers.{same-number}
use Rattle.fnc_queue.proofs.OrderLemmas.{order-apart}
use Rattle.fnc_queue.specs.Queued.{Queued}
use Rattle.fnc_queue.specs.Places.{may_start, is_before, soonest, first_among, first_of, any_may_start, IsFirst}

-- the order of starts
pub before-irreflexive : (a : Waiting) → is_before a a ≡ false
before-irreflexive a = grind arith

pub before-asymmetric : (a b : Waiting) → is_before a b ≡ true → is_before b a ≡ false
before-asymmetric a b h = grind arith

pub before-negative : (a b c : Waiting) → is_before a b ≡ false → is_before b c ≡ false → is_before a c ≡ false
before-negative a b c h k = grind arith

pub before-transitive : (a b c : Waiting) → is_before a b ≡ true → is_before b c ≡ true → is_before a c ≡ true
before-transitive a b c h k = grind arith

pub before-total : (a b : Waiting) → is_before a b ≡ false → (a.req.0 == b.req.0) ≡ false → is_before b a ≡ true
before-total a b h k = grind arith

-- two neither of which comes before the other are of one operation
pub before-tie : (a b : Waiting) → is_before a b ≡ false → is_before b a ≡ false → a.req.0 ≡ b.req.0
before-tie a b h k = grind arith

-- no item of the list that may start comes before this one
abbrev pub IsLeast : ℕ → List Reg → Waiting → List Waiting → Type 0
IsLeast m alive item items =
    AllByRecursion (λ other. may_start m alive other ≡ true → is_before other item ≡ false) items

-- what the first of a list is
abbrev pub Leads : ℕ → List Reg → List Waiting → Option Waiting → Type 0
Leads m alive items None = AllByRecursion (λ other. may_start m alive other ≡ false) items
Leads m alive items (Some item) = Contains items item × (may_start m alive item ≡ true) × IsLeast m alive item items

pub contains-later : (item other : Waiting) (items : List Waiting) → Contains items item → Contains (other ∷ items) item
contains-later item other items (k, l, e) = (k + 1, omega (arith, l), rw add-one e)

pub contains-here : (item : Waiting) (items : List Waiting) → Contains (item ∷ items) item
contains-here item items = (0, omega arith, refl)

-- its operation has a try that waits
pub contained-waits : (item : Waiting) (items : List Waiting) → Contains items item → is_waiting item.req.0 items ≡ true
contained-waits item [] (k, l, e) = absurd (omega (arith, l))
contained-waits item (x ∷ items) (zero, l, e) =
    rw e (let same : (item.req.0 == item.req.0) ≡ true = eq-eqb item.req.0 item.req.0 refl in rw same refl)
contained-waits item (x ∷ items) (suc k, l, e) =
    go (x.req.0 == item.req.0) (contained-waits item items (k, omega (arith, l), e))
  where
    go : (b : Bool) → is_waiting item.req.0 items ≡ true → (b || is_waiting item.req.0 items) ≡ true
    go true h = refl
    go false h = h

module _ (m : ℕ) (alive : List Reg) where
  none-before : (item : Waiting) (items : List Waiting) →
      AllByRecursion (λ other. may_start m alive other ≡ false) items → IsLeast m alive item items
  none-before item [] a = tt
  none-before item (other ∷ items) a = ((λ h. let both : true ≡ false = sym h ∙ a.0 in cc), none-before item items a.1)

  later-before : (item first : Waiting) (items : List Waiting) → is_before first item ≡ false →
      IsLeast m alive first items → IsLeast m alive item items
  later-before item first [] h a = tt
  later-before item first (other ∷ items) h a =
      ((λ k. before-negative other first item (a.0 k) h), later-before item first items h a.1)

  leads-more : (item : Waiting) (items : List Waiting) (o : Option Waiting) → Leads m alive items o → (b : Bool) →
      may_start m alive item ≡ b → Leads m alive (item ∷ items) (soonest (cond b (Some item) None) o)
  leads-more item items None a true e =
      (contains-here item items, e, ((λ _. before-irreflexive item), none-before item items a))
  leads-more item items None a false e = (e, a)
  leads-more item items (Some x) a false e =
      (contains-later x item items a.0, a.1, ((λ h. let both : true ≡ false = sym h ∙ e in cc), a.2))
  leads-more item items (Some x) a true e = go (is_before x item) refl
    where
      go : (b : Bool) → is_before x item ≡ b → Leads m alive (item ∷ items) (Some (cond b x item))
      go true h = (contains-later x item items a.0, a.1, ((λ _. before-asymmetric x item h), a.2))
      go false h = (contains-here item items, e, ((λ _. before-irreflexive item), later-before item x items h a.2))

  pub leads : (items : List Waiting) → Leads m alive items (first_among m alive items)
  leads [] = tt
  leads (item ∷ items) = leads-more item items (first_among m alive items) (leads items) (may_start m alive item) refl

  -- there is one exactly where any may start
  pub first-where-any : (items : List Waiting) →
      is_some (first_among m alive items) ≡ list_any (may_start m alive) items
  first-where-any [] = refl
  first-where-any (item ∷ items) = go (may_start m alive item) (first_among m alive items) (first-where-any items)
    where
      go : (b : Bool) (o : Option Waiting) → is_some o ≡ list_any (may_start m alive) items →
          is_some (soonest (cond b (Some item) None) o) ≡ (b || list_any (may_start m alive) items)
      go true None e = refl
      go true (Some x) e = refl
      go false o e = e

-- the first of a queue
pub first-is-first : (m : ℕ) (q : Queued) (item : Waiting) → first_of m q ≡ Some item → IsFirst m q item
first-is-first m q item e =
    let l : Leads m q.alive q.waiting (Some item) = subst (Leads m q.alive q.waiting) e (leads m q.alive q.waiting) in
    record { waits = l.0; starts = l.1; least = l.2 }

-- what holds of each item holds of one that is in the list
pub each-contained : (P : Waiting → Type 0) (items : List Waiting) (item : Waiting) → AllByRecursion P items →
    Contains items item → P item
each-contained P [] item a (k, l, e) = absurd (omega (arith, l))
each-contained P (x ∷ items) item a (zero, l, e) = subst P e a.0
each-contained P (x ∷ items) item a (suc k, l, e) = each-contained P items item a.1 (k, omega (arith, l), e)

-- an operation has no other item than this one
pub contained-own : (item : Waiting) (items : List Waiting) → AreApart items → Contains items item →
    item_of item.req.0 items ≡ Some item
contained-own item [] o (k, l, e) = absurd (omega (arith, l))
contained-own item (x ∷ items) o (zero, l, e) =
    subst (λ (w : Waiting). item_of w.req.0 (x ∷ items) ≡ Some w) e
    (let same : (x.req.0 == x.req.0) ≡ true = eq-eqb x.req.0 x.req.0 refl in rw same refl)
contained-own item (x ∷ items) o (suc k, l, e) =
    go (x.req.0 == item.req.0) refl (contained-waits item items later) (contained-own item items o.1 later)
  where
    later : Contains items item
    later = (k, omega (arith, l), e)

    go : (b : Bool) → (x.req.0 == item.req.0) ≡ b → is_waiting item.req.0 items ≡ true →
        item_of item.req.0 items ≡ Some item → cond b (Some x) (item_of item.req.0 items) ≡ Some item
    go true f w own =
        absurd (let here : is_waiting x.req.0 items ≡ true = subst (λ n. is_waiting n items ≡ true)
        (sym (same-number x.req.0 item.req.0 f)) w in
        let both : true ≡ false = sym here ∙ o.0 in cc)
    go false f w own = own

-- so it is with the first of a queue
pub first-own : (m : ℕ) (q : Queued) (item : Waiting) → InOrder q.waiting → IsFirst m q item →
    item_of item.req.0 q.waiting ≡ Some item
first-own m q item o f = contained-own item q.waiting (order-apart q.waiting o) f.waits

-- the same of a reference to it
pub borrowed-some : (m : ℕ) (q : Queued) (o : Option (Bor Waiting)) → option_copied o ≡ first_of m q →
    is_some o ≡ any_may_start m q
borrowed-some m q o e = same o ∙ ap is_some e ∙ first-where-any m q.alive q.waiting
  where
    same : (o : Option (Bor Waiting)) → is_some o ≡ is_some (option_copied o)
    same None = refl
    same (Some x) = refl

pub borrowed-own : (m : ℕ) (q : Queued) (o : Option (Bor Waiting)) → InOrder q.waiting →
    option_copied o ≡ first_of m q → IfSome o (λ item. item_of item.now.req.0 q.waiting ≡ Some item.now)
borrowed-own m q None i e = tt
borrowed-own m q (Some x) i e = first-own m q x.now i (first-is-first m q x.now (sym e))

pub borrowed-first : (m : ℕ) (q : Queued) (o : Option (Bor Waiting)) → option_copied o ≡ first_of m q →
    IfSome o (λ item. IsFirst m q item.now)
borrowed-first m q None e = tt
borrowed-first m q (Some x) e = first-is-first m q x.now (sym e)
