-- The open operations stand in rising order of their numbers, and each is the one that is found by its number.
use Rattle.std.proofs.Common.{
  ℕ,
  List,
  [],
  ◌∷◌,
  ◌++◌,
  Bool,
  true,
  false,
  ◌≡◌,
  ◌<◌,
  ◌==◌,
  refl,
  sym,
  subst,
  Option,
  Some,
  None,
  IsTrue,
  cond,
  arith,
  eqb-true,
  eq-eqb,
  ne_eqb,
}
use Rattle.std.specs.Prelude.{find, filter, filter_map}
use Rattle.std.specs.List.{AllByRecursion}
use Rattle.fnc_journal.specs.declared.event.Event.{Event}
use Rattle.fnc_journal.specs.History.{History}
use Rattle.fnc_journal.specs.Missing.{append_some}
use Rattle.fnc_journal.specs.Found.{asks}
use Rattle.fnc_journal.specs.Slots.{Operation}
use Rattle.fnc_journal.specs.Operations.{operation, operations, operation_here, open_operations, is_open}
use Rattle.fnc_journal.specs.Lawful.{Lawful, in_order}
use Rattle.fnc_journal.proofs.Each.{each-append}
use Rattle.fnc_journal.proofs.Lawfulness.{and-left, in_order-of}
use Rattle.fnc_journal.proofs.Fresh.{operations-small}
use Rattle.fnc_journal.proofs.Closing.{operation-req}
use Rattle.fnc_journal.proofs.Members.{Rising}

rising-end : (xs : List ℕ) (x : ℕ) → Rising xs → AllByRecursion (λ y. y < x) xs → Rising (xs ++ x ∷ [])
rising-end [] x r a = (tt, tt)
rising-end (y ∷ ys) x r a = (each-append (λ z. y < z) ys x r.0 a.0, rising-end ys x r.1 a.1)

operations-rising : (h : History) → Lawful h → Rising (operations h)
operations-rising [] l = tt
operations-rising (e ∷ before) l = go e.event (in_order-of e.moment e.event before l.0.ordered)
    (operations-rising before l.1)
  where
    go : (event : Event) → IsTrue (in_order event before) → Rising (operations before) →
        Rising (append_some (operations before) (operation_here event))
    go (Event.Ask ask_) i r = ask (ask_.req.0 == ask_.lead.0)
      where
        new : ask_.req.0 ≡ asks before
        new = eqb-true ask_.req.0 (asks before) (and-left _ _ (and-left _ _ (and-left _ _ (and-left _ _ i))))

        ask : (b : Bool) → Rising (append_some (operations before) (cond b (Some ask_.req.0) None))
        ask true = rising-end (operations before) ask_.req.0 r
            (subst (λ n. AllByRecursion (λ o. o < n) (operations before)) (sym new) (operations-small before l.1))
        ask false = r
    go _ i r = r

-- each operation has a lesser number than those after it
abbrev pub AreRising : List Operation → Type 0
AreRising [] = Unit {0}
AreRising (o ∷ os) = AllByRecursion (λ (p : Operation). o.req < p.req) os × AreRising os

module _ (h : History) where
  abbrev open_among : List ℕ → List Operation
  open_among os = filter_map (λ o. operation o h) (filter (λ o. is_open o h) os)

  open-above : (n : ℕ) (os : List ℕ) → AllByRecursion (λ o. n < o) os →
      AllByRecursion (λ (p : Operation). n < p.req) (open_among os)
  open-above n [] a = tt
  open-above n (o ∷ os) a = go (is_open o h) (operation o h) refl (open-above n os a.1)
    where
      go : (b : Bool) (x : Option Operation) → operation o h ≡ x →
          AllByRecursion (λ (p : Operation). n < p.req) (open_among os) →
          AllByRecursion (λ (p : Operation). n < p.req)
          (filter_map (λ o. operation o h) (cond b (o ∷ filter (λ o. is_open o h) os)
          (filter (λ o. is_open o h) os)))
      go false x e k = k
      go true None e k = rw e k
      go true (Some p) e k = let same : p.req ≡ o = operation-req o h p e in rw e (subst (λ i. n < i) (sym same) a.0, k)

  open-rising_among : (os : List ℕ) → Rising os → AreRising (open_among os)
  open-rising_among [] r = tt
  open-rising_among (o ∷ os) r = go (is_open o h) (operation o h) refl (open-rising_among os r.1)
    where
      go : (b : Bool) (x : Option Operation) → operation o h ≡ x → AreRising (open_among os) →
          AreRising (filter_map (λ o. operation o h)
          (cond b (o ∷ filter (λ o. is_open o h) os) (filter (λ o. is_open o h) os)))
      go false x e k = k
      go true None e k = rw e k
      go true (Some p) e k =
          let same : p.req ≡ o = operation-req o h p e in
          rw e (
            subst (λ n. AllByRecursion (λ (p : Operation). n < p.req) (open_among os)) (sym same)
                (open-above o os r.0),
            k,
          )

pub open-rising : (h : History) → Lawful h → AreRising (open_operations h)
open-rising h l = open-rising_among h (operations h) (operations-rising h l)

-- the one that is found by its number
abbrev pub FindsItself : List Operation → Operation → Type 0
FindsItself os o = find (λ (p : Operation). p.req == o.req) os ≡ Some o

found-later : (x : Operation) (os ps : List Operation) → AllByRecursion (λ (p : Operation). x.req < p.req) ps →
    AllByRecursion (FindsItself os) ps → AllByRecursion (FindsItself (x ∷ os)) ps
found-later x os [] a f = tt
found-later x os (p ∷ ps) a f =
    let other : (x.req == p.req) ≡ false = ne_eqb x.req p.req (λ g. omega (arith, g, a.0)) in
    (rw other f.0, found-later x os ps a.1 f.1)

found-itself : (os : List Operation) → AreRising os → AllByRecursion (FindsItself os) os
found-itself [] r = tt
found-itself (o ∷ os) r =
    let same : (o.req == o.req) ≡ true = eq-eqb o.req o.req refl in
    (rw same refl, found-later o os os r.0 (found-itself os r.1))

pub open-found_itself : (h : History) → Lawful h → AllByRecursion (FindsItself (open_operations h)) (open_operations h)
open-found_itself h l = found-itself (open_operations h) (open-rising h l)
