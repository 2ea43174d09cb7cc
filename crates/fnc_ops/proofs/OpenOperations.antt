-- The operations that are open: each of them is, and no two have one number.
use Rattle.std.proofs.Common.{
  ℕ,
  List,
  [],
  ◌∷◌,
  Bool,
  true,
  false,
  ◌≡◌,
  ◌==◌,
  refl,
  sym,
  subst,
  Option,
  Some,
  None,
  IsTrue,
  cond,
  arith,
  eqb-true,
  ne_eqb,
}
use Rattle.std.specs.Prelude.{filter, filter_map}
use Rattle.std.specs.List.{AllByRecursion, cons_option}
use Rattle.fnc_journal.specs.declared.event.Event.{Event}
use Rattle.fnc_journal.specs.History.{History}
use Rattle.fnc_journal.specs.Missing.{append_some}
use Rattle.fnc_journal.specs.Found.{asks}
use Rattle.fnc_journal.specs.Slots.{Operation}
use Rattle.fnc_journal.specs.Operations.{operation, operations, operation_here, open_operations, is_open}
use Rattle.fnc_journal.specs.Lawful.{Lawful, in_order}
use Rattle.fnc_journal.proofs.Each.{each-map}
use Rattle.fnc_journal.proofs.Lawfulness.{and-left, in_order-of}
use Rattle.fnc_journal.proofs.Fresh.{operations-small}
use Rattle.fnc_journal.proofs.Closing.{operation-req}
use Rattle.fnc_ops.proofs.Apart.{AreApart, apart-append, apart-filter}

-- the number of an operation
abbrev pub number_of : Operation → ℕ
number_of o = o.req

-- what passes a test passes it
each-passes : (p : ℕ → Bool) (xs : List ℕ) → AllByRecursion (λ x. p x ≡ true) (filter p xs)
each-passes p [] = tt
each-passes p (x ∷ xs) = go (p x) refl (each-passes p xs)
  where
    go : (b : Bool) → p x ≡ b → AllByRecursion (λ x. p x ≡ true) (filter p xs) → AllByRecursion (λ x. p x ≡ true)
        (cond b (x ∷ filter p xs) (filter p xs))
    go true e k = (e, k)
    go false e k = k

-- what holds of the numbers holds of the operations of these numbers
each-found : (h : History) (P : ℕ → Type 0) (os : List ℕ) → AllByRecursion P os →
    AllByRecursion (λ (p : Operation). P p.req) (filter_map (λ o. operation o h) os)
each-found h P [] a = tt
each-found h P (o ∷ os) a = go (operation o h) refl (each-found h P os a.1)
  where
    go : (x : Option Operation) → operation o h ≡ x → AllByRecursion (λ (p : Operation). P p.req)
        (filter_map (λ o. operation o h) os) →
        AllByRecursion (λ (p : Operation). P p.req) (cons_option x (filter_map (λ o. operation o h) os))
    go None e k = k
    go (Some p) e k = let same : p.req ≡ o = operation-req o h p e in (subst P (sym same) a.0, k)

-- each of them is open
pub each-open : (h : History) → AllByRecursion (λ (p : Operation). is_open p.req h ≡ true) (open_operations h)
each-open h = each-found h (λ o. is_open o h ≡ true) (filter (λ o. is_open o h) (operations h))
    (each-passes (λ o. is_open o h) (operations h))

-- no two operations have one number
operations-apart : (h : History) → Lawful h → AreApart (λ o. o) (operations h)
operations-apart [] l = tt
operations-apart (e ∷ before) l = go e.event (in_order-of e.moment e.event before l.0.ordered)
    (operations-apart before l.1)
  where
    go : (event : Event) → IsTrue (in_order event before) → AreApart (λ o. o) (operations before) →
        AreApart (λ o. o) (append_some (operations before) (operation_here event))
    go (Event.Ask ask_) i d = ask (ask_.req.0 == ask_.lead.0)
      where
        next : ask_.req.0 ≡ asks before
        next = eqb-true ask_.req.0 (asks before) (and-left _ _ (and-left _ _ (and-left _ _ (and-left _ _ i))))

        ask : (b : Bool) → AreApart (λ o. o) (append_some (operations before) (cond b (Some ask_.req.0) None))
        ask true = apart-append (λ o. o) (operations before) ask_.req.0 (each-map _ _ (operations before)
            (λ o k. ne_eqb ask_.req.0 o (λ g. omega (arith, k, next, g))) (operations-small before l.1)) d
        ask false = d
    go _ i d = d

pub open-apart : (h : History) → Lawful h → AreApart number_of (open_operations h)
open-apart h l = go (filter (λ o. is_open o h) (operations h)) (apart-filter (λ o. o) (λ o. is_open o h) (operations h)
    (operations-apart h l))
  where
    go : (os : List ℕ) → AreApart (λ o. o) os → AreApart number_of (filter_map (λ o. operation o h) os)
    go [] d = tt
    go (o ∷ os) d = here (operation o h) refl (go os d.1)
      where
        here : (x : Option Operation) → operation o h ≡ x → AreApart number_of (filter_map (λ o. operation o h) os) →
            AreApart number_of (cons_option x (filter_map (λ o. operation o h) os))
        here None e k = k
        here (Some p) e k =
            let same : p.req ≡ o = operation-req o h p e in (
              subst (λ n. AllByRecursion (λ (q : Operation). (q.req == n) ≡ false) (filter_map (λ o. operation o h) os))
                  (sym same) (each-found h (λ q. (q == o) ≡ false) os d.0),
              k,
            )
