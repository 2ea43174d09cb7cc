-- How many operations have an item in the queue, counted over the operations of a journal: where one of them goes,
-- at most one less has one.
use Rattle.std.proofs.Common.{
  ℕ,
  List,
  [],
  ◌∷◌,
  Bool,
  true,
  false,
  ◌≡◌,
  ◌==◌,
  ◌≤◌,
  ◌+◌,
  refl,
  arith,
  subst,
  cond,
  if◌then◌else◌,
  eqb-true,
}
use Rattle.std.specs.Prelude.{filter}
use Rattle.std.specs.List.{AllZip, AllByRecursion}
use Rattle.fnc_journal.specs.History.{History}
use Rattle.fnc_journal.specs.Slots.{Operation}
use Rattle.fnc_records.specs.KeptOperation.{KeptOperation}
use Rattle.fnc_ops.specs.Stands.{Stands}
use Rattle.fnc_ops.proofs.Apart.{AreApart}
use Rattle.fnc_ops.proofs.OpenOperations.{number_of}
use Rattle.fnc_queue.specs.declared.waiting.Waiting.{Waiting}
use Rattle.fnc_queue.specs.Items.{is_waiting}
use Rattle.fnc_core.specs.Wanted.{held}

-- how many of these operations have an item
abbrev pub held_of : List Operation → List Waiting → ℕ
held_of [] items = 0
held_of (o ∷ os) items = if is_waiting o.req items then held_of os items + 1 else held_of os items

-- as many as of their records
pub held-stands : (h : History) (items : List Waiting) (rs : List KeptOperation) (os : List Operation) →
    AllZip (Stands h) rs os → held rs items ≡ held_of os items
held-stands h items [] [] z = refl
held-stands h items [] (o ∷ os) z = absurd z
held-stands h items (r ∷ rs) [] z = absurd z
held-stands h items (r ∷ rs) (o ∷ os) z = rw (z.0.operation.req, held-stands h items rs os z.1) refl

-- each operation with another number passes a test
abbrev pub OthersPass : ℕ → (Operation → Bool) → List Operation → Type 0
OthersPass p still os = AllByRecursion (λ (o : Operation). (o.req == p) ≡ false → still o ≡ true) os

-- those that all pass are as many
held-same : (p : ℕ) (still : Operation → Bool) (items : List Waiting) (os : List Operation) →
    AllByRecursion (λ (o : Operation). (o.req == p) ≡ false) os → OthersPass p still os →
    held_of (filter still os) items ≡ held_of os items
held-same p still items [] a s = refl
held-same p still items (o ∷ os) a s = let stays : still o ≡ true =
    s.0 a.0 in rw (stays, held-same p still items os a.1 s.1) refl

-- one less at most where one goes
pub held-filter : (p : ℕ) (still : Operation → Bool) (items : List Waiting) (os : List Operation) →
    AreApart number_of os → OthersPass p still os →
    held_of os items ≤ held_of (filter still os) items + 1
held-filter p still items [] d s = omega arith
held-filter p still items (o ∷ os) d s = go (o.req == p) refl (held-filter p still items os d.1 s.1)
  where
    mine : (x w : Bool) → held_of (filter still os) items ≡ held_of os items → is_waiting o.req items ≡ w →
        cond w (held_of os items + 1) (held_of os items) ≤ held_of
        (cond x (o ∷ filter still os) (filter still os)) items + 1
    mine true true k e = rw e (omega (arith, k))
    mine true false k e = rw e (omega (arith, k))
    mine false true k e = omega (arith, k)
    mine false false k e = omega (arith, k)

    other : (w : Bool) → held_of os items ≤ held_of (filter still os) items + 1 →
        cond w (held_of os items + 1) (held_of os items) ≤ cond w (held_of (filter still os) items + 1)
        (held_of (filter still os) items) + 1
    other true k = omega (arith, k)
    other false k = k

    go : (b : Bool) → (o.req == p) ≡ b → held_of os items ≤ held_of (filter still os) items + 1 →
        cond (is_waiting o.req items) (held_of os items + 1) (held_of os items) ≤ held_of
        (cond (still o) (o ∷ filter still os) (filter still os)) items + 1
    go true e k =
        let apart : AllByRecursion (λ (q : Operation). (q.req == p) ≡ false) os =
        subst (λ n. AllByRecursion (λ (q : Operation). (q.req == n) ≡ false) os) (eqb-true o.req p e) d.0 in
        mine (still o) (is_waiting o.req items) (held-same p still items os apart s.1) refl
    go false e k = let stays : still o ≡ true = s.0 e in rw stays (other (is_waiting o.req items) k)
