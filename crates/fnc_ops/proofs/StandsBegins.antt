-- The records stand for the journal with the request of an operation that begins.
use Rattle.std.proofs.Common.{
  ℕ,
  List,
  [],
  ◌∷◌,
  ◌++◌,
  Bool,
  true,
  false,
  ◌≡◌,
  ◌≤◌,
  ◌<◌,
  ◌+◌,
  ◌==◌,
  refl,
  ap,
  ap₂,
  sym,
  ◌∙◌,
  subst,
  Option,
  Some,
  cond,
  arith,
  length,
  is_some,
  ne_eqb,
  eq-eqb,
  ◌||◌,
  ◌&&◌,
  bytes_eq,
}
use Rattle.std.proofs.Math.Bool.{and-false}
use Rattle.std.specs.Prelude.{find, option_and_then, OnOk, OnErr, Result, Ok, Err}
use Rattle.std.specs.List.{AllZip, AllByRecursion}
use Rattle.fnc_journal.specs.declared.limits.TheConstants.{MOST_DEVICES}
use Rattle.fnc_journal.specs.declared.event.Event.{Event}
use Rattle.fnc_journal.specs.declared.plan.Plan.{Plan}
use Rattle.fnc_journal.specs.declared.outcome.NoMemory.{NoMemory}
use Rattle.fnc_journal.specs.History.{History}
use Rattle.fnc_journal.specs.Found.{Asked, asks, is_ask}
use Rattle.fnc_journal.specs.Plan as Planned
use Rattle.fnc_journal.specs.Slots.{Operation, operation_by, all_slots}
use Rattle.fnc_journal.specs.Acts.{Act, acts}
use Rattle.fnc_journal.specs.Due.{confirms, is_confirmed}
use Rattle.fnc_journal.specs.Lawful.{Lawful}
use Rattle.fnc_journal.specs.Operations.{open_operations}
use Rattle.fnc_journal.specs.Owed.{untried, tries_of}
use Rattle.fnc_journal.proofs.Asking.{open-asked, unanswered-new, unanswered-other}
use Rattle.fnc_journal.proofs.Fresh.{open-small, unasked_idle}
use Rattle.fnc_journal.proofs.Requests.{fresh_ask}
use Rattle.fnc_ops.specs.declared.ops.Operation.{Operation as Begun}
use Rattle.fnc_ops.specs.Kept.{Kept}
use Rattle.fnc_records.specs.KeptOperation.{KeptOperation}
use Rattle.fnc_records.specs.OperationFacts.{IsOperation, left_levels}
use Rattle.fnc_ops.specs.FreshRecords.{unseen_operation, fresh_operation, begun_by, asked_of, wanted_by}
use Rattle.fnc_ops.specs.OpsRecords.{is_of, OthersWait}
use Rattle.fnc_records.specs.OperationRecords as OperationRecords
use Rattle.fnc_records.specs.OperationRecords.{ranked_if_queried, ranked_levels}
use Rattle.fnc_ops.specs.Stands.{
  IsKept,
  Stands,
  StandsFor,
  AreBounded,
  ask_entry,
  begun_request,
  numbers,
  AreFewRuns,
}
use Rattle.fnc_records.proofs.Zip.{zip_append}
use Rattle.fnc_ops.proofs.StandsExits.{req-ranked, moment-ranked, members-ranked, confirmed-ranked}
use Rattle.fnc_ops.proofs.FreshOperations.{planned-bare, operation-fresh, untried-fresh, left-fresh}
use Rattle.fnc_ops.proofs.PlannedLevels.{planned-distinct}

-- no operation to come is confirmed
unasked_unconfirmed : (h : History) → Lawful h → (o : Operation) → asks h ≤ o.req → is_confirmed o h ≡ false
unasked_unconfirmed [] l o k = refl
unasked_unconfirmed (e ∷ before) l o k =
    ap₂ ◌||◌ (go e.event) (unasked_unconfirmed before l.1 o (less (is_ask e.event) k))
  where
    less : (b : Bool) → cond b (asks before + 1) (asks before) ≤ o.req → asks before ≤ o.req
    less true m = omega (arith, m)
    less false m = m

    go : (event : Event) → confirms o before event ≡ false
    go (Event.Confirm confirmation) = ap (λ (x : Option Asked). bytes_eq o.target confirmation.target && is_some x)
        (fresh_ask before l.1 o.req (less (is_ask e.event) k)) ∙ and-false (bytes_eq o.target confirmation.target)
    go _ = refl

-- the operation of a request that begins it
module _ (r : Begun) (p : Plan) (h : History) (client : List ℕ) (lawful : Lawful h) (number : r.req.0 ≡ asks h)
    (planned : p ≡ Planned.plan (wanted_by r p.scope) h) (bounded : AreBounded h) where
  abbrev begun : Operation
  begun = begun_by r p h

  abbrev after : History
  after = ask_entry r.moment (begun_request r client p.scope) ∷ h

  fresh-stands : (tries : ℕ) → tries ≡ tries_of (all_slots begun) → length p.candidates ≤ MOST_DEVICES →
      Stands after (fresh_operation tries begun) begun
  fresh-stands tries counted few =
      let acts_none : acts r.req.0 h ≡ [] = unasked_idle h lawful r.req.0 (omega (arith, number)) in
      let bare = planned-bare (wanted_by r p.scope) h p planned in
      let apart = planned-distinct r.kind (wanted_by r p.scope) h p planned in
      let untried_now : (fresh_operation tries begun).untried ≡ untried begun [] =
      untried-fresh r p h tries bounded bare apart few counted in
      let left : left_levels (fresh_operation tries begun).levels ≤ tries_of (all_slots begun) =
      left-fresh r p h tries bounded bare apart few in
      record {
        operation = subst (λ m. IsOperation m (acts r.req.0 h) (fresh_operation tries begun) begun)
            (sym (moment-ranked r.moment (unseen_operation tries begun)))
            (subst (λ (xs : List Act). IsOperation r.moment xs (fresh_operation tries begun) begun) (sym acts_none)
            (operation-fresh r p h tries bounded bare apart few));
        waiting_are = ap numbers (members-ranked r.moment (unseen_operation tries begun))
            ∙ sym (unanswered-new h lawful r.moment (begun_request r client p.scope) number);
        confirmed_is = confirmed-ranked r.moment (unseen_operation tries begun)
            ∙ sym (unasked_unconfirmed h lawful begun (omega (arith, number)));
        untried_is = untried_now ∙ sym (ap (untried begun) acts_none);
        enough = omega (arith, untried_now, left);
        few_runs = subst AreFewRuns (sym acts_none) (λ s. omega arith);
      }

  -- the others stand as before
  other-stands : (k : KeptOperation) (o : Operation) → o.req < asks h → Stands h k o → Stands after k o
  other-stands k o less s =
      let other : (o.req == r.req.0) ≡ false = ne_eqb o.req r.req.0 (λ e. omega (arith, less, number, e)) in
      subst (λ ws. IsKept (acts o.req h) ws (is_confirmed o h) k o)
      (sym (unanswered-other h r.moment (begun_request r client p.scope) o.req other)) s

  others-stand : (ks : List KeptOperation) (os : List Operation) → AllByRecursion (λ (o : Operation). o.req < asks h)
      os → AllZip (Stands h) ks os → AllZip (Stands after) ks os
  others-stand [] [] less z = tt
  others-stand [] (o ∷ os) less z = absurd z
  others-stand (k ∷ ks) [] less z = absurd z
  others-stand (k ∷ ks) (o ∷ os) less z = (other-stands k o less.0 z.0, others-stand ks os less.1 z.1)

  pub opened : open_operations after ≡ open_operations h ++ begun ∷ []
  opened =
      open-asked h lawful r.moment (begun_request r client p.scope) number
      ∙ ap (λ (q : Plan). open_operations h ++ operation_by r.req.0 (asked_of r p.scope h) q ∷ []) (sym planned)

  pub stands-begun : (tries : ℕ) → tries ≡ tries_of (all_slots begun) → length p.candidates ≤ MOST_DEVICES →
      (v : Kept) → StandsFor v h →
      StandsFor (record v { operations = v.operations ++ fresh_operation tries begun ∷ [] }) after
  stands-begun tries counted few v s = record {
    each = subst (λ (os : List Operation). AllZip (Stands after) (v.operations ++ fresh_operation tries begun ∷ []) os)
        (sym opened)
        (zip_append (Stands after) v.operations (fresh_operation tries begun ∷ []) (open_operations h) (begun ∷ [])
        (others-stand v.operations (open_operations h) (open-small h lawful) s.each)
        (fresh-stands tries counted few, tt));
    alive = s.alive;
  }

find-other : {X : Type 0} (t : X → Bool) (xs : List X) (x : X) → t x ≡ false → find t (xs ++ x ∷ []) ≡ find t xs
find-other t [] x e = rw e refl
find-other t (y ∷ ys) x e = ap (cond (t y) (Some y)) (find-other t ys x e)

-- the other operations wait for what they waited for
pub others-wait : (r : Begun) (p : Plan) (h : History) (tries : ℕ) (v : Kept) →
    OthersWait r.req.0 v (record v { operations = v.operations ++ fresh_operation tries (begun_by r p h) ∷ [] })
others-wait r p h tries v n e = ap (option_and_then OperationRecords.waiting) (find-other (is_of n) v.operations
    (fresh_operation tries (begun_by r p h))
    (ap (λ k. k == n) (req-ranked r.moment (unseen_operation tries (begun_by r p h))) ∙ other))
  where
    other : (r.req.0 == n) ≡ false
    other = ne_eqb r.req.0 n (λ g. let same : (n == r.req.0) ≡ true = eq-eqb n r.req.0 (sym g) in
        let wrong : true ≡ false = sym same ∙ e in cc)

-- the same whether there was memory or not
pub others-wait-ever : (r : Begun) (p : Plan) (h : History) (tries : ℕ) (v w : Kept) (x : Result (Unit {0}) NoMemory) →
    OnOk x (w ≡ record v { operations = v.operations ++ fresh_operation tries (begun_by r p h) ∷ [] }) →
    OnErr x (w ≡ v) → OthersWait r.req.0 v w
others-wait-ever r p h tries v w (Ok u) e f = subst (OthersWait r.req.0 v) (sym e) (others-wait r p h tries v)
others-wait-ever r p h tries v w (Err u) e f = subst (OthersWait r.req.0 v) (sym f) (λ n k. refl)
