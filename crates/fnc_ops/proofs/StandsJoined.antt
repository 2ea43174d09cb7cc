-- The records stand for the journal with a request that joins an operation.
use Rattle.std.proofs.Common.{
  ℕ,
  List,
  [],
  ◌∷◌,
  ◌++◌,
  Bool,
  true,
  false,
  ◌≡◌,
  ◌<◌,
  ◌≤◌,
  ◌+◌,
  ◌==◌,
  refl,
  ap,
  sym,
  ◌∙◌,
  subst,
  Some,
  None,
  cond,
  not,
  zero,
  suc,
  arith,
  length,
  eqb-true,
  eq-eqb,
  ne_eqb,
  get_or,
  set,
  nat_lt,
  position,
}
use Rattle.std.proofs.lemmas.Bool.Decides.{nat_tests}
use Rattle.std.specs.Prelude.{filter, filter_map}
use Rattle.std.specs.List.{AllZip, AllByRecursion, position_or_len}
use Rattle.fnc_journal.specs.declared.entry.Req.{Req}
use Rattle.fnc_journal.specs.declared.event.Request.{Request}
use Rattle.fnc_journal.specs.History.{History}
use Rattle.fnc_journal.specs.Missing.{has_any}
use Rattle.fnc_journal.specs.Found.{asks, is_answered}
use Rattle.fnc_journal.specs.Slots.{Operation}
use Rattle.fnc_journal.specs.Acts.{acts}
use Rattle.fnc_journal.specs.Operations.{operation, operations, requests, unanswered, is_open, open_operations}
use Rattle.fnc_journal.specs.Lawful.{Lawful}
use Rattle.fnc_journal.proofs.Each.{each-map, each-filter, filter-append, filter-same, filter_map-same}
use Rattle.fnc_journal.proofs.Closing.{everywhere}
use Rattle.fnc_journal.proofs.Fresh.{unasked_unanswered, unasked_unrequested, operations-small}
use Rattle.fnc_records.specs.KeptOperation.{KeptOperation}
use Rattle.fnc_records.specs.OperationRecords.{with_member}
use Rattle.fnc_ops.specs.OpsRecords.{is_of, joined, waiting}
use Rattle.fnc_ops.specs.Stands.{Stands, StandEach, AreAt, numbers, ask_entry}
use Rattle.fnc_ops.proofs.Apart.{AreApart}
use Rattle.fnc_ops.proofs.OpenOperations.{number_of, open-apart}
use Rattle.fnc_ops.proofs.StandsReplies.{operation-members}
use Rattle.fnc_ops.proofs.Waits.{WaitAlike, waiting-alike}

-- the record at the place of the first of that number changes
pub joined-at : (p : ℕ) (req : Req) (rs : List KeptOperation) (i : ℕ) (d : KeptOperation) → i < length rs →
    is_of p (get_or rs i d) ≡ true → ((k : ℕ) → k < i → is_of p (get_or rs k d) ≡ false) →
    set rs i (with_member req (get_or rs i d)) ≡ joined p req rs
joined-at p req [] i d within here before = absurd (omega (arith, within))
joined-at p req (r ∷ rs) zero d within here before = rw here refl
joined-at p req (r ∷ rs) (suc i) d within here before =
    let first : (r.req == p) ≡ false = before 0 (omega arith) in
    let rest : set rs i (with_member req (get_or rs i d)) ≡ joined p req rs =
    joined-at p req rs i d (omega (arith, within)) here (λ k less. before (suc k) (omega (arith, less))) in
    rw first (ap (λ ss. r ∷ ss) rest)

-- where none has the number nothing changes
none-joined : (p : ℕ) (req : Req) (rs : List KeptOperation) → length rs ≤ position_or_len (is_of p) rs →
    rs ≡ joined p req rs
none-joined p req [] k = refl
none-joined p req (r ∷ rs) k = go (r.req == p) k (λ f. none-joined p req rs f)
  where
    go : (b : Bool) → length (r ∷ rs) ≤ cond (not b) (1 + position_or_len (is_of p) rs) 0 →
        (length rs ≤ position_or_len (is_of p) rs → rs ≡ joined p req rs) →
        r ∷ rs ≡ cond b (with_member req r ∷ rs) (r ∷ joined p req rs)
    go true f ih = absurd (omega (arith, f))
    go false f ih = ap (λ ss. r ∷ ss) (ih (omega (arith, f)))

pub joined-none : (p : ℕ) (req : Req) (rs : List KeptOperation) → position (is_of p) rs ≡ None → rs ≡ joined p req rs
joined-none p req rs e = none-joined p req rs (at-end (nat_lt (position_or_len (is_of p) rs) (length rs)) refl e)
  where
    at-end : (b : Bool) → nat_lt (position_or_len (is_of p) rs) (length rs) ≡ b →
        cond b (Some (position_or_len (is_of p) rs)) None ≡ None → length rs ≤ position_or_len (is_of p) rs
    at-end true k f = cc
    at-end false k f = grind (arith, nat_tests, k)

-- what each waits for stays
same-alike : (rs : List KeptOperation) → AllZip WaitAlike rs rs
same-alike [] = tt
same-alike (r ∷ rs) = (record { req = refl; waits = refl }, same-alike rs)

joined-alike : (p : ℕ) (req : Req) (rs : List KeptOperation) → AllZip WaitAlike (joined p req rs) rs
joined-alike p req [] = tt
joined-alike p req (r ∷ rs) = go (r.req == p) (joined-alike p req rs)
  where
    go : (b : Bool) → AllZip WaitAlike (joined p req rs) rs →
        AllZip WaitAlike (cond b (with_member req r ∷ rs) (r ∷ joined p req rs)) (r ∷ rs)
    go true ih = (record { req = refl; waits = refl }, same-alike rs)
    go false ih = (record { req = refl; waits = refl }, ih)

pub waiting-joined : (p : ℕ) (req : Req) (n : ℕ) (rs : List KeptOperation) → waiting n (joined p req rs) ≡ waiting n rs
waiting-joined p req n rs = waiting-alike n (joined p req rs) rs (joined-alike p req rs)

-- and the moments at which the records speak
pub at-joined : (p : ℕ) (req : Req) (m : ℕ) (rs : List KeptOperation) → AreAt m rs → AreAt m (joined p req rs)
at-joined p req m [] a = tt
at-joined p req m (r ∷ rs) a = go (r.req == p) (at-joined p req m rs a.1)
  where
    go : (b : Bool) → AreAt m (joined p req rs) → AreAt m (cond b (with_member req r ∷ rs) (r ∷ joined p req rs))
    go true ih = a
    go false ih = (a.0, ih)

numbers-append : (ms : List Req) (req : Req) → numbers (ms ++ req ∷ []) ≡ numbers ms ++ req.0 ∷ []
numbers-append [] req = refl
numbers-append (m ∷ ms) req = ap (λ ns. m.0 ∷ ns) (numbers-append ms req)

true-false : (b : Bool) → b ≡ true → b ≡ false → ⊥
true-false b e f = cc

has_any-append : (xs : List ℕ) (x : ℕ) → has_any (xs ++ x ∷ []) ≡ true
has_any-append [] x = refl
has_any-append (y ∷ ys) x = refl

-- a request of the next number joins an operation that is open
module _ (h : History) (l : Lawful h) (m : ℕ) (q : Request) (next : q.req.0 ≡ asks h)
    (open_lead : is_open q.lead.0 h ≡ true) where
  abbrev after : History
  after = ask_entry m q ∷ h

  -- an operation that is open was asked earlier
  earlier : q.lead.0 < asks h
  earlier = go (nat_lt q.lead.0 (asks h)) refl
    where
      go : (b : Bool) → nat_lt q.lead.0 (asks h) ≡ b → q.lead.0 < asks h
      go true e = grind (arith, nat_tests, e)
      go false e =
          let late : asks h ≤ q.lead.0 = grind (arith, nat_tests, e) in
          let none : requests q.lead.0 h ≡ [] = unasked_unrequested h l q.lead.0 late in
          let closed : is_open q.lead.0 h ≡ false = rw none refl in
          absurd (true-false (is_open q.lead.0 h) open_lead closed)

  other-lead : (q.req.0 == q.lead.0) ≡ false
  other-lead = let small : q.lead.0 < asks h = earlier in ne_eqb q.req.0 q.lead.0 (λ g. omega (arith, g, small, next))

  -- it waits for the operation that it joins
  pub unanswered-lead : unanswered q.lead.0 after ≡ unanswered q.lead.0 h ++ q.req.0 ∷ []
  unanswered-lead =
      let same : (q.lead.0 == q.lead.0) ≡ true = eq-eqb q.lead.0 q.lead.0 refl in
      let waits : is_answered q.req.0 h ≡ false = unasked_unanswered h l q.req.0 (omega (arith, next)) in
      rw same (filter-append (λ r. not (is_answered r h)) (requests q.lead.0 h) q.req.0 (ap not waits))

  -- and for no other
  pub unanswered-other : (o : ℕ) → (o == q.lead.0) ≡ false → unanswered o after ≡ unanswered o h
  unanswered-other o e = rw e refl

  same-open : (o : ℕ) → is_open o after ≡ is_open o h
  same-open o = go (o == q.lead.0) refl
    where
      go : (b : Bool) → (o == q.lead.0) ≡ b → is_open o after ≡ is_open o h
      go true e =
          let same : o ≡ q.lead.0 = eqb-true o q.lead.0 e in
          let now : is_open q.lead.0 after ≡ true = ap has_any unanswered-lead ∙ has_any-append (unanswered q.lead.0 h)
          q.req.0 in
          ap (λ n. is_open n after) same ∙ now ∙ sym (ap (λ n. is_open n h) same ∙ open_lead)
      go false e = ap has_any (unanswered-other o e)

  same-operation : (o : ℕ) → (o == q.req.0) ≡ false → operation o after ≡ operation o h
  same-operation o e = rw e refl

  -- the same operations are open
  pub open-joined : open_operations after ≡ open_operations h
  open-joined =
      ap (λ os. filter_map (λ o. operation o after) (filter (λ o. is_open o after) os)) listed
      ∙ ap (filter_map (λ o. operation o after)) (filter-same _ _ (operations h)
      (everywhere (λ o. is_open o after ≡ is_open o h) (operations h) same-open))
      ∙ filter_map-same _ _ (filter (λ o. is_open o h) (operations h)) (each-filter _ (λ o. is_open o h) (operations h)
      (each-map _ _ (operations h) (λ o k. same-operation o (ne_eqb o q.req.0 (λ g. omega (arith, k, next, g))))
      (operations-small h l)))
    where
      listed : operations after ≡ operations h
      listed = rw other-lead refl

  joined-one : (r : KeptOperation) (o : Operation) → o.req ≡ q.lead.0 → Stands h r o →
      Stands after (with_member q.req r) o
  joined-one r o same s =
      let now : unanswered o.req after ≡ unanswered o.req h ++ q.req.0 ∷ [] =
      subst (λ n. unanswered n after ≡ unanswered n h ++ q.req.0 ∷ []) (sym same) unanswered-lead in
      record {
        operation = operation-members r.moment (acts o.req h) r o (r.members ++ q.req ∷ []) s.operation;
        waiting_are = numbers-append r.members q.req ∙ ap (λ ns. ns ++ q.req.0 ∷ []) s.waiting_are ∙ sym now;
        confirmed_is = s.confirmed_is;
        untried_is = s.untried_is;
        enough = s.enough;
        few_runs = s.few_runs;
      }

  joined-other : (r : KeptOperation) (o : Operation) → (o.req == q.lead.0) ≡ false → Stands h r o → Stands after r o
  joined-other r o e s = record {
    operation = s.operation;
    waiting_are =
        s.waiting_are ∙ sym (unanswered-other o.req e);
    confirmed_is = s.confirmed_is;
    untried_is =
        s.untried_is;
    enough = s.enough;
    few_runs = s.few_runs;
  }

  others : (rs : List KeptOperation) (os : List Operation) →
      AllByRecursion (λ (o : Operation). (o.req == q.lead.0) ≡ false) os → AllZip (Stands h) rs os →
      AllZip (Stands after) rs os
  others [] [] a z = tt
  others [] (o ∷ os) a z = absurd z
  others (r ∷ rs) [] a z = absurd z
  others (r ∷ rs) (o ∷ os) a z = (joined-other r o a.0 z.0, others rs os a.1 z.1)

  joined-each : (rs : List KeptOperation) (os : List Operation) → AreApart number_of os → AllZip (Stands h) rs os →
      AllZip (Stands after) (joined q.lead.0 q.req rs) os
  joined-each [] [] d z = tt
  joined-each [] (o ∷ os) d z = absurd z
  joined-each (r ∷ rs) [] d z = absurd z
  joined-each (r ∷ rs) (o ∷ os) d z =
      let same : (r.req == q.lead.0) ≡ (o.req == q.lead.0) = ap (λ n. n == q.lead.0) z.0.operation.req in
      subst (λ b. AllZip (Stands after) (cond b (with_member q.req r ∷ rs) (r ∷ joined q.lead.0 q.req rs)) (o ∷ os))
      (sym same) (go (o.req == q.lead.0) refl (joined-each rs os d.1 z.1))
    where
      go : (b : Bool) → (o.req == q.lead.0) ≡ b → AllZip (Stands after) (joined q.lead.0 q.req rs) os →
          AllZip (Stands after) (cond b (with_member q.req r ∷ rs) (r ∷ joined q.lead.0 q.req rs)) (o ∷ os)
      go true e ih =
          let here : o.req ≡ q.lead.0 = eqb-true o.req q.lead.0 e in (
            joined-one r o here z.0,
            others rs os
                (subst (λ n. AllByRecursion (λ (p : Operation). (p.req == n) ≡ false) os) here d.0) z.1,
          )
      go false e ih = (joined-other r o e z.0, ih)

  pub stands-joined : (rs : List KeptOperation) → StandEach rs h → StandEach (joined q.lead.0 q.req rs) after
  stands-joined rs z = subst (λ os. AllZip (Stands after) (joined q.lead.0 q.req rs) os) (sym open-joined)
      (joined-each rs (open_operations h) (open-apart h l) z)
