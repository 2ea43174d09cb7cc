-- The records stand for the journal with the entry of a call added.
use Rattle.std.proofs.Common.{
  ℕ,
  List,
  [],
  ◌∷◌,
  Bool,
  true,
  false,
  ◌≡◌,
  ◌≤◌,
  ◌<◌,
  ◌+◌,
  ◌-◌,
  ◌^◌,
  ◌==◌,
  refl,
  ap,
  ap₂,
  sym,
  ◌∙◌,
  subst,
  Option,
  Some,
  None,
  cond,
  is_some,
  arith,
  length,
  map,
  ◌&&◌,
  bytes_eq,
}
use Rattle.std.proofs.lemmas.Bool.Decides.{nat_tests}
use Rattle.std.specs.List.{AllZip, AllByRecursion}
use Rattle.fnc_journal.specs.declared.limits.TheConstants.{MOST_TRIES}
use Rattle.fnc_journal.specs.Same.{same_slot}
use Rattle.fnc_journal.proofs.AliveRuns.{slot_same}
use Rattle.fnc_journal.specs.declared.event.Confirmation.{Confirmation}
use Rattle.fnc_journal.specs.declared.event.Start.{Start}
use Rattle.fnc_journal.specs.History.{History}
use Rattle.fnc_journal.specs.Found.{asked}
use Rattle.fnc_journal.specs.Slots.{Operation, tries}
use Rattle.fnc_journal.specs.Acts.{Act, acts, act_here, cons_act, begun, runs}
use Rattle.fnc_journal.specs.Owed.{untried}
use Rattle.fnc_journal.specs.Due.{is_confirmed}
use Rattle.fnc_journal.specs.Operations.{operation, open_operations, unanswered, stands_at, settled}
use Rattle.fnc_journal.proofs.ActsLemmas.{acts-start, acts-other_start}
use Rattle.fnc_journal.proofs.Closing.{open-found}
use Rattle.fnc_journal.proofs.Requests.{operation-asked}
use Rattle.fnc_journal.proofs.Each.{each-map}
use Rattle.fnc_records.specs.declared.slot.SlotRecord.{SlotRecord}
use Rattle.fnc_records.specs.KeptOperation.{KeptOperation}
use Rattle.fnc_records.specs.SlotFacts.{BothOr, last_of}
use Rattle.fnc_records.specs.LevelFacts.{AreFew}
use Rattle.fnc_records.specs.LevelRecords.{level_started}
use Rattle.fnc_records.specs.OperationRecords.{
  is_idle,
  standing_slot,
  started_at,
  start_standing,
  operation_started,
  operation_confirmed,
  only,
}
use Rattle.fnc_records.specs.OperationFacts.{IsOperation, left_levels}
use Rattle.fnc_ops.specs.Stands.{
  IsKept,
  Stands,
  StandEach,
  AreAt,
  Try,
  EachAwaits,
  try_of,
  start_entry,
  of_try,
  confirm_entry,
  AreFewRuns,
}
use Rattle.fnc_records.proofs.OperationAnswers.{IsShortSlot, standing_slot_is}
use Rattle.fnc_records.proofs.OperationSteps.{operation-started}
use Rattle.fnc_records.proofs.StandingSlots.{standing-free, levels-free, standing-query}
use Rattle.fnc_records.proofs.LeftTries.{HasLeft, left-started}
use Rattle.fnc_ops.proofs.Tries.{HasTries}
use Rattle.fnc_ops.proofs.StandsTries.{IsAt, each-at, operation-at, tries-at, idle-ready, ready-for}

-- an operation has no more acts than the journal has entries
pub acts-few : (o : ℕ) (h : History) → length (acts o h) ≤ length h
acts-few o [] = omega arith
acts-few o (e ∷ h) = go (act_here o e.moment (acts o h) e.event) (acts-few o h)
  where
    go : (x : Option Act) → length (acts o h) ≤ length h → length (cons_act x (acts o h)) ≤ length (e ∷ h)
    go None k = omega (arith, k)
    go (Some a) k = omega (arith, k)

-- a start of the try that an operation waits for
module _ (h : History) (m : ℕ) (start : Start) (y : Try) where
  abbrev after : History
  after = start_entry m (of_try y start) ∷ h

  same-slot : (o : Operation) (x : Option SlotRecord) (r : KeptOperation) → BothOr (IsShortSlot o (acts o.req h)) x
      (Some y.task) → started_at m x r ≡ operation_started y.task.slot m r
  same-slot o None r b = absurd b
  same-slot o (Some s) r b = ap (λ w. operation_started w m r) b.is.slot

  one_less : (o : Operation) (xs : List Act) → untried o xs - 1 ≡ untried o (Act.Begun m start.run.0 y.task.slot ∷ xs)
  one_less o xs = let k : begun (Act.Begun m start.run.0 y.task.slot ∷ xs) ≡ begun xs + 1 = refl in omega (arith, k)

  -- the record of the slot at which the operation stands
  standing-both : (r : KeptOperation) (o : Operation) → IsAt h m r o → try_of h m o ≡ Some y →
      BothOr (IsShortSlot o (acts o.req h)) (standing_slot m r) (Some y.task)
  standing-both r o k w =
      subst (BothOr (IsShortSlot o (acts o.req h)) (standing_slot m r)) (ready-for h m o y w).stands
      (standing_slot_is o m (acts o.req h) r (operation-at h m r o k.stands k.at))

  -- no run of it is alive
  idle-now : (o : Operation) → try_of h m o ≡ Some y → is_idle (last_of y.task.slot (acts o.req h)) ≡ true
  idle-now o w = idle-ready h m o (acts o.req h) y.task ∙ ap is_some (ready-for h m o y w).ready_is

  -- the start takes one of the tries that are left
  pub takes-one : (r : KeptOperation) (o : Operation) → IsAt h m r o → try_of h m o ≡ Some y →
      left_levels (map (level_started y.task.slot m) r.levels) + 1 ≤ left_levels r.levels
  takes-one r o k w = go (standing_slot m r) refl (standing-both r o k w)
    where
      has : HasTries (acts o.req h) y.task
      has = tries-at h m r o k y.task (ready-for h m o y w).stands

      has-left : (s : SlotRecord) → IsShortSlot o (acts o.req h) s y.task → HasLeft s
      has-left s b =
          let fewer : runs y.task.slot (acts o.req h) < tries y.task = has.left (idle-now o w) in
          let most : tries y.task ≤ MOST_TRIES = has.most in
          let had : s.runs ≡ runs y.task.slot (acts o.req h) = b.is.runs_are in
          let allowed : s.tries ≡ tries y.task = b.is.tries_is in
          (omega (arith, fewer, had, allowed), omega (arith, most, allowed))

      go : (x : Option SlotRecord) → standing_slot m r ≡ x → BothOr (IsShortSlot o (acts o.req h)) x (Some y.task) →
          left_levels (map (level_started y.task.slot m) r.levels) + 1 ≤ left_levels r.levels
      go None e b = absurd b
      go (Some s) e b = subst (λ w. left_levels (map (level_started w m) r.levels) + 1 ≤ left_levels r.levels)
          b.is.slot (left-started m m r s e (has-left s b))

  -- and leaves few runs of each slot
  runs-started : (r : KeptOperation) (o : Operation) → IsAt h m r o → try_of h m o ≡ Some y →
      AreFewRuns (Act.Begun m start.run.0 y.task.slot ∷ acts o.req h)
  runs-started r o k w s = go (same_slot s y.task.slot) refl
    where
      one-more : runs y.task.slot (acts o.req h) + 1 ≤ MOST_TRIES
      one-more =
          let has : HasTries (acts o.req h) y.task = tries-at h m r o k y.task (ready-for h m o y w).stands in
          let fewer : runs y.task.slot (acts o.req h) < tries y.task = has.left (idle-now o w) in
          let most : tries y.task ≤ MOST_TRIES = has.most in
          omega (arith, fewer, most)

      go : (b : Bool) → same_slot s y.task.slot ≡ b → cond b (runs s (acts o.req h) + 1) (runs s (acts o.req h)) ≤
          MOST_TRIES
      go true e = subst (λ w. runs w (acts o.req h) + 1 ≤ MOST_TRIES) (sym (slot_same s y.task.slot e)) one-more
      go false e = k.stands.few_runs s

  module _ (few : length h + 1 < 2 ^ 32) (early : m < 2 ^ 63) where
    started-one : (r : KeptOperation) (o : Operation) → IsAt h m r o → try_of h m o ≡ Some y →
        (o.req == start.req.0) ≡ true → Stands after (start_standing m r) o
    started-one r o k w same =
        let s = k.stands in
        let e : stands_at h m o ≡ Some y.task = (ready-for h m o y w).stands in
        let now : IsOperation m (acts o.req h) r o = operation-at h m r o k.stands k.at in
        let few_acts : AreFew (acts o.req h) = (let k : length (acts o.req h) ≤ length h = acts-few o.req h in
        omega (arith, k, few)) in
        let next : IsOperation m (Act.Begun m start.run.0 y.task.slot ∷ acts o.req h)
        (operation_started y.task.slot m r) o =
        operation-started o m start.run.0 y.task.slot (acts o.req h) few_acts early r
        (standing-query o m (acts o.req h) r now y.task e) (idle-now o w)
        (standing-free o m (acts o.req h) r now y.task e) (levels-free o m (acts o.req h) r now y.task e) now in
        let slot : start_standing m r ≡ operation_started y.task.slot m r = same-slot o (standing_slot m r) r
        (standing-both r o k w) in
        let less : left_levels (map (level_started y.task.slot m) r.levels) + 1 ≤ left_levels r.levels =
        takes-one r o k w in
        let enough : left_levels r.levels ≤ r.untried = s.enough in
        let kept : IsKept (Act.Begun m start.run.0 y.task.slot ∷ acts o.req h) (unanswered o.req h) (is_confirmed o h)
        (operation_started y.task.slot m r) o =
        record {
          operation = subst (λ n. IsOperation n (Act.Begun m start.run.0 y.task.slot ∷ acts o.req h)
              (operation_started y.task.slot m r) o) (sym k.at) next;
          waiting_are = s.waiting_are;
          confirmed_is = s.confirmed_is;
          untried_is = ap (λ n. n - 1) s.untried_is ∙ one_less o (acts o.req h);
          enough = omega (arith, less, enough);
          few_runs = runs-started r o k w;
        } in
        subst (λ w. Stands after w o) (sym slot)
        (subst (λ xs. IsKept xs (unanswered o.req h) (is_confirmed o h) (operation_started y.task.slot m r) o)
        (sym (acts-start o.req m (of_try y start) h same)) kept)

    started-other : (r : KeptOperation) (o : Operation) → Stands h r o → (o.req == start.req.0) ≡ false →
        Stands after r o
    started-other r o s other = subst (λ xs. IsKept xs (unanswered o.req h) (is_confirmed o h) r o)
        (sym (acts-other_start o.req m (of_try y start) h other)) s

    started-of : (r : KeptOperation) (o : Operation) → IsAt h m r o → ((o.req == start.req.0) ≡ true →
        try_of h m o ≡ Some y) → Stands after (only start.req.0 (start_standing m) r) o
    started-of r o k w =
        let same : (r.req == start.req.0) ≡ (o.req == start.req.0) =
        ap (λ n. n == start.req.0) k.stands.operation.req in
        subst (λ b. Stands after (cond b (start_standing m r) r) o) (sym same) (go (o.req == start.req.0) refl)
      where
        go : (b : Bool) → (o.req == start.req.0) ≡ b → Stands after (cond b (start_standing m r) r) o
        go true e = started-one r o k (w e) e
        go false e = started-other r o k.stands e

    started-all : (rs : List KeptOperation) (os : List Operation) → AllZip (IsAt h m) rs os →
        AllByRecursion (λ o. (o.req == start.req.0) ≡ true → try_of h m o ≡ Some y) os →
        AllZip (Stands after) (map (only start.req.0 (start_standing m)) rs) os
    started-all [] [] z w = tt
    started-all [] (o ∷ os) z w = absurd z
    started-all (r ∷ rs) [] z w = absurd z
    started-all (r ∷ rs) (o ∷ os) z w = (started-of r o z.0 w.0, started-all rs os z.1 w.1)

    pub stands-started : (rs : List KeptOperation) → StandEach rs h → AreAt m rs → settled h m ≡ true →
        EachAwaits h m start.req.0 y → StandEach (map (only start.req.0 (start_standing m)) rs) after
    stands-started rs z a s w = started-all rs (open_operations h) (each-at h m rs s a z) w

-- an operator's word
same_number : (x y : ℕ) → (x == y) ≡ (y == x)
same_number x y = grind (arith, nat_tests)

same_bytes : (xs ys : List ℕ) → bytes_eq xs ys ≡ bytes_eq ys xs
same_bytes [] [] = refl
same_bytes [] (y ∷ ys) = refl
same_bytes (x ∷ xs) [] = refl
same_bytes (x ∷ xs) (y ∷ ys) = ap₂ ◌&&◌ (same_number x y) (same_bytes xs ys)

module _ (h : History) (m : ℕ) (word : Confirmation) where
  abbrev told : History
  told = confirm_entry m word ∷ h

  confirmed-one : (r : KeptOperation) (o : Operation) → is_some (asked o.req h) ≡ true → Stands h r o →
      Stands told (operation_confirmed word.target r) o
  confirmed-one r o a s =
      let same : bytes_eq word.target r.target ≡ bytes_eq o.target word.target =
      ap (bytes_eq word.target) s.operation.target ∙ same_bytes word.target o.target in
      subst (λ b. Stands told (cond b (record r { confirmed = true }) r) o) (sym same)
      (go (bytes_eq o.target word.target) refl)
    where
      same_operation : IsOperation r.moment (acts o.req h) r o → IsOperation r.moment (acts o.req h)
          (record r { confirmed = true }) o
      same_operation i = record {
        req = i.req;
        kind = i.kind;
        target = i.target;
        begin = i.begin;
        over = i.over;
        past = i.past;
        turns = i.turns;
        distinct = i.distinct;
        levels_distinct = i.levels_distinct;
        queries_are = i.queries_are;
        ranks_are = i.ranks_are;
        ranked_is = i.ranked_is;
        unranked = i.unranked;
      }

      go : (b : Bool) → bytes_eq o.target word.target ≡ b → Stands told (cond b (record r { confirmed = true }) r) o
      go true e = record {
        operation = same_operation s.operation;
        waiting_are = s.waiting_are;
        confirmed_is =
            rw (e, a) refl;
        untried_is = s.untried_is;
        enough = s.enough;
        few_runs = s.few_runs;
      }
      go false e = record {
        operation = s.operation;
        waiting_are = s.waiting_are;
        confirmed_is =
            rw e s.confirmed_is;
        untried_is = s.untried_is;
        enough = s.enough;
        few_runs = s.few_runs;
      }

  confirmed-all : (rs : List KeptOperation) (os : List Operation) → AllZip (Stands h) rs os →
      AllByRecursion (λ (o : Operation). is_some (asked o.req h) ≡ true) os →
      AllZip (Stands told) (map (operation_confirmed word.target) rs) os
  confirmed-all [] [] z a = tt
  confirmed-all [] (o ∷ os) z a = absurd z
  confirmed-all (r ∷ rs) [] z a = absurd z
  confirmed-all (r ∷ rs) (o ∷ os) z a = (confirmed-one r o a.0 z.0, confirmed-all rs os z.1 a.1)

  pub stands-confirmed : (rs : List KeptOperation) → StandEach rs h →
      StandEach (map (operation_confirmed word.target) rs) told
  stands-confirmed rs z =
      confirmed-all rs (open_operations h) z
      (each-map (λ (o : Operation). operation o.req h ≡ Some o) (λ (o : Operation). is_some (asked o.req h) ≡ true)
      (open_operations h) (λ o e. operation-asked o.req h o e) (open-found h))
