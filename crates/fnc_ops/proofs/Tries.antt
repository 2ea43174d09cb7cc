-- The slot at which an operation stands was started no more often than is allowed, while no answer is due; where no run
-- of it is alive it has a try left.
use Rattle.std.proofs.Common.{
  ℕ,
  List,
  [],
  ◌∷◌,
  Bool,
  true,
  false,
  ◌≡◌,
  ◌≤◌,
  ◌<◌,
  ◌+◌,
  ◌==◌,
  ◌&&◌,
  refl,
  ap,
  sym,
  subst,
  Option,
  Some,
  None,
  cond,
  not,
  is_some,
  nat_le,
  arith,
  false-eqb,
}
use Rattle.std.proofs.lemmas.Bool.{or_parts}
use Rattle.std.proofs.lemmas.Bool.Decides.{nat_tests}
use Rattle.std.specs.Prelude.{option_map}
use Rattle.std.specs.List.{list_all}
use Rattle.std.specs.Option.{option_or}
use Rattle.fnc_journal.specs.declared.limits.TheConstants.{MOST_TRIES}
use Rattle.fnc_journal.specs.declared.entry.Answer.{Answer}
use Rattle.fnc_journal.specs.History.{History}
use Rattle.fnc_journal.specs.Missing.{has_come}
use Rattle.fnc_journal.specs.Device.{cuts_power}
use Rattle.fnc_journal.specs.Slots.{Task, Operation, Rank, tries}
use Rattle.fnc_journal.specs.Acts.{Act, acts, runs, failed, has_succeeded, spent, end}
use Rattle.fnc_journal.specs.Standing as Standing
use Rattle.fnc_journal.specs.Standing.{ranks, queries_concluded, lost}
use Rattle.fnc_journal.specs.Due.{is_confirmed, answer_passed, passed_among, failure_due, due_by_acts}
use Rattle.fnc_journal.specs.Operations.{is_due}
use Rattle.fnc_records.specs.declared.slot.SlotRecord.{SlotRecord}
use Rattle.fnc_records.specs.KeptOperation.{KeptOperation}
use Rattle.fnc_records.specs.SlotFacts.{BothOr, last_of}
use Rattle.fnc_records.specs.OperationRecords.{is_idle, standing_slot}
use Rattle.fnc_records.specs.OperationFacts.{IsOperation}
use Rattle.fnc_ops.proofs.AliveCounts.{one_if}
use Rattle.fnc_records.proofs.OperationAnswers.{IsShortSlot, standing_slot_is}
use Rattle.fnc_records.proofs.StandingSlots.{standing-open}
use Rattle.fnc_ops.proofs.Turns.{counted}

-- where no answer is due the total is not over
later-than : (over m : ℕ) → nat_le over m ≡ false → m < over
later-than over m e = grind (arith, nat_tests, e)

time-left : (over m : ℕ) (b : Bool) → nat_le over m ≡ b → is_some (cond b (Some Answer.Time) None) ≡ false → m < over
time-left over m true k e = cc
time-left over m false k e = later-than over m k

failure-left : (o : Operation) (m : ℕ) (xs : List Act) (ls : List Rank) → is_some (failure_due o m xs ls) ≡ false →
    m < o.over
failure-left o m xs [] e = go (queries_concluded o m xs) e
  where
    go : (b : Bool) → is_some (cond b (Some Answer.NoDevice) (cond (nat_le o.over m) (Some Answer.Time) None)) ≡
        false → m < o.over
    go true f = cc
    go false f = time-left o.over m (nat_le o.over m) refl f
failure-left o m xs (l ∷ ls) e = go (queries_concluded o m xs && list_all (lost o m xs) (l ∷ ls)) e
  where
    go : (b : Bool) → is_some (cond b (Some Answer.Levels) (cond (nat_le o.over m) (Some Answer.Time) None)) ≡ false →
        m < o.over
    go true f = cc
    go false f = time-left o.over m (nat_le o.over m) refl f

none-other : (x y : Option Answer) → is_some (option_or x y) ≡ false → is_some y ≡ false
none-other None y e = e
none-other (Some a) y e = cc

pub not-over : (h : History) (m : ℕ) (o : Operation) → is_due h m o ≡ false → m < o.over
not-over h m o e = go (is_confirmed o h && cuts_power o.kind) e
  where
    go : (b : Bool) → is_some (cond b (Some Answer.Confirmed) (due_by_acts o m (acts o.req h))) ≡ false → m < o.over
    go true f = cc
    go false f =
        failure-left o m (acts o.req h) (ranks o m (acts o.req h))
        (none-other (option_map answer_passed (passed_among o m (acts o.req h) (ranks o m (acts o.req h))))
        (failure_due o m (acts o.req h) (ranks o m (acts o.req h))) f)

-- the runs that a slot has had, and the tries that it is allowed
pub record HasTries (xs : List Act) (t : Task) : Type 0 where
  pub few : runs t.slot xs ≤ tries t
  pub left : is_idle (last_of t.slot xs) ≡ true → runs t.slot xs < tries t
  pub most : tries t ≤ MOST_TRIES

-- of the slot at which the operation stands
module _ (o : Operation) (m : ℕ) (xs : List Act) (early : m < o.over) where
  by-record : (r : KeptOperation) → IsOperation m xs r o → (t : Task) → Standing.standing o m xs ≡ Some t →
      (s : SlotRecord) → IsShortSlot o xs s t → HasTries xs t
  by-record r h t e s k = record { few = few (is_idle (last_of t.slot xs)) refl; left = left; most = k.short.few }
    where
      succeeded : has_succeeded t o.over xs ≡ false
      succeeded = (or_parts (has_succeeded t o.over xs) (spent t o.over m xs) (standing-open o m xs r h t e)).0

      unspent : ((failed t o.over xs == tries t) ≡ false) × (has_come (end t xs) m ≡ false)
      unspent = or_parts (failed t o.over xs == tries t) (has_come (end t xs) m) (or_parts (has_succeeded t o.over xs)
          (spent t o.over m xs) (standing-open o m xs r h t e)).1

      has_run : runs t.slot xs ≡ failed t o.over xs + one_if (not (is_idle (last_of t.slot xs)))
      has_run = counted t o.over m early xs h.past h.turns unspent.1 succeeded

      less : failed t o.over xs < tries t
      less =
          let most : s.failed ≤ s.tries = k.trying.few in
          let failures : s.failed ≡ failed t o.over xs = k.is.failed_are in
          let allowed : s.tries ≡ tries t = k.is.tries_is in
          let other : failed t o.over xs ≡ tries t → ⊥ = false-eqb (failed t o.over xs) (tries t) (sym unspent.0) in
          omega (arith, most, failures, allowed, other)

      left : is_idle (last_of t.slot xs) ≡ true → runs t.slot xs < tries t
      left i =
          let none : one_if (not (is_idle (last_of t.slot xs))) ≡ 0 = ap (λ b. one_if (not b)) i in
          let all : runs t.slot xs ≡ failed t o.over xs + one_if (not (is_idle (last_of t.slot xs))) = has_run in
          let fewer : failed t o.over xs < tries t = less in
          omega (arith, none, all, fewer)

      few : (b : Bool) → is_idle (last_of t.slot xs) ≡ b → runs t.slot xs ≤ tries t
      few true i = let fewer : runs t.slot xs < tries t = left i in omega (arith, fewer)
      few false i =
          let one : one_if (not (is_idle (last_of t.slot xs))) ≡ 1 = ap (λ b. one_if (not b)) i in
          let all : runs t.slot xs ≡ failed t o.over xs + one_if (not (is_idle (last_of t.slot xs))) = has_run in
          let fewer : failed t o.over xs < tries t = less in
          omega (arith, one, all, fewer)

  pub standing-tries : (r : KeptOperation) → IsOperation m xs r o → (t : Task) → Standing.standing o m xs ≡ Some t →
      HasTries xs t
  standing-tries r h t e = go (standing_slot m r) (subst (BothOr (IsShortSlot o xs) (standing_slot m r)) e
      (standing_slot_is o m xs r h))
    where
      go : (x : Option SlotRecord) → BothOr (IsShortSlot o xs) x (Some t) → HasTries xs t
      go None b = absurd b
      go (Some s) b = by-record r h t e s b
