-- What a slot's record says is what the acts say.
use Rattle.std.proofs.Common.{
  ℕ,
  List,
  [],
  ◌∷◌,
  Bool,
  true,
  false,
  ◌≡◌,
  ◌<◌,
  ◌+◌,
  ◌^◌,
  refl,
  ap,
  ap₂,
  Some,
  None,
  cond,
  ◌||◌,
  min,
  arith,
}
use Rattle.std.specs.Prelude.{option_map, unwrap_or}
use Rattle.fnc_journal.specs.declared.entry.Slot.{Slot}
use Rattle.fnc_journal.specs.Same.{same_slot}
use Rattle.fnc_journal.specs.Slots.{Task, Operation}
use Rattle.fnc_journal.specs.Device.{delay}
use Rattle.fnc_journal.specs.Acts as Acts
use Rattle.fnc_journal.specs.Standing.{since, ready_after}
use Rattle.fnc_journal.specs.Acts.{
  Act,
  Last,
  last_run,
  has_succeeded,
  has_listed,
  confirmed,
  answered,
  spent,
  concluded,
  is_query,
  runs,
}
use Rattle.fnc_records.specs.declared.slot.LastRun.{LastRun}
use Rattle.fnc_records.specs.declared.slot.SlotRecord.{SlotRecord}
use Rattle.fnc_records.specs.SlotRecords.{is_spent, is_concluded, concluded_at, limit, attempt, ready, ready_by}
use Rattle.fnc_records.specs.SlotFacts.{IsSlot, last_of}
use Rattle.fnc_records.specs.OperationFacts.{last_begun, ready_or_begun}
use Rattle.fnc_records.proofs.SlotSteps.{capped_64}

module _ (o : Operation) (m : ℕ) (xs : List Act) (r : SlotRecord) (t : Task) (s : IsSlot o xs r t) where
  pub spent_is : is_spent m r ≡ spent t o.over m xs
  spent_is = rw (s.tries_is, s.failed_are, s.end_is) refl

  pub concluded_is : is_concluded m r ≡ concluded t o.over m xs
  concluded_is = ap₂ ◌||◌ s.succeeded spent_is

  pub confirmed_is : is_query t ≡ false → r.succeeded ≡ confirmed t o.over xs
  confirmed_is q = rw (s.succeeded, q) refl

  pub answered_is : is_query t ≡ true → r.succeeded ≡ answered t o.over xs
  answered_is q = rw (s.succeeded, q) refl

  pub concluded_at_is : concluded_at o.begin r ≡ Acts.concluded_at t o.begin o.over xs
  concluded_at_is = rw (s.succeeded_at, s.failed_at, s.end_is) refl

  pub limit_is : limit o.over r ≡ Acts.limit t o.over xs
  limit_is = ap (option_map (min o.over)) s.end_is

-- the last run that is kept is the last run by its number
abbrev pub Agrees : ℕ → LastRun → Last → Type 0
Agrees begun LastRun.NoRun Last.NoRun = Unit {0}
Agrees begun (LastRun.Alive at) (Last.Alive run) = at ≡ begun
Agrees begun (LastRun.EndedAt at) (Last.EndedAt m) = at ≡ m
Agrees begun _ _ = ⊥

pub last-agrees : (s : Slot) (xs : List Act) → Agrees (last_begun s xs) (last_of s xs) (last_run s xs)
last-agrees s [] = tt
last-agrees s (Act.Begun m run slot ∷ xs) = go (same_slot s slot) (last-agrees s xs)
  where
    go : (b : Bool) → Agrees (last_begun s xs) (last_of s xs) (last_run s xs) →
        Agrees (unwrap_or (cond b (Some m) None) (last_begun s xs)) (unwrap_or (cond b (Some (LastRun.Alive m)) None)
        (last_of s xs)) (unwrap_or (cond b (Some (Last.Alive run)) None) (last_run s xs))
    go true e = refl
    go false e = e
last-agrees s (Act.Ended m slot exit listed ∷ xs) = go (same_slot s slot) (last-agrees s xs)
  where
    go : (b : Bool) → Agrees (last_begun s xs) (last_of s xs) (last_run s xs) →
        Agrees (last_begun s xs) (unwrap_or (cond b (Some (LastRun.EndedAt m)) None) (last_of s xs))
        (unwrap_or (cond b (Some (Last.EndedAt m)) None) (last_run s xs))
    go true e = refl
    go false e = e

ready_by_last : (o : Operation) (m : ℕ) (xs : List Act) (t : Task) (begun : ℕ) (l : LastRun) (k : Last) →
    Agrees begun l k → since o m xs + delay t.definition t.kind o.target o.coin < 2 ^ 64 →
    ready_by (since o m xs) (delay t.definition t.kind o.target o.coin) l ≡ unwrap_or (ready_after o m xs t k) begun
ready_by_last o m xs t begun LastRun.NoRun Last.NoRun a short =
    capped_64 (since o m xs + delay t.definition t.kind o.target o.coin) short
ready_by_last o m xs t begun (LastRun.Alive at) (Last.Alive run) a short = a
ready_by_last o m xs t begun (LastRun.EndedAt at) (Last.EndedAt n) a short = a
ready_by_last o m xs t begun LastRun.NoRun (Last.Alive run) a short = absurd a
ready_by_last o m xs t begun LastRun.NoRun (Last.EndedAt n) a short = absurd a
ready_by_last o m xs t begun (LastRun.Alive at) Last.NoRun a short = absurd a
ready_by_last o m xs t begun (LastRun.Alive at) (Last.EndedAt n) a short = absurd a
ready_by_last o m xs t begun (LastRun.EndedAt at) Last.NoRun a short = absurd a
ready_by_last o m xs t begun (LastRun.EndedAt at) (Last.Alive run) a short = absurd a

-- when the next try is ready, or when the run that is alive was started
pub ready_is : (o : Operation) (m : ℕ) (xs : List Act) (r : SlotRecord) (t : Task) → IsSlot o xs r t →
    since o m xs + delay t.definition t.kind o.target o.coin < 2 ^ 64 →
    ready (since o m xs) r ≡ ready_or_begun o m xs t
ready_is o m xs r t h short = rw (h.delay_is, h.last_is) (ready_by_last o m xs t (last_begun t.slot xs)
    (last_of t.slot xs) (last_run t.slot xs) (last-agrees t.slot xs) short)

-- which of its tries the next one is
pub attempt_is : (o : Operation) (xs : List Act) (r : SlotRecord) (t : Task) → IsSlot o xs r t → runs t.slot xs < 255 →
    attempt r ≡ runs t.slot xs + 1
attempt_is o xs r t h few = rw h.runs_are (omega arith)
