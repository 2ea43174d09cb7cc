-- When the record of a slot is what the starts and exits of its operation's runs say.
use Rattle.std.specs.Prelude.{List, [], ◌∷◌, ◌≡◌, if◌then◌else◌, Option, Some, None, unwrap_or}
use Rattle.fnc_journal.specs.declared.entry.Slot.{Slot}
use Rattle.fnc_journal.specs.Device.{delay}
use Rattle.fnc_journal.specs.Same.{same_slot}
use Rattle.fnc_journal.specs.Slots.{Task, Operation, time, tries}
use Rattle.fnc_journal.specs.Acts.{Act, runs, failed, has_succeeded, has_listed, end, success_at, last_failure_at}
use Rattle.fnc_records.specs.declared.slot.LastRun.{LastRun}
use Rattle.fnc_records.specs.declared.slot.SlotRecord.{SlotRecord}

-- two values that are both missing, or both there and related
abbrev pub BothOr : {A B : Type 0} → (A → B → Type 0) → Option A → Option B → Type 0
BothOr R None None = Unit {0}
BothOr R None (Some y) = ⊥
BothOr R (Some x) None = ⊥
BothOr R (Some x) (Some y) = R x y

-- what an act says of the last run of its slot: since when it is alive, or when it ended
abbrev pub last_here : Slot → Act → Option LastRun
last_here s (Act.Begun moment run slot) = if same_slot s slot then Some (LastRun.Alive moment) else None
last_here s (Act.Ended moment slot exit listed) = if same_slot s slot then Some (LastRun.EndedAt moment) else None

-- the last run of a slot
abbrev pub last_of : Slot → List Act → LastRun
last_of s [] = LastRun.NoRun
last_of s (a ∷ earlier) = unwrap_or (last_here s a) (last_of s earlier)

-- the record is that of the slot, after these acts of the operation
pub record IsSlot (o : Operation) (xs : List Act) (r : SlotRecord) (t : Task) : Type 0 where
  pub slot : r.slot ≡ t.slot
  pub reg : r.reg.0 ≡ t.reg
  pub kind : r.kind ≡ t.kind
  pub time_is : r.time ≡ time t
  pub tries_is : r.tries ≡ tries t
  pub delay_is : r.delay ≡ delay t.definition t.kind o.target o.coin
  pub runs_are : r.runs ≡ runs t.slot xs
  pub failed_are : r.failed ≡ failed t o.over xs
  pub succeeded : r.succeeded ≡ has_succeeded t o.over xs
  pub listed : r.listed ≡ has_listed t o.over xs
  pub end_is : r.end ≡ end t xs
  pub last_is : r.last ≡ last_of t.slot xs
  pub succeeded_at : r.succeeded_at ≡ success_at t o.over xs
  pub failed_at : r.failed_at ≡ last_failure_at t o.over xs
