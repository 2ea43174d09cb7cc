-- When the record of a level is what the starts and exits of its operation's runs say.
use Rattle.std.specs.Prelude.{List, true, false, ◌≡◌, ◌<◌, ◌≤◌, ◌+◌, ◌^◌, length, Option, Some, None, ℕ, ◌==◌}
use Rattle.std.specs.List.{AllZip}
use Rattle.fnc_journal.specs.declared.limits.TheConstants.{MOST_TRIES}
use Rattle.fnc_journal.specs.Device.{delay}
use Rattle.fnc_journal.specs.Slots.{Task, Operation, Rank, time, tries}
use Rattle.fnc_journal.specs.Acts.{Act, is_query}
use Rattle.fnc_records.specs.declared.slot.SlotRecord.{SlotRecord}
use Rattle.fnc_records.specs.KeptLevel.{KeptLevel}
use Rattle.fnc_records.specs.SlotFacts.{IsSlot}
use Rattle.fnc_records.specs.declared.slot.LastRun.{LastRun}

-- the slot has some time, its time and delay are such that no moment gets too great for its record, and few tries are
-- allowed
pub record IsShort (o : Operation) (t : Task) : Type 0 where
  pub begins : 0 < time t
  pub lasts : time t < 2 ^ 62
  pub waits : delay t.definition t.kind o.target o.coin < 2 ^ 62
  pub few : tries t ≤ MOST_TRIES

-- no more tries have failed than are allowed; while a run is alive the slot has not succeeded, and not all of them have
-- failed
pub record IsTrying (r : SlotRecord) : Type 0 where
  pub few : r.failed ≤ r.tries
  pub running : (at : ℕ) → r.last ≡ LastRun.Alive at → (r.succeeded ≡ false) × ((r.failed == r.tries) ≡ false)

-- the record of an Act, Off or On slot
pub record IsLevelSlot (o : Operation) (xs : List Act) (r : SlotRecord) (t : Task) : Type 0 where
  pub is : IsSlot o xs r t
  pub acting : is_query t ≡ false
  pub short : IsShort o t
  pub trying : IsTrying r

-- the record of a query slot
pub record IsQuerySlot (o : Operation) (xs : List Act) (r : SlotRecord) (t : Task) : Type 0 where
  pub is : IsSlot o xs r t
  pub asking : is_query t ≡ true
  pub short : IsShort o t
  pub trying : IsTrying r

-- the record of a level that is tried
pub record IsLevel (o : Operation) (xs : List Act) (r : KeptLevel) (l : Rank) : Type 0 where
  pub index : r.index ≡ l.index
  pub unfit : r.unfit ≡ l.unfit
  pub firsts : AllZip (IsLevelSlot o xs) r.firsts l.firsts
  pub ons : AllZip (IsLevelSlot o xs) r.ons l.ons

-- the record of a query that may not be there
abbrev pub IsQuery : Operation → List Act → Option SlotRecord → Option Task → Type 0
IsQuery o xs None None = Unit {0}
IsQuery o xs None (Some t) = ⊥
IsQuery o xs (Some r) None = ⊥
IsQuery o xs (Some r) (Some t) = IsQuerySlot o xs r t

-- one more act can be counted
abbrev pub AreFew : List Act → Type 0
AreFew xs = length xs + 1 < 2 ^ 32
