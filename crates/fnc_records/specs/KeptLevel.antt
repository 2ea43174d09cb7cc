-- A level's record as contracts see it.
use Rattle.std.specs.Prelude.{ℕ, List, Bool, Option}
use Rattle.fnc_records.specs.declared.slot.SlotRecord.{SlotRecord}

-- the query of a candidate, whether and as which level it is tried, whether a device is unfit, and its slots
pub record KeptLevel : Type 0 where
  pub query : Option SlotRecord
  pub tried : Bool
  pub index : ℕ
  pub unfit : Bool
  pub firsts : List SlotRecord
  pub ons : List SlotRecord
