-- When the record of an operation is what the starts and exits of its runs say, and what it is then asked for.
use Rattle.std.specs.Prelude.{
  ℕ,
  List,
  [],
  ◌∷◌,
  true,
  false,
  ◌≡◌,
  ◌≤◌,
  ◌+◌,
  ◌-◌,
  ◌||◌,
  length,
  filter,
  filter_map,
  Option,
  Some,
  None,
  unwrap_or,
}
use Rattle.std.specs.List.{AllZip, AllByRecursion}
use Rattle.fnc_journal.specs.declared.limits.TheConstants.{MOST_DEVICES}
use Rattle.fnc_journal.specs.declared.entry.Slot.{Slot}
use Rattle.fnc_journal.specs.Slots.{Task, Operation, QueriedDevice, queries, slots_of, act_task}
use Rattle.fnc_journal.specs.Acts.{Act, begun_at_here, moment_of, runs, limit, is_query_phase}
use Rattle.fnc_journal.specs.Standing.{ranks, ready, queries_concluded}
use Rattle.fnc_records.specs.declared.operation.Standing.{Standing}
use Rattle.fnc_records.specs.declared.slot.SlotRecord.{SlotRecord}
use Rattle.fnc_records.specs.KeptLevel.{KeptLevel}
use Rattle.fnc_records.specs.KeptOperation.{KeptOperation}
use Rattle.fnc_records.specs.SlotRecords.{at_level, capped}
use Rattle.fnc_records.specs.OperationRecords.{is_idle}
use Rattle.fnc_records.specs.LevelFacts.{IsLevelSlot, IsQuerySlot, IsQuery, IsLevel}
use Rattle.fnc_records.specs.SlotFacts.{BothOr, last_of}
use Rattle.fnc_stands.specs.Distinct.{AreDistinct}

-- the records of the queries
abbrev pub kept_queries : List KeptLevel → List SlotRecord
kept_queries ls = filter_map (λ l. l.query) ls

-- the records of the levels that are tried
abbrev pub tried_levels : List KeptLevel → List KeptLevel
tried_levels ls = filter (λ l. l.tried) ls

-- the slot of which an act speaks
abbrev pub slot_in : Act → Slot
slot_in (Act.Begun moment run slot) = slot
slot_in (Act.Ended moment slot exit listed) = slot

-- only queries were run so far
abbrev pub AreQueries : List Act → Type 0
AreQueries xs = AllByRecursion (λ a. is_query_phase (slot_in a).phase ≡ true) xs

-- the record of a candidate of which it is not known yet whether it is tried: its query, and its Act slot whatever its
-- level will be
pub record IsCandidate (o : Operation) (xs : List Act) (r : KeptLevel) (c : QueriedDevice) : Type 0 where
  pub act : SlotRecord
  pub query : IsQuery o xs r.query c.query
  pub untried : r.tried ≡ false
  pub fit : r.unfit ≡ false
  pub firsts : r.firsts ≡ act ∷ []
  pub is : (k : ℕ) → IsLevelSlot o xs (at_level k act) (act_task false o.kind k 0 c.device)
  pub ons : r.ons ≡ []

-- the levels of an operation of which it is not known yet which are tried
pub record IsUnranked (o : Operation) (xs : List Act) (ls : List KeptLevel) : Type 0 where
  pub unlevelled : o.levelled ≡ false
  pub few : length o.candidates ≤ MOST_DEVICES
  pub queried : AreQueries xs
  pub candidates : AllZip (IsCandidate o xs) ls o.candidates

-- no act came after a moment
abbrev pub ArePast : ℕ → List Act → Type 0
ArePast m xs = AllByRecursion (λ a. moment_of a ≤ m) xs

-- each start is of a slot of which no run is alive, and each exit of one of which a run is
abbrev pub AreInTurn : List Act → Type 0
AreInTurn [] = Unit {0}
AreInTurn (Act.Begun moment run slot ∷ earlier) = (is_idle (last_of slot earlier) ≡ true) × AreInTurn earlier
AreInTurn (Act.Ended moment slot exit listed ∷ earlier) = (is_idle (last_of slot earlier) ≡ false) × AreInTurn earlier

-- the record is that of the operation at a moment, after these acts of it
pub record IsOperation (m : ℕ) (xs : List Act) (r : KeptOperation) (o : Operation) : Type 0 where
  pub req : r.req ≡ o.req
  pub kind : r.kind ≡ o.kind
  pub target : r.target ≡ o.target
  pub begin : r.begin ≡ o.begin
  pub over : r.over ≡ o.over
  pub past : ArePast m xs
  pub turns : AreInTurn xs
  pub distinct : AreDistinct (queries o)
  pub levels_distinct : AreDistinct (slots_of o.levels)
  pub queries_are : AllZip (IsQuerySlot o xs) (kept_queries r.levels) (queries o)
  pub ranks_are : AllZip (IsLevel o xs) (tried_levels r.levels) (ranks o m xs)
  pub ranked_is : r.ranked ≡ (o.levelled || queries_concluded o m xs)
  pub unranked : r.ranked ≡ false → IsUnranked o xs r.levels

-- the allowed tries of a slot that its record has not seen started
abbrev pub left_of : SlotRecord → ℕ
left_of r = capped 32 r.tries - r.runs

-- those of some slots
abbrev pub left_in : List SlotRecord → ℕ
left_in [] = 0
left_in (r ∷ rs) = left_of r + left_in rs

-- those of a query that may not be there
abbrev pub left_query : Option SlotRecord → ℕ
left_query None = 0
left_query (Some q) = left_of q

-- those of a level's slots
abbrev pub left_level : KeptLevel → ℕ
left_level l = left_query l.query + left_in l.firsts + left_in l.ons

-- those of all levels
abbrev pub left_levels : List KeptLevel → ℕ
left_levels [] = 0
left_levels (l ∷ ls) = left_level l + left_levels ls

-- when the last run of a slot was started
abbrev pub last_begun : Slot → List Act → ℕ
last_begun s [] = 0
last_begun s (a ∷ earlier) = unwrap_or (begun_at_here s a) (last_begun s earlier)

-- when the next try of a slot is ready, or while a run is alive when that was started
abbrev pub ready_or_begun : Operation → ℕ → List Act → Task → ℕ
ready_or_begun o m xs t = unwrap_or (ready o m xs t) (last_begun t.slot xs)

-- what is said of the slot at which an operation stands: which of its tries is next, and when that is ready or the run
-- that is alive was started
pub record IsStandingAt (o : Operation) (m : ℕ) (xs : List Act) (s : Standing) (t : Task) : Type 0 where
  pub slot : s.slot ≡ t.slot
  pub reg : s.reg.0 ≡ t.reg
  pub kind : s.kind ≡ t.kind
  pub attempt : s.attempt ≡ runs t.slot xs + 1
  pub ready : s.ready ≡ ready_or_begun o m xs t
  pub limit : s.limit ≡ limit t o.over xs

-- what is said of where an operation stands, if it stands anywhere
abbrev pub IsStanding : Operation → ℕ → List Act → Option Standing → Option Task → Type 0
IsStanding o m xs s t = BothOr (IsStandingAt o m xs) s t
