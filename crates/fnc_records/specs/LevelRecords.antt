-- What the record of a level says, and what it becomes by the starts and exits of its operation's runs.
use Rattle.std.specs.Prelude.{
  ℕ,
  List,
  [],
  ◌∷◌,
  Bool,
  true,
  ◌+◌,
  ◌||◌,
  ◌&&◌,
  not,
  nat_le,
  if◌then◌else◌,
  map,
  find,
  Option,
  Some,
  None,
  option_map,
}
use Rattle.std.specs.List.{list_any, list_all}
use Rattle.std.specs.Option.{option_or}
use Rattle.fnc_journal.specs.declared.entry.Exit.{Exit}
use Rattle.fnc_journal.specs.declared.entry.Slot.{Slot}
use Rattle.fnc_journal.specs.Standing.{capable_by}
use Rattle.fnc_records.specs.declared.slot.SlotRecord.{SlotRecord}
use Rattle.fnc_records.specs.KeptLevel.{KeptLevel}
use Rattle.fnc_records.specs.SlotRecords.{capped, is_spent, is_concluded, later, at_level, started, ended}

-- whether a query that may not be there is concluded
abbrev pub query_concluded : ℕ → Option SlotRecord → Bool
query_concluded m None = true
query_concluded m (Some q) = is_concluded m q

-- whether the level's query is
abbrev pub is_queried : ℕ → KeptLevel → Bool
is_queried m l = query_concluded m l.query

-- the query, where it is not concluded
abbrev pub open_of : ℕ → Option SlotRecord → Option SlotRecord
open_of m None = None
open_of m (Some q) = if is_concluded m q then None else Some q

-- the level's query, where it is not concluded
abbrev pub open_query : ℕ → KeptLevel → Option SlotRecord
open_query m l = open_of m l.query

-- whether the candidate of a query is capable
abbrev pub capable_query : Option SlotRecord → Bool
capable_query None = true
capable_query (Some q) = capable_by q.kind q.listed q.succeeded

-- whether the level's device is
abbrev pub is_capable : KeptLevel → Bool
is_capable l = capable_query l.query

-- a level is lost by an Act or Off slot that is spent and not confirmed
abbrev pub is_lost_by : ℕ → SlotRecord → Bool
is_lost_by m s = is_spent m s && not s.succeeded

-- whether a level is lost
abbrev pub is_lost : ℕ → KeptLevel → Bool
is_lost m l = l.unfit || list_any (is_lost_by m) l.firsts

-- whether a level is done
abbrev pub is_done : ℕ → ℕ → KeptLevel → Bool
is_done over m l = list_all (λ s. s.succeeded) l.firsts && (list_all (is_concluded m) l.ons || nat_le over m)

-- where an operation stands in it
abbrev pub standing_in : ℕ → KeptLevel → Option SlotRecord
standing_in m l = option_or (find (λ s. not s.succeeded) l.firsts) (find (λ s. not (is_concluded m s)) l.ons)

-- the greatest of a moment and those at which concluded slots were concluded
abbrev pub latest : ℕ → ℕ → ℕ → List SlotRecord → ℕ
latest begin m at [] = at
latest begin m at (r ∷ rs) = latest begin m (later begin m at r) rs

-- the greatest of a moment and those at which a level's concluded slots were concluded
abbrev pub latest_in : ℕ → ℕ → ℕ → KeptLevel → ℕ
latest_in begin m at l = latest begin m (latest begin m at l.firsts) l.ons

-- the greatest of a moment and, of a level that is tried, those at which its concluded slots were concluded
abbrev pub latest_tried : ℕ → ℕ → ℕ → KeptLevel → ℕ
latest_tried begin m at l = if l.tried then latest_in begin m at l else at

-- the greatest of a moment and that at which a query that may not be there was concluded
abbrev pub later_query : ℕ → ℕ → ℕ → Option SlotRecord → ℕ
later_query begin m at None = at
later_query begin m at (Some q) = later begin m at q

-- the greatest of a moment and that at which a level's query was concluded
abbrev pub latest_query : ℕ → ℕ → ℕ → KeptLevel → ℕ
latest_query begin m at l = later_query begin m at l.query

-- as the level of this number, which is tried
abbrev pub ranked : ℕ → KeptLevel → KeptLevel
ranked index l = record l { tried = true; index = index; firsts = map (at_level index) l.firsts }

-- as the level of this number, where its device is capable
abbrev pub ranked_if_capable : ℕ → KeptLevel → KeptLevel
ranked_if_capable index l = if is_capable l then ranked index l else l

-- the number of the next level
abbrev pub next_rank : ℕ → KeptLevel → ℕ
next_rank index l = if is_capable l then capped 8 (index + 1) else index

-- a level after a start of one of the operation's runs
abbrev pub level_started : Slot → ℕ → KeptLevel → KeptLevel
level_started s m l = record l {
  query = option_map (started s m) l.query;
  firsts = map (started s m) l.firsts;
  ons = map (started s m) l.ons;
}

-- a level after an exit of one of the operation's runs
abbrev pub level_ended : Slot → Exit → Bool → ℕ → ℕ → KeptLevel → KeptLevel
level_ended s exit listed over m l = record l {
  query = option_map (ended s exit listed over m) l.query;
  firsts = map (ended s exit listed over m) l.firsts;
  ons = map (ended s exit listed over m) l.ons;
}
