-- What the record of an operation says.
use Rattle.std.specs.Prelude.{
  ℕ,
  List,
  [],
  ◌∷◌,
  ◌++◌,
  ◌-◌,
  Bool,
  ◌&&◌,
  not,
  nat_le,
  if◌then◌else◌,
  find,
  Option,
  Some,
  None,
  option_map,
  option_and_then,
  true,
  map,
  bytes_eq,
  ◌==◌,
  unwrap_or,
  false,
  length,
  ◌+◌,
  ◌*◌,
  ◌||◌,
  is_none,
}
use Rattle.std.specs.List.{list_any, list_all}
use Rattle.std.specs.Option.{option_or}
use Rattle.fnc_journal.specs.declared.entry.Answer.{Answer}
use Rattle.fnc_journal.specs.declared.entry.Exit.{Exit}
use Rattle.fnc_journal.specs.declared.entry.Req.{Req}
use Rattle.fnc_journal.specs.declared.entry.Slot.{Slot}
use Rattle.fnc_journal.specs.Device.{cuts_power}
use Rattle.fnc_records.specs.declared.operation.Standing.{Standing}
use Rattle.fnc_records.specs.declared.slot.LastRun.{LastRun}
use Rattle.fnc_records.specs.declared.slot.SlotRecord.{SlotRecord}
use Rattle.fnc_records.specs.KeptLevel.{KeptLevel}
use Rattle.fnc_records.specs.KeptOperation.{KeptOperation}
use Rattle.fnc_records.specs.SlotRecords.{attempt, ready, limit, come_by}
use Rattle.fnc_records.specs.LevelRecords.{
  is_queried,
  open_query,
  is_lost,
  is_done,
  standing_in,
  latest_query,
  latest_tried,
  ranked_if_capable,
  next_rank,
  level_started,
  level_ended,
}
use Rattle.fnc_journal.specs.Missing.{first_of, has_any}
use Rattle.fnc_journal.specs.declared.entry.Kind.{Kind}
use Rattle.fnc_journal.specs.Same.{same_kind}
use Rattle.fnc_journal.specs.Operations.{is_on_phase}

-- the first query that is not concluded
abbrev pub first_query : ℕ → List KeptLevel → Option SlotRecord
first_query m [] = None
first_query m (l ∷ ls) = option_or (open_query m l) (first_query m ls)

-- a level that is tried and not lost
abbrev pub is_kept : ℕ → KeptLevel → Bool
is_kept m l = l.tried && not (is_lost m l)

-- the slot at which the operation stands
abbrev pub standing_slot : ℕ → KeptOperation → Option SlotRecord
standing_slot m o = option_or (first_query m o.levels) (option_and_then (standing_in m) (find (is_kept m) o.levels))

-- the greatest of a moment and those at which the concluded queries were concluded
abbrev pub latest_queries : ℕ → ℕ → ℕ → List KeptLevel → ℕ
latest_queries begin m at [] = at
latest_queries begin m at (l ∷ ls) = latest_queries begin m (latest_query begin m at l) ls

-- the greatest of a moment and those at which the concluded slots of the levels that are tried were concluded
abbrev pub latest_levels : ℕ → ℕ → ℕ → List KeptLevel → ℕ
latest_levels begin m at [] = at
latest_levels begin m at (l ∷ ls) = latest_levels begin m (latest_tried begin m at l) ls

-- since when it stands where it stands
abbrev pub since : ℕ → KeptOperation → ℕ
since m o = latest_levels o.begin m (latest_queries o.begin m o.begin o.levels) o.levels

-- what is told of the slot at which it stands
abbrev pub standing_at : ℕ → ℕ → SlotRecord → Standing
standing_at since over s = record {
  slot = s.slot;
  reg = s.reg;
  kind = s.kind;
  attempt = attempt s;
  ready = ready since s;
  limit = limit over s;
}

-- where the operation stands
abbrev pub standing : ℕ → KeptOperation → Option Standing
standing m o = option_map (standing_at (since m o) o.over) (standing_slot m o)

-- whether no run is alive
abbrev pub is_idle : LastRun → Bool
is_idle (LastRun.Alive at) = false
is_idle _ = true

-- what is told of a slot of which no run is alive
abbrev pub waiting_at : ℕ → ℕ → SlotRecord → Option Standing
waiting_at since over s = if is_idle s.last then Some (standing_at since over s) else None

-- the try that the operation waits for: of the slot at which it stands, where no run of that is alive
abbrev pub waiting : KeptOperation → Option Standing
waiting o = option_and_then (waiting_at (since o.moment o) o.over) (standing_slot o.moment o)

-- the end of the standing slot's action, where that has come
abbrev pub expired_at : ℕ → KeptOperation → Option ℕ
expired_at m o = option_and_then (λ s. come_by m s.end) (standing_slot o.moment o)

-- whether it stands in its on phase, at the moment at which the record speaks
abbrev pub stands_on : KeptOperation → Bool
stands_on o = unwrap_or (option_map (λ s. is_on_phase s.slot.phase) (standing_slot o.moment o)) false

-- whether a request for a target and an action joins it
abbrev pub is_joinable : Kind → List ℕ → KeptOperation → Bool
is_joinable kind target o = same_kind kind o.kind && bytes_eq target o.target && not (stands_on o)

-- the number of the level that passes
abbrev pub passed : ℕ → ℕ → List KeptLevel → Option ℕ
passed over m [] = None
passed over m (l ∷ ls) =
    if l.tried
    then (if not l.unfit && is_done over m l then Some l.index else (if is_lost m l then passed over m ls else None))
    else passed over m ls

-- no device is capable, every level is lost, or the time is over
abbrev pub failure_due : ℕ → KeptOperation → Option Answer
failure_due m o =
    if list_all (is_queried m) o.levels && list_all (λ l. not (is_kept m l)) o.levels
    then (if list_any (λ l. l.tried) o.levels then Some Answer.Levels else Some Answer.NoDevice)
    else (if nat_le o.over m then Some Answer.Time else None)

-- the answer that is due
abbrev pub due : ℕ → KeptOperation → Option Answer
due m o =
    if o.confirmed && cuts_power o.kind then Some Answer.Confirmed
    else option_or (option_map (λ l. Answer.Passed l) (passed o.over m o.levels)) (failure_due m o)

-- the capable ones as the levels of these numbers
abbrev pub ranked_levels : ℕ → List KeptLevel → List KeptLevel
ranked_levels index [] = []
ranked_levels index (l ∷ ls) = ranked_if_capable index l ∷ ranked_levels (next_rank index l) ls

-- once all queries are concluded it is known which levels are tried
abbrev pub ranked_if_queried : ℕ → KeptOperation → KeptOperation
ranked_if_queried m o =
    if not o.ranked && list_all (is_queried m) o.levels
    then record o { ranked = true; levels = ranked_levels 1 o.levels }
    else o

-- the record at a later moment
abbrev pub at_moment : ℕ → KeptOperation → KeptOperation
at_moment m o = ranked_if_queried m (record o { moment = m })

-- the record at a later moment, where it is that of the operation of a number, or where its standing slot does not come
-- to its action's end by then
abbrev pub at_moment_unless_ending : ℕ → ℕ → KeptOperation → KeptOperation
at_moment_unless_ending req m o = if (o.req == req) || is_none (expired_at m o) then at_moment m o else o

-- the record after a start of one of the operation's runs
abbrev pub operation_started : Slot → ℕ → KeptOperation → KeptOperation
operation_started s m o = record o { levels = map (level_started s m) o.levels; untried = o.untried - 1 }

-- after a start of the slot at which it stands
abbrev pub started_at : ℕ → Option SlotRecord → KeptOperation → KeptOperation
started_at m None o = o
started_at m (Some s) o = operation_started s.slot m o

abbrev pub start_standing : ℕ → KeptOperation → KeptOperation
start_standing m o = started_at m (standing_slot m o) o

-- one operation's record changed, and the others as they were
abbrev pub only : ℕ → (KeptOperation → KeptOperation) → KeptOperation → KeptOperation
only req f o = if o.req == req then f o else o

-- the record after an exit of one of the operation's runs
abbrev pub operation_ended : Slot → Exit → Bool → ℕ → KeptOperation → KeptOperation
operation_ended s exit listed m o =
    ranked_if_queried m (record o { levels = map (level_ended s exit listed o.over m) o.levels })

-- the record after an operator's word that a target is down
abbrev pub operation_confirmed : List ℕ → KeptOperation → KeptOperation
operation_confirmed target o = if bytes_eq target o.target then record o { confirmed = true } else o

-- the record with one more request that waits
abbrev pub with_member : Req → KeptOperation → KeptOperation
with_member req o = record o { members = o.members ++ req ∷ [] }

-- the requests without the first
abbrev pub rest_of : List Req → List Req
rest_of [] = []
rest_of (r ∷ rs) = rs

-- after a reply to the least request that waits
abbrev pub replied : KeptOperation → KeptOperation
replied o = record o { members = rest_of o.members }

-- the least request that waits
abbrev pub first_member : KeptOperation → Option Req
first_member o = first_of o.members

-- whether one waits
abbrev pub is_waiting : KeptOperation → Bool
is_waiting o = has_any o.members

-- what an operation owes: a reply to each request that waits, a start and an exit for each try that was not started
abbrev pub owed_by : KeptOperation → ℕ
owed_by o = length o.members + 2 * o.untried
