-- What the record of an operation says when that begins: nothing was started yet.
use Rattle.std.specs.Prelude.{ℕ, List, [], ◌∷◌, Bool, true, false, ◌+◌, nat_le, if◌then◌else◌, map, length, None, Option, option_map, option_and_then}
use Rattle.std.specs.List.{cons_option}
use Rattle.fnc_journal.specs.declared.entry.Kind.{Kind}
use Rattle.fnc_journal.specs.declared.entry.Scope.{Scope}
use Rattle.fnc_journal.specs.declared.plan.Plan.{Plan}
use Rattle.fnc_journal.specs.History.{History}
use Rattle.fnc_journal.specs.Found.{Asked}
use Rattle.fnc_journal.specs.Plan.{Wanted}
use Rattle.fnc_journal.specs.Device.{Device, delay}
use Rattle.fnc_journal.specs.Slots.{Task, Rank, QueriedDevice, Operation, time, tries, act_task, on_task, operation_by}
use Rattle.fnc_ops.specs.declared.ops.Operation.{Operation as Request}
use Rattle.fnc_records.specs.declared.slot.LastRun.{LastRun}
use Rattle.fnc_records.specs.declared.slot.SlotRecord.{SlotRecord}
use Rattle.fnc_records.specs.KeptLevel.{KeptLevel}
use Rattle.fnc_records.specs.KeptOperation.{KeptOperation}
use Rattle.fnc_records.specs.OperationRecords.{ranked_if_queried}

-- the record of a slot, for a target and with a coin
abbrev pub fresh_slot : List ℕ → ℕ → Task → SlotRecord
fresh_slot target coin t = record {
  slot = t.slot;
  reg = record { 0 = t.reg };
  kind = t.kind;
  time = time t;
  tries = tries t;
  delay = delay t.definition t.kind target coin;
  runs = 0;
  failed = 0;
  succeeded = false;
  listed = false;
  end = None;
  last = LastRun.NoRun;
  succeeded_at = None;
  failed_at = None;
}

-- the Act or Off slots of the devices that are there, each at its place
abbrev pub firsts_at : Bool → Kind → ℕ → ℕ → List (Option Device) → List Task
firsts_at split kind level place [] = []
firsts_at split kind level place (d ∷ ds) =
    cons_option (option_map (act_task split kind level place) d) (firsts_at split kind level (place + 1) ds)

-- the On slots of those that have on
abbrev pub ons_at : ℕ → ℕ → List (Option Device) → List Task
ons_at level place [] = []
ons_at level place (d ∷ ds) = cons_option (option_and_then (on_task level place) d) (ons_at level (place + 1) ds)

-- whether an action on so many devices is split
abbrev pub splits : Kind → ℕ → Bool
splits Kind.Reboot n = nat_le 2 n
splits _ n = false

-- the record of a level with an unfit device, which has no slots
abbrev pub unfit_level : ℕ → KeptLevel
unfit_level index = record { query = None; tried = true; index = index; unfit = true; firsts = []; ons = [] }

-- the record of a level of these devices, which are all there and fit
abbrev pub fit_level : List ℕ → ℕ → Kind → ℕ → List (Option Device) → KeptLevel
fit_level target coin kind index ds = record {
  query = None;
  tried = true;
  index = index;
  unfit = false;
  firsts = map (fresh_slot target coin) (firsts_at (splits kind (length ds)) kind index 0 ds);
  ons = map (fresh_slot target coin) (if splits kind (length ds) then ons_at index 0 ds else []);
}

-- the record of a level of the plan, which is tried
abbrev pub fresh_level : List ℕ → ℕ → Rank → KeptLevel
fresh_level target coin l = record {
  query = None;
  tried = true;
  index = l.index;
  unfit = l.unfit;
  firsts = map (fresh_slot target coin) l.firsts;
  ons = map (fresh_slot target coin) l.ons;
}

-- the record of a candidate, whose Act slot has no level yet
abbrev pub fresh_candidate : Kind → List ℕ → ℕ → QueriedDevice → KeptLevel
fresh_candidate kind target coin c = record {
  query = option_map (fresh_slot target coin) c.query;
  tried = false;
  index = 0;
  unfit = false;
  firsts = fresh_slot target coin (act_task false kind 0 0 c.device) ∷ [];
  ons = [];
}

-- the records of its levels, or of its candidates
abbrev pub fresh_levels : Operation → List KeptLevel
fresh_levels o =
    if o.levelled then map (fresh_level o.target o.coin) o.levels
    else map (fresh_candidate o.kind o.target o.coin) o.candidates

-- the record of an operation with so many allowed tries, before it is seen whether a query is open
abbrev pub unseen_operation : ℕ → Operation → KeptOperation
unseen_operation tries o = record {
  req = o.req;
  kind = o.kind;
  target = o.target;
  begin = o.begin;
  over = o.over;
  moment = o.begin;
  confirmed = false;
  ranked = o.levelled;
  untried = tries;
  levels = fresh_levels o;
  members = record { 0 = o.req } ∷ [];
}

-- the record of an operation that begins: where no query is open it is known at once which levels are tried
abbrev pub fresh_operation : ℕ → Operation → KeptOperation
fresh_operation tries o = ranked_if_queried o.begin (unseen_operation tries o)

-- what is asked by the request that begins it, after the entries before
abbrev pub asked_of : Request → Scope → History → Asked
asked_of r scope before =
    record {
      moment = r.moment;
      lead = r.req.0;
      kind = r.kind;
      target = r.target;
      total = r.total;
      coin = r.coin;
      scope = scope;
      before = before;
    }

-- what is wanted by it, with the levels of a scope
abbrev pub wanted_by : Request → Scope → Wanted
wanted_by r scope = record { kind = r.kind; target = r.target; begin = r.moment; scope = scope }

-- the operation that a request with a plan begins
abbrev pub begun_by : Request → Plan → History → Operation
begun_by r p before = operation_by r.req.0 (asked_of r p.scope before) p
