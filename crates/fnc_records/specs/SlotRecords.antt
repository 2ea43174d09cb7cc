-- What the record of a slot says, and what it becomes by the starts and exits of its operation's runs.
-- Numbers are cut where they would not fit; of an operation that stands in a lawful journal none is.
use Rattle.std.specs.Prelude.{
  ℕ,
  Bool,
  true,
  false,
  ◌==◌,
  ◌+◌,
  ◌-◌,
  ◌^◌,
  min,
  max,
  ◌||◌,
  ◌&&◌,
  not,
  nat_lt,
  if◌then◌else◌,
  Option,
  Some,
  None,
  option_map,
  unwrap_or,
  nat_le,
}
use Rattle.fnc_journal.specs.declared.entry.Exit.{Exit}
use Rattle.fnc_journal.specs.declared.entry.Slot.{Slot}
use Rattle.fnc_journal.specs.Exits.{is_success}
use Rattle.fnc_journal.specs.Missing.{least_of, has_come}
use Rattle.fnc_journal.specs.Same.{same_slot}
use Rattle.fnc_records.specs.declared.slot.LastRun.{LastRun}
use Rattle.fnc_records.specs.declared.slot.SlotRecord.{SlotRecord}

-- a number as far as it fits so many bits
abbrev pub capped : ℕ → ℕ → ℕ
capped w n = min n (2 ^ w - 1)

-- what was there earlier, or where nothing was the moment
abbrev pub earlier_or : Option ℕ → ℕ → Option ℕ
earlier_or None m = Some m
earlier_or (Some at) m = Some at

-- a moment that has come
abbrev pub come_by : ℕ → Option ℕ → Option ℕ
come_by m None = None
come_by m (Some at) = if nat_le at m then Some at else None

-- whether the allowed tries failed or the action's end has come
abbrev pub is_spent : ℕ → SlotRecord → Bool
is_spent m r = (r.failed == r.tries) || has_come r.end m

-- whether it has succeeded or is spent
abbrev pub is_concluded : ℕ → SlotRecord → Bool
is_concluded m r = r.succeeded || is_spent m r

-- when it was concluded
abbrev pub concluded_at : ℕ → SlotRecord → ℕ
concluded_at begin r = unwrap_or (least_of r.succeeded_at (least_of r.failed_at r.end)) begin

-- the greater of a moment and that at which it was concluded, where it is
abbrev pub later : ℕ → ℕ → ℕ → SlotRecord → ℕ
later begin m at r = if is_concluded m r then max at (concluded_at begin r) else at

-- the record of a slot that is now of the level of this number
abbrev pub at_level : ℕ → SlotRecord → SlotRecord
at_level index r = record r { slot = record { phase = r.slot.phase; level = index; place = r.slot.place } }

-- its limit, once it was started
abbrev pub limit : ℕ → SlotRecord → Option ℕ
limit over r = option_map (min over) r.end

-- which of its tries the next one is
abbrev pub attempt : SlotRecord → ℕ
attempt r = capped 8 (r.runs + 1)

-- when the next try is ready, or when the run that is alive was started
abbrev pub ready_by : ℕ → ℕ → LastRun → ℕ
ready_by since delay LastRun.NoRun = capped 64 (since + delay)
ready_by since delay (LastRun.Alive at) = at
ready_by since delay (LastRun.EndedAt at) = at

abbrev pub ready : ℕ → SlotRecord → ℕ
ready since r = ready_by since r.delay r.last

-- the record after a start of one of its own runs
abbrev pub started_same : ℕ → SlotRecord → SlotRecord
started_same m r = record r {
  runs = capped 32 (r.runs + 1);
  last = LastRun.Alive m;
  end = earlier_or r.end (capped 64 (m + r.time));
}

-- the record after a start of one of the operation's runs
abbrev pub started : Slot → ℕ → SlotRecord → SlotRecord
started s m r = if same_slot r.slot s then started_same m r else r

-- whether an exit is in time
abbrev pub is_in_time : ℕ → ℕ → Option ℕ → Bool
is_in_time over m None = false
is_in_time over m (Some end) = nat_lt m over && nat_lt m end

-- the record after a success in time
abbrev pub succeeded_now : Bool → ℕ → SlotRecord → SlotRecord
succeeded_now listed m r = record r {
  succeeded = true;
  listed = listed || r.listed;
  last = LastRun.EndedAt m;
  succeeded_at = earlier_or r.succeeded_at m;
}

-- the record after a failure in time
abbrev pub failed_now : ℕ → SlotRecord → SlotRecord
failed_now m r = record r {
  failed = capped 32 (r.failed + 1);
  last = LastRun.EndedAt m;
  failed_at = if capped 32 (r.failed + 1) == r.tries then earlier_or r.failed_at m else r.failed_at;
}

-- the record after an exit of one of its own runs
abbrev pub ended_same : Exit → Bool → ℕ → ℕ → SlotRecord → SlotRecord
ended_same exit listed over m r =
    if not (is_in_time over m r.end) then record r { last = LastRun.EndedAt m }
    else if is_success r.kind exit then succeeded_now listed m r
    else failed_now m r

-- the record after an exit of one of the operation's runs
abbrev pub ended : Slot → Exit → Bool → ℕ → ℕ → SlotRecord → SlotRecord
ended s exit listed over m r = if same_slot r.slot s then ended_same exit listed over m r else r
