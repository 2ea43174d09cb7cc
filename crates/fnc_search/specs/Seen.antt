-- What the runs of an operation say of a slot, gathered in one record.
use Rattle.std.specs.Prelude.{ℕ, List, Bool, ◌==◌, ◌+◌, ◌||◌, ◌&&◌, not, if◌then◌else◌, min}
use Rattle.std.specs.Prelude.{Option, Some, None, is_some, option_map, unwrap_or}
use Rattle.fnc_journal.specs.declared.event.Start.{Start}
use Rattle.fnc_journal.specs.declared.entry.Exit.{Exit}
use Rattle.fnc_journal.specs.declared.entry.Slot.{Slot}
use Rattle.fnc_journal.specs.Missing.{or_here, least_of, has_come}
use Rattle.fnc_journal.specs.Same.{same_slot}
use Rattle.fnc_journal.specs.Exits.{is_success}
use Rattle.fnc_journal.specs.Slots.{Task, time, tries}
use Rattle.fnc_journal.specs.Acts.{Act, begun_at, failed, success_at, last_failure_at, has_listed, last_run, is_below}
use Rattle.fnc_journal.specs.Acts.{is_query}
use Rattle.fnc_journal.specs.Acts as Acts
use Rattle.fnc_search.specs.declared.seen.Last.{Last}
use Rattle.fnc_search.specs.declared.seen.Seen.{Seen}

-- the slot of a start, where it is of an operation
abbrev pub slot_for : ℕ → Option Start → Option Slot
slot_for o None = None
slot_for o (Some start) = if o == start.req.0 then Some start.slot else None

-- the last run of a slot, as the judge keeps it
abbrev pub last_of : Acts.Last → Last
last_of Acts.Last.NoRun = Last.NoRun
last_of (Acts.Last.Alive run) = Last.Alive run
last_of (Acts.Last.EndedAt moment) = Last.EndedAt moment

-- what the acts of an operation say of a slot
abbrev pub seen_of : Task → ℕ → List Act → Seen
seen_of t over acts = record {
  begun = begun_at t.slot acts;
  failed = failed t over acts;
  success = success_at t over acts;
  last_failure = last_failure_at t over acts;
  listed = has_listed t over acts;
  last = last_of (last_run t.slot acts);
}

-- with one more start
abbrev pub seen_begun : Task → Seen → ℕ → ℕ → Slot → Seen
seen_begun t s m run slot =
    if same_slot t.slot slot then record s { begun = or_here s.begun (Some m); last = Last.Alive run } else s

-- with one more success
abbrev pub seen_success : Seen → ℕ → Bool → Seen
seen_success s m listed = record s { success = or_here s.success (Some m); listed = listed || s.listed }

-- with one more failure
abbrev pub seen_failure : Seen → ℕ → ℕ → Seen
seen_failure s n m = record s {
  failed = s.failed + 1;
  last_failure = or_here s.last_failure (if s.failed + 1 == n then Some m else None);
}

-- whether a moment is in time for a slot that was first started at one
abbrev pub is_in_time_by : Task → ℕ → Option ℕ → ℕ → Bool
is_in_time_by t over begun m = is_below m (option_map (min over) (option_map (λ x. x + time t) begun))

-- with one more exit in time
abbrev pub seen_in_time : Task → Seen → ℕ → Exit → Bool → Seen
seen_in_time t s m exit listed = if is_success t.kind exit then seen_success s m listed else seen_failure s (tries t) m

-- with one more exit of the slot
abbrev pub seen_exit : Task → ℕ → Seen → ℕ → Exit → Bool → Seen
seen_exit t over s m exit listed = if is_in_time_by t over s.begun m then seen_in_time t s m exit listed else s

-- with one more exit
abbrev pub seen_ended : Task → ℕ → Seen → ℕ → Slot → Exit → Bool → Seen
seen_ended t over s m slot exit listed =
    if same_slot t.slot slot then seen_exit t over (record s { last = Last.EndedAt m }) m exit listed else s

-- with one more act
abbrev pub seen_with : Task → ℕ → Seen → Option Act → Seen
seen_with t over s None = s
seen_with t over s (Some (Act.Begun m run slot)) = seen_begun t s m run slot
seen_with t over s (Some (Act.Ended m slot exit listed)) = seen_ended t over s m slot exit listed

-- the end of the slot's action
abbrev pub end_by : Task → Seen → Option ℕ
end_by t s = option_map (λ x. x + time t) s.begun

-- whether the slot is confirmed
abbrev pub confirmed_by : Task → Seen → Bool
confirmed_by t s = not (is_query t) && is_some s.success

-- whether the slot is answered
abbrev pub answered_by : Task → Seen → Bool
answered_by t s = is_query t && is_some s.success

-- whether the slot is spent
abbrev pub spent_by : Task → ℕ → Seen → Bool
spent_by t m s = (s.failed == tries t) || has_come (end_by t s) m

-- whether the slot is concluded
abbrev pub concluded_by : Task → ℕ → Seen → Bool
concluded_by t m s = is_some s.success || spent_by t m s

-- when the slot was concluded
abbrev pub concluded_at_by : Task → ℕ → Seen → ℕ
concluded_at_by t begin s = unwrap_or (least_of s.success (least_of s.last_failure (end_by t s))) begin
