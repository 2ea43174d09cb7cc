-- When the total time of an operation is over, and which limit a slot has that is started now.
use Rattle.std.specs.Prelude.{ℕ, ◌+◌, min, Option, Some, None, option_map, unwrap_or}
use Rattle.fnc_journal.specs.declared.definition.Registration.{Registration}
use Rattle.fnc_journal.specs.declared.event.Event.{Event}
use Rattle.fnc_journal.specs.declared.entry.Kind.{Kind}
use Rattle.fnc_journal.specs.History.{History}
use Rattle.fnc_journal.specs.Found.{registration}
use Rattle.fnc_journal.specs.Device.{allowed}
use Rattle.fnc_records.specs.SlotRecords.{capped}

-- when the total time of a request is over that came at a moment
abbrev pub over_by : ℕ → Event → ℕ
over_by m (Event.Ask ask) = capped 64 (m + ask.total)
over_by m _ = m

-- how long an action of a registration may take, 0 where there is no such registration
abbrev pub time_of : ℕ → Kind → History → ℕ
time_of reg kind h =
    unwrap_or (option_map (λ (r : Registration). (allowed r.definition kind).time) (registration reg h)) 0

-- the limit that a slot has, or where it has none the one that it gets by a start at a moment
abbrev pub limit_at : ℕ → ℕ → ℕ → Option ℕ → ℕ
limit_at m over time None = min over (m + time)
limit_at m over time (Some at) = at
