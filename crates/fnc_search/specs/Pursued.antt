-- An operation as it is found: the number of a request that leads itself, and its entry.
use Rattle.std.specs.Prelude.{ℕ, List, map, ◌==◌, if◌then◌else◌, Option, Some, None, option_map, option_and_then}
use Rattle.fnc_journal.specs.History.{History}
use Rattle.fnc_journal.specs.Device.{Device}
use Rattle.fnc_journal.specs.Found.{Asked, asked}
use Rattle.fnc_journal.specs.Plan as Plan
use Rattle.fnc_journal.specs.Slots as Slots

-- the request of a number
pub record Pursued : Type 0 where
  pub req : ℕ
  pub asked : Asked

-- its operation
abbrev pub operation : Pursued → Slots.Operation
operation p = Slots.operation_of p.req p.asked

-- what it wants
abbrev pub wanted : Pursued → Plan.Wanted
wanted p = record { kind = p.asked.kind; target = p.asked.target; begin = p.asked.moment; scope = p.asked.scope }

-- its candidates, where no level stands for its node
abbrev pub candidates_of : Pursued → List Slots.QueriedDevice
candidates_of p =
    Slots.queried_from 0 p.asked.before
    (map (Plan.candidate (wanted p) p.asked.before) (Plan.candidates_among (wanted p) p.asked.before p.asked.before))

-- a device with the query that it has as a candidate at a place
abbrev pub queried_at : Pursued → ℕ → Device → Option Slots.QueriedDevice
queried_at p place d =
    option_map (Slots.queried place (Plan.candidate (wanted p) p.asked.before d).query)
    (Slots.device_of p.asked.before (Plan.candidate (wanted p) p.asked.before d).reg)

-- a request that leads itself is an operation
abbrev pub pursued_by : ℕ → Asked → Option Pursued
pursued_by n a = if n == a.lead then Some (record { req = n; asked = a }) else None

-- the operation of a number
abbrev pub pursued_of : ℕ → History → Option Pursued
pursued_of n h = option_and_then (pursued_by n) (asked n h)
