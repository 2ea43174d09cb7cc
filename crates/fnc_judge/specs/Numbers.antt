-- How many registrations, requests and runs a journal has.
use Rattle.std.specs.Prelude.{ℕ, ◌+◌, ◌<◌}
use Rattle.fnc_journal.specs.declared.event.Event.{Event}
use Rattle.fnc_journal.specs.History.{History}
use Rattle.fnc_journal.specs.Found.{devices, asks, starts}
use Rattle.fnc_judge.specs.declared.numbers.Numbers.{Numbers}

-- each of them is below a number
abbrev pub IsBelow : ℕ → Numbers → Type 0
IsBelow n t = (t.devices < n) × (t.asks < n) × (t.starts < n)

-- the numbers with one more entry
abbrev pub numbered : Numbers → Event → Numbers
numbered t (Event.Device device) = record t { devices = t.devices + 1 }
numbered t (Event.Ask ask) = record t { asks = t.asks + 1 }
numbered t (Event.Start start) = record t { starts = t.starts + 1 }
numbered t _ = t

-- the numbers of a journal
abbrev pub numbers_of : History → Numbers
numbers_of h = record { devices = devices h; asks = asks h; starts = starts h }
