-- What a queue is: the tries that wait, the lanes of the runs that are alive, and how many more tries may
-- come to wait. What each call makes of it.
use Rattle.std.specs.Prelude.{ℕ, List, [], ◌+◌, ◌-◌, if◌then◌else◌, max, Option, Some, None}
use Rattle.fnc_journal.specs.declared.entry.Reg.{Reg}
use Rattle.fnc_queue.specs.declared.waiting.Waiting.{Waiting}
use Rattle.fnc_queue.specs.Items.{is_waiting, with_item, without_item}
use Rattle.fnc_queue.specs.Lanes.{with_run, without_run}

pub record Queued : Type 0 where
  pub waiting : List Waiting
  pub alive : List Reg
  pub spare : ℕ

-- nothing waits, nothing is alive, and there is no room
abbrev pub empty_queue : Queued
empty_queue = record { waiting = []; alive = []; spare = 0 }

-- with room for so many items at least
abbrev pub reserved : ℕ → Queued → Queued
reserved items q = record q { spare = max q.spare items }

-- one more try waits
abbrev pub added : Waiting → Queued → Queued
added item q = record q { waiting = with_item item q.waiting; spare = q.spare - 1 }

-- the try of an operation waits no more
abbrev pub withdrawn : ℕ → Queued → Queued
withdrawn req q =
    if is_waiting req q.waiting then record q { waiting = without_item req q.waiting; spare = q.spare + 1 } else q

-- a try that waited was started, and its run is alive
abbrev pub started : Option Waiting → Queued → Queued
started None q = q
started (Some item) q = record q { waiting = without_item item.req.0 q.waiting; alive = with_run item.lane q.alive }

-- a run of a lane has ended
abbrev pub ended : ℕ → Queued → Queued
ended lane q = record q { alive = without_run lane q.alive; spare = q.spare + 1 }
