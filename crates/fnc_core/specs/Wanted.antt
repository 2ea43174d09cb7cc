-- What the queue holds: for each open operation the try that it waits for, and the lanes of the runs that are alive.
use Rattle.std.specs.Prelude.{
  ℕ,
  List,
  [],
  ◌∷◌,
  ◌≡◌,
  ◌≤◌,
  ◌+◌,
  if◌then◌else◌,
  length,
  Option,
  option_map,
  option_and_then,
}
use Rattle.fnc_journal.specs.History.{History}
use Rattle.fnc_journal.specs.Found.{registration}
use Rattle.fnc_journal.specs.Registered.{lane}
use Rattle.fnc_journal.specs.Startable.{alive, alive_runs}
use Rattle.fnc_journal.specs.Owed.{owed}
use Rattle.fnc_records.specs.declared.operation.Standing.{Standing}
use Rattle.fnc_ops.specs.Kept.{Kept}
use Rattle.fnc_records.specs.KeptOperation.{KeptOperation}
use Rattle.fnc_ops.specs.OpsRecords.{waiting}
use Rattle.fnc_queue.specs.declared.waiting.Waiting.{Waiting}
use Rattle.fnc_queue.specs.Items.{item_of, is_waiting}
use Rattle.fnc_queue.specs.Lanes.{lane_count}
use Rattle.fnc_queue.specs.Queued.{Queued}

-- how many runs of its lane a registration lets be alive at once, None without limit
abbrev pub cap_of : ℕ → History → Option ℕ
cap_of reg h = option_and_then (λ r. r.definition.cap) (registration reg h)

-- the item of an operation's try
abbrev pub item_for : History → ℕ → Standing → Waiting
item_for h req s = record {
  req = record { 0 = req };
  lane = record { 0 = lane s.reg.0 h };
  ready = s.ready;
  cap = cap_of s.reg.0 h;
}

-- the item of the try that an operation waits for
abbrev pub wanted : History → ℕ → Kept → Option Waiting
wanted h req v = option_map (item_for h req) (waiting req v.operations)

-- the queue has of each operation the try that it waits for, and nothing else
abbrev pub Waits : History → Kept → Queued → Type 0
Waits h v q = (req : ℕ) → item_of req q.waiting ≡ wanted h req v

-- the queue has of each lane as many runs as are alive
abbrev pub Lanes : History → Queued → Type 0
Lanes h q = (l : ℕ) → lane_count l q.alive ≡ alive l h

-- how many of these operations have an item in the queue
abbrev pub held : List KeptOperation → List Waiting → ℕ
held [] items = 0
held (o ∷ os) items = if is_waiting o.req items then held os items + 1 else held os items

-- the queue has a place for each entry that is owed: left, taken by an item of an operation, or by a run that is alive
abbrev pub HasPlaces : History → Kept → Queued → Type 0
HasPlaces h v q = owed h ≤ q.spare + held v.operations q.waiting + length (alive_runs h)

-- one where an operation has an item
abbrev pub one_if_held : ℕ → List Waiting → ℕ
one_if_held req items = if is_waiting req items then 1 else 0
