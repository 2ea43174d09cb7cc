-- What holds of the core's parts between the entries of one event, and what holds besides once nothing is due.
use Rattle.std.specs.Prelude.{
  ℕ,
  List,
  [],
  ◌∷◌,
  ◌++◌,
  Bool,
  true,
  false,
  ◌≡◌,
  ◌==◌,
  ◌||◌,
  ◌+◌,
  ◌*◌,
  ◌≤◌,
  length,
  Option,
  Some,
  None,
  option_map,
  option_and_then,
}
use Rattle.fnc_journal.specs.declared.entry.Entry.{Entry}
use Rattle.fnc_journal.specs.declared.event.Event.{Event}
use Rattle.fnc_journal.specs.declared.event.Request.{Request}
use Rattle.fnc_journal.specs.declared.event.Start.{Start}
use Rattle.fnc_journal.specs.declared.entry.Scope.{Scope}
use Rattle.fnc_journal.specs.declared.entry.Answer.{Answer}
use Rattle.fnc_journal.specs.declared.limits.TheConstants.{GREATEST_JOURNAL, GREATEST_MOMENT}
use Rattle.fnc_journal.specs.History.{History}
use Rattle.fnc_journal.specs.Served.{AreReplies}
use Rattle.fnc_journal.specs.Operations.{first_due, due_to, settled}
use Rattle.fnc_journal.specs.Owed.{owed, tries_of}
use Rattle.fnc_journal.specs.Lawful.{Lawful, Calm, Pending, pending, last_moment}
use Rattle.fnc_journal.specs.declared.entry.Kind.{Kind}
use Rattle.fnc_journal.specs.declared.entry.Req.{Req}
use Rattle.fnc_journal.specs.declared.plan.Plan.{Plan}
use Rattle.fnc_journal.specs.Bounds.{IsBounded}
use Rattle.fnc_journal.specs.Plan.{plan}
use Rattle.fnc_journal.specs.Slots.{Operation, operation_by, all_slots, Task, time}
use Rattle.fnc_journal.specs.declared.entry.Run.{Run}
use Rattle.fnc_journal.specs.Acts.{acts, runs, limit}
use Rattle.fnc_journal.specs.Startable.{Startable, first}
use Rattle.fnc_core.specs.declared.change.Ask.{Ask}
use Rattle.fnc_core.specs.declared.change.Started.{Started}
use Rattle.fnc_ops.specs.declared.ops.Operation.{Operation as Begun}
use Rattle.fnc_ops.specs.Stands.{StandsFor, AreAt, AreBounded}
use Rattle.fnc_journal.specs.Known.{KnowsFew, IsSmallLevel}
use Rattle.fnc_core.specs.Limits.{limit_at}
use Rattle.fnc_core.specs.Parted.{Parted}
use Rattle.fnc_core.specs.Wanted.{Waits, Lanes, HasPlaces}

-- the replies that must follow go to the first operation that is due, with the answer that is due to it, at this
-- moment
pub record Continues (h : History) (m : ℕ) (p : Pending) : Type 0 where
  pub operation : option_map (λ o. o.req) (first_due h m) ≡ Some p.operation
  pub answer : option_and_then (due_to h m) (first_due h m) ≡ Some p.answer
  pub moment : p.moment ≡ m

-- the same where replies must follow, nothing where none must
abbrev pub MayContinue : History → ℕ → Option Pending → Type 0
MayContinue h m None = Unit {0}
MayContinue h m (Some p) = Continues h m p

-- the parts at a moment: the journal is lawful, and the records and the queue are those of the journal
pub record Between (m : ℕ) (p : Parted) : Type 0 where
  pub lawful : Lawful p.history
  pub calm : Calm p.history
  pub small : p.limit ≤ GREATEST_JOURNAL
  pub came : last_moment p.history ≤ m
  pub early : m ≤ GREATEST_MOMENT
  pub bounded : AreBounded p.history
  pub few : KnowsFew p.history
  pub stands : StandsFor p.ops p.history
  pub at : AreAt m p.ops.operations
  pub waits : Waits p.history p.ops p.queue
  pub lanes : Lanes p.history p.queue
  pub has_places : HasPlaces p.history p.ops p.queue
  pub room : length p.history + owed p.history ≤ p.limit
  pub continues : MayContinue p.history m (pending p.history)
  pub settled_then : ((last_moment p.history == m) || settled p.history (last_moment p.history)) ≡ true

-- besides, no answer is due
pub record Rests (m : ℕ) (p : Parted) : Type 0 where
  pub between : Between m p
  pub settled_now : settled p.history m ≡ true

-- one more entry, at a moment
abbrev pub entry : ℕ → Event → Entry
entry m event = record { moment = m; event = event }

-- the journal has one more entry, and room for what is then owed
pub record Adds (m : ℕ) (event : Event) (old new : Parted) : Type 0 where
  pub history : new.history ≡ entry m event ∷ old.history
  pub limit : new.limit ≡ old.limit

-- nothing of the journal and the records changed, and still no answer is due
pub record Stays (m : ℕ) (old new : Parted) : Type 0 where
  pub rests : Rests m new
  pub history : new.history ≡ old.history
  pub limit : new.limit ≡ old.limit
  pub ops : new.ops ≡ old.ops

-- there is room for so many entries beside those that are owed
abbrev pub RoomFor : Parted → ℕ → Type 0
RoomFor p need = length p.history + owed p.history + need ≤ p.limit

-- an input that touches no operation: a device, a level, an agent, a pass, a line that is refused
abbrev pub is_quiet : Event → Bool
is_quiet (Event.Device device) = true
is_quiet (Event.Gone reg) = true
is_quiet (Event.Level set) = true
is_quiet (Event.LevelGone cleared) = true
is_quiet (Event.Agent described) = true
is_quiet Event.Pass = true
is_quiet (Event.Refused refusal) = true
is_quiet _ = false

-- a device's definition is within its bounds, and so is a level
abbrev pub IsBoundedEvent : Event → Type 0
IsBoundedEvent (Event.Device device) = IsBounded device.registration.definition
IsBoundedEvent (Event.Level set) = IsSmallLevel set.index set.devices
IsBoundedEvent _ = Unit {0}

-- the plan of a target for an action at a moment
abbrev pub IsPlanOf : History → ℕ → Kind → List ℕ → Plan → Type 0
IsPlanOf h m kind target p = p ≡ plan (record { kind = kind; target = target; begin = m; scope = p.scope }) h

-- the operation that a request begins
abbrev pub operation_with : History → ℕ → Req → Ask → Plan → Operation
operation_with h m req a p =
    operation_by req.0 (record {
      moment = m;
      lead = req.0;
      kind = a.kind;
      target = a.target;
      total = a.total;
      coin = a.coin;
      scope = p.scope;
      before = h;
    }) p

-- what a client asks for, as what an operation of a number begins with
abbrev pub operation_asked : ℕ → Req → Ask → Begun
operation_asked m req a =
    record { req = req; target = a.target; kind = a.kind; moment = m; total = a.total; coin = a.coin }

-- what a client asks for, as a request of a number, with its lead and its scope
abbrev pub request_of : Req → Req → Ask → Scope → Request
request_of req lead a scope = record {
  req = req;
  lead = lead;
  client = a.client;
  kind = a.kind;
  target = a.target;
  total = a.total;
  coin = a.coin;
  scope = scope;
}

-- the allowed tries of all slots of the operation that a request begins
abbrev pub tries_with : History → ℕ → Req → Ask → Plan → ℕ
tries_with h m req a p = tries_of (all_slots (operation_with h m req a p))

-- the entries that a request wants which begins an operation: its own, its reply, and a start and an exit for each
-- try
abbrev pub need_of : History → ℕ → Req → Ask → Plan → ℕ
need_of h m req a p = 2 + 2 * tries_with h m req a p

-- the journal has one more entry, a reply
pub record AddsReply (m : ℕ) (old new : Parted) : Type 0 where
  pub req : Req
  pub answer : Answer
  pub adds : Adds m (Event.Reply (record { req = req; answer = answer })) old new

-- the journal has the replies that were due, none where nothing was
pub record GaveReplies (m : ℕ) (old new : Parted) : Type 0 where
  pub replies : History
  pub are : AreReplies m replies
  pub history : new.history ≡ replies ++ old.history
  pub limit : new.limit ≡ old.limit
  pub none : settled old.history m ≡ true → replies ≡ []

-- the limit of a slot, for a first try as if it were started now
abbrev pub limit_from : ℕ → ℕ → Task → Option ℕ → ℕ
limit_from m over t at = limit_at m over (time t) at

-- a start that is told, as it is entered
abbrev pub start_of : Started → Start
start_of s = record { run = s.run; req = s.req; slot = s.slot; reg = s.reg; kind = s.kind; attempt = s.attempt }

-- what is told of the start that may be made first
pub record IsNextStart (m : ℕ) (p : Parted) (run : Run) (s : Started) : Type 0 where
  pub startable : Startable
  pub is_first : first p.history m ≡ Some startable
  pub run_is : s.run ≡ run
  pub req : s.req.0 ≡ startable.operation.req
  pub slot : s.slot ≡ startable.task.slot
  pub reg : s.reg.0 ≡ startable.task.reg
  pub kind : s.kind ≡ startable.task.kind
  pub attempt : s.attempt ≡ runs startable.task.slot (acts startable.operation.req p.history) + 1
  pub limit :
      s.limit ≡ limit_from m startable.operation.over startable.task
      (limit startable.task startable.operation.over (acts startable.operation.req p.history))

-- the journal has the start as one more entry
abbrev pub StartsNext : ℕ → Started → Parted → Parted → Type 0
StartsNext m s old new = Adds m (Event.Start (start_of s)) old new
