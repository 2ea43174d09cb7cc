-- When the records of the open operations stand for a journal, and what they are then asked for.
use Rattle.std.specs.Prelude.{
  ℕ,
  List,
  ◌≡◌,
  ◌==◌,
  Bool,
  true,
  map,
  find,
  Option,
  Some,
  None,
  option_map,
  option_and_then,
  [],
  ◌∷◌,
  ◌≤◌,
  nat_lt,
  if◌then◌else◌,
  length,
  ◌+◌,
}
use Rattle.std.specs.List.{AllZip, AllByRecursion}
use Rattle.fnc_journal.specs.declared.entry.Slot.{Slot}
use Rattle.fnc_journal.specs.declared.limits.TheConstants.{MOST_DEVICES_OF_LEVEL, MOST_TRIES}
use Rattle.fnc_journal.specs.declared.entry.Entry.{Entry}
use Rattle.fnc_journal.specs.declared.event.Confirmation.{Confirmation}
use Rattle.fnc_journal.specs.declared.event.Ended.{Ended}
use Rattle.fnc_journal.specs.declared.event.Event.{Event}
use Rattle.fnc_journal.specs.declared.event.Request.{Request}
use Rattle.fnc_journal.specs.declared.event.Start.{Start}
use Rattle.fnc_journal.specs.declared.entry.Req.{Req}
use Rattle.fnc_journal.specs.declared.entry.Scope.{Scope}
use Rattle.fnc_journal.specs.declared.plan.PlanLevel.{PlanLevel}
use Rattle.fnc_journal.specs.Bounds.{IsBounded}
use Rattle.fnc_journal.specs.History.{History}
use Rattle.fnc_journal.specs.Slots.{Task, Operation}
use Rattle.fnc_journal.specs.declared.definition.Registration.{Registration}
use Rattle.fnc_journal.specs.Found.{registration}
use Rattle.fnc_journal.specs.Standing.{ready}
use Rattle.fnc_journal.specs.Acts.{Act, acts, end, runs, limit}
use Rattle.fnc_journal.specs.Due.{is_confirmed}
use Rattle.fnc_journal.specs.Owed.{untried}
use Rattle.fnc_journal.specs.Startable.{alive_runs}
use Rattle.fnc_journal.specs.Operations.{open_operations, unanswered, stands_at, due_to}
use Rattle.fnc_records.specs.declared.operation.Standing.{Standing}
use Rattle.fnc_ops.specs.declared.ops.Due.{Due}
use Rattle.fnc_ops.specs.declared.ops.Operation.{Operation as Begun}
use Rattle.fnc_records.specs.KeptOperation.{KeptOperation}
use Rattle.fnc_ops.specs.Kept.{Kept}
use Rattle.fnc_records.specs.OperationFacts.{IsOperation, IsStanding, left_levels}
use Rattle.fnc_records.specs.SlotFacts.{BothOr}
use Rattle.fnc_journal.specs.declared.entry.Answer.{Answer}
use Rattle.fnc_journal.specs.Missing.{first_of}
use Rattle.fnc_records.specs.SlotRecords.{come_by}

-- the numbers of requests
abbrev pub numbers : List Req → List ℕ
numbers rs = map (λ r. r.0) rs

-- no slot has had more runs than a device may allow tries
abbrev pub AreFewRuns : List Act → Type 0
AreFewRuns xs = (s : Slot) → runs s xs ≤ MOST_TRIES

-- the record of an operation with these acts and these waiting requests, which an operator confirmed or not
pub record IsKept (xs : List Act) (waiting : List ℕ) (confirmed : Bool) (r : KeptOperation) (o : Operation) :
    Type 0 where
  pub operation : IsOperation r.moment xs r o
  pub waiting_are : numbers r.members ≡ waiting
  pub confirmed_is : r.confirmed ≡ confirmed
  pub untried_is : r.untried ≡ untried o xs
  pub enough : left_levels r.levels ≤ r.untried
  pub few_runs : AreFewRuns xs

-- the record of an operation in a journal
abbrev pub Stands : History → KeptOperation → Operation → Type 0
Stands h r o = IsKept (acts o.req h) (unanswered o.req h) (is_confirmed o h) r o

-- the records are those of the operations that are open, in rising order
abbrev pub StandEach : List KeptOperation → History → Type 0
StandEach rs h = AllZip (Stands h) rs (open_operations h)

-- the records of the open operations and the number of runs that are alive are those of a journal
pub record StandsFor (v : Kept) (h : History) : Type 0 where
  pub each : StandEach v.operations h
  pub alive : v.alive ≡ length (alive_runs h)

-- each record speaks at this moment
abbrev pub AreAt : ℕ → List KeptOperation → Type 0
AreAt m rs = AllByRecursion (λ r. r.moment ≡ m) rs

-- the record of the operation of a number speaks at this moment
abbrev pub SpeaksAt : ℕ → ℕ → List KeptOperation → Type 0
SpeaksAt m req rs = AllByRecursion (λ r. (r.req == req) ≡ true → r.moment ≡ m) rs

-- where an operation stands at a moment, if it is open
abbrev pub IsStandingAtMoment : History → ℕ → Option Standing → Option Operation → Type 0
IsStandingAtMoment h m s None = s ≡ None
IsStandingAtMoment h m s (Some o) = IsStanding o m (acts o.req h) s (stands_at h m o)

-- where the operation of a number stands at a moment
abbrev pub IsStandingOf : History → ℕ → ℕ → Option Standing → Type 0
IsStandingOf h m req s = IsStandingAtMoment h m s (find (λ o. o.req == req) (open_operations h))

-- the first answer that is due, and to which operation
abbrev pub IsFirstDue : History → ℕ → Option Due → Option Operation → Type 0
IsFirstDue h m None None = Unit {0}
IsFirstDue h m None (Some o) = ⊥
IsFirstDue h m (Some d) None = ⊥
IsFirstDue h m (Some d) (Some o) = (o.req ≡ d.req.0) × (due_to h m o ≡ Some d.answer)

-- each level of a plan has no more devices than a level may
abbrev pub AreFewDevices : List PlanLevel → Type 0
AreFewDevices ls = AllByRecursion (λ l. length l.devices ≤ MOST_DEVICES_OF_LEVEL) ls

-- the entry of a start
abbrev pub start_entry : ℕ → Start → Entry
start_entry m start = record { moment = m; event = Event.Start start }

-- the entry of an operator's word
abbrev pub confirm_entry : ℕ → Confirmation → Entry
confirm_entry m confirmation = record { moment = m; event = Event.Confirm confirmation }

-- the entry of an exit
abbrev pub exit_entry : ℕ → Ended → Entry
exit_entry m ended = record { moment = m; event = Event.Exit ended }

-- the entry of a reply
abbrev pub reply_entry : ℕ → Req → Answer → Entry
reply_entry m req answer = record { moment = m; event = Event.Reply (record { req = req; answer = answer }) }

-- the least request that waits for the operation of a number, if that is open
abbrev pub next_of : History → ℕ → Option ℕ
next_of h req =
    option_and_then (λ o. first_of (unanswered o.req h))
    (find (λ (o : Operation). o.req == req) (open_operations h))

-- no record speaks at a later moment
abbrev pub AreBy : ℕ → List KeptOperation → Type 0
AreBy m rs = AllByRecursion (λ r. r.moment ≤ m) rs

-- an operation whose standing slot has come to its action's end
pub record Ending : Type 0 where
  pub req : ℕ
  pub at : ℕ

-- an operation with an end that may be missing
abbrev pub ending : Operation → Option ℕ → Option Ending
ending o None = None
ending o (Some at) = Some (record { req = o.req; at = at })

-- an operation whose standing slot at a moment has come to its action's end by a later one
abbrev pub ending_of : History → ℕ → ℕ → Operation → Option Ending
ending_of h m later o = ending o (option_and_then (λ t. come_by later (end t (acts o.req h))) (stands_at h m o))

-- the sooner of two by that end, of equals the first
abbrev pub sooner_ending : Option Ending → Option Ending → Option Ending
sooner_ending None b = b
sooner_ending (Some a) None = Some a
sooner_ending (Some a) (Some b) = Some (if nat_lt b.at a.at then b else a)

-- the first of all operations, each standing where it does at the moment at which its record speaks
abbrev pub first_ending : History → ℕ → List KeptOperation → List Operation → Option Ending
first_ending h later [] os = None
first_ending h later (r ∷ rs) [] = None
first_ending h later (r ∷ rs) (o ∷ os) = sooner_ending (ending_of h r.moment later o) (first_ending h later rs os)

-- the number of the first of all operations whose standing slot has come to its action's end
abbrev pub first_ended : History → ℕ → List KeptOperation → Option ℕ
first_ended h later rs = option_map (λ (e : Ending). e.req) (first_ending h later rs (open_operations h))

-- each record speaks at this moment, but for those of the operations whose standing slot comes to its action's end by
-- then: they are still to come
abbrev pub AreAtButEnding : History → ℕ → List KeptOperation → Type 0
AreAtButEnding h m rs =
    AllZip (λ r o. ending_of h r.moment m o ≡ None → r.moment ≡ m) rs (open_operations h)

-- a try that may come next: its slot, and since when it is ready
pub record Try : Type 0 where
  pub task : Task
  pub ready : ℕ

-- a start, of the slot of this try
abbrev pub of_try : Try → Start → Start
of_try y start = record start { slot = y.task.slot }

-- the try of a slot, where that is ready from some moment on
abbrev pub try_ready : Task → Option ℕ → Option Try
try_ready t None = None
try_ready t (Some at) = Some (record { task = t; ready = at })

-- the try of the slot at which an operation stands
abbrev pub try_at : History → ℕ → Operation → Option Task → Option Try
try_at h m o None = None
try_at h m o (Some t) = try_ready t (ready o m (acts o.req h) t)

-- the try that an operation waits for at a moment
abbrev pub try_of : History → ℕ → Operation → Option Try
try_of h m o = try_at h m o (stands_at h m o)

-- what is said of the try that an operation waits for
pub record IsTry (h : History) (o : Operation) (s : Standing) (y : Try) : Type 0 where
  pub slot : s.slot ≡ y.task.slot
  pub reg : s.reg.0 ≡ y.task.reg
  pub kind : s.kind ≡ y.task.kind
  pub attempt : s.attempt ≡ runs y.task.slot (acts o.req h) + 1
  pub ready : s.ready ≡ y.ready
  pub limit : s.limit ≡ limit y.task o.over (acts o.req h)

-- what is said of the try of an operation that may be missing
abbrev pub IsTryOf : History → ℕ → Option Standing → Option Operation → Type 0
IsTryOf h m s None = s ≡ None
IsTryOf h m s (Some o) = BothOr (IsTry h o) s (try_of h m o)

-- the operation of a number is open and waits for this try
abbrev pub AwaitsTry : History → ℕ → ℕ → Try → Type 0
AwaitsTry h m req y = option_and_then (try_of h m) (find (λ o. o.req == req) (open_operations h)) ≡ Some y

-- each open operation of a number waits for this try
abbrev pub EachAwaits : History → ℕ → ℕ → Try → Type 0
EachAwaits h m req y = AllByRecursion (λ o. (o.req == req) ≡ true → try_of h m o ≡ Some y) (open_operations h)

-- every registration's definition is within its bounds
abbrev pub AreBounded : History → Type 0
AreBounded h = (n : ℕ) (r : Registration) → registration n h ≡ Some r → IsBounded r.definition

-- the entry of a request
abbrev pub ask_entry : ℕ → Request → Entry
ask_entry m request = record { moment = m; event = Event.Ask request }

-- the request that begins an operation, of a client and with a scope
abbrev pub begun_request : Begun → List ℕ → Scope → Request
begun_request begun client scope = record {
  req = begun.req;
  lead = begun.req;
  client = client;
  kind = begun.kind;
  target = begun.target;
  total = begun.total;
  coin = begun.coin;
  scope = scope;
}

-- how many records speak at an earlier moment
abbrev pub behind : ℕ → List KeptOperation → ℕ
behind m [] = 0
behind m (r ∷ rs) = if nat_lt r.moment m then behind m rs + 1 else behind m rs
