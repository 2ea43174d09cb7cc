-- What contracts see of the core, what holds of it after every call, and what a call adds to its journal.
use Rattle.std.specs.Prelude.{
  ℕ,
  List,
  [],
  ◌∷◌,
  ◌++◌,
  length,
  ◌≡◌,
  ◌+◌,
  ◌≤◌,
  ◌<◌,
  true,
  option_map,
  unwrap_or,
  Option,
  Some,
  None,
}
use Rattle.fnc_journal.specs.declared.entry.Entry.{Entry}
use Rattle.fnc_journal.specs.declared.event.Event.{Event}
use Rattle.fnc_journal.specs.declared.entry.Kind.{Kind}
use Rattle.fnc_journal.specs.declared.entry.Req.{Req}
use Rattle.fnc_journal.specs.declared.outcome.Full.{Full}
use Rattle.fnc_journal.specs.declared.plan.Plan.{Plan}
use Rattle.fnc_journal.specs.History.{History}
use Rattle.fnc_journal.specs.Operations.{settled, joined, open_operations}
use Rattle.fnc_journal.specs.Owed.{owed}
use Rattle.fnc_journal.specs.Lawful.{Lawful, Calm, last_moment}
use Rattle.fnc_journal.specs.Served.{AreReplies}
use Rattle.fnc_ops.specs.Stands.{AreBounded}
use Rattle.fnc_journal.specs.Found.{devices, asks, starts}
use Rattle.fnc_journal.specs.Slots.{Operation}
use Rattle.fnc_journal.specs.Startable.{alive_runs, Startable, first}
use Rattle.fnc_journal.specs.Acts.{acts, runs, limit}
use Rattle.fnc_core.specs.Between.{need_of, limit_from, request_of, start_of}
use Rattle.fnc_journal.specs.Known.{KnowsFew}
use Rattle.fnc_core.specs.declared.change.Ask.{Ask}
use Rattle.fnc_core.specs.declared.change.Change.{Change}
use Rattle.fnc_core.specs.declared.change.Started.{Started}
use Rattle.fnc_core.specs.declared.refusal.AskRefusal.{AskRefusal}

-- the journal, the newest entry first; the last moment; and how many entries the journal may have
pub record Cored : Type 0 where
  pub history : List Entry
  pub last : ℕ
  pub limit : ℕ

-- after every call: the journal is lawful and calm, nothing is due, and what was accepted has room
pub record Sound (v : Cored) : Type 0 where
  pub lawful : Lawful v.history
  pub calm : Calm v.history
  pub settled_now : settled v.history v.last ≡ true
  pub settled_then : settled v.history (last_moment v.history) ≡ true
  pub came : last_moment v.history ≤ v.last
  pub bounded : AreBounded v.history
  pub few : KnowsFew v.history
  pub room : length v.history + owed v.history ≤ v.limit

-- whether there is room for so many entries, beside those that are owed
abbrev pub HasRoom : Cored → ℕ → Type 0
HasRoom v need = length v.history + owed v.history + need ≤ v.limit

-- the moment advances: the replies due at it are given, none where the moment is the last one
pub record Advances (old new : Cored) (m : ℕ) : Type 0 where
  pub advance : History
  pub at_once : AreReplies m advance
  pub still : old.last ≡ m → advance ≡ []
  pub history : new.history ≡ advance ++ old.history
  pub last : new.last ≡ m
  pub limit : new.limit ≡ old.limit
  pub sound : Sound new

-- one more input at the last moment, and then the replies that it made due
pub record Follows (old new : Cored) (event : Event) : Type 0 where
  pub replies : History
  pub answered : AreReplies old.last replies
  pub history : new.history ≡ replies ++ record { moment = old.last; event = event } ∷ old.history
  pub last : new.last ≡ old.last
  pub limit : new.limit ≡ old.limit
  pub sound : Sound new

-- an input enters that needs so many entries: the moment advances, then there is room for them, and the input stands
-- in the journal, and after it the replies that it made due
pub record Enters (old new : Cored) (m : ℕ) (event : Event) (need : ℕ) : Type 0 where
  pub advanced : Cored
  pub advances : Advances old advanced m
  pub has_room : HasRoom advanced need
  pub follows : Follows advanced new event

-- the operation that a request for an action on a target joins at the last moment, None where it begins its own
abbrev pub joined_in : Cored → Kind → List ℕ → Option ℕ
joined_in v kind target = option_map (λ o. o.req) (joined v.history v.last kind target)

-- the request that a request joins in a journal at a moment, or itself
abbrev pub lead_in : History → ℕ → Ask → Req → Req
lead_in h m a req = record { 0 = unwrap_or (option_map (λ o. o.req) (joined h m a.kind a.target)) req.0 }

-- the next request
abbrev pub next_of : Cored → Req
next_of v = record { 0 = asks v.history }

-- the entry of a request
abbrev pub ask_event : Req → Req → Ask → Plan → Event
ask_event req lead a p = Event.Ask (request_of req lead a p.scope)

-- what is said where there is no room for so many entries
abbrev pub full_of : Cored → ℕ → Full
full_of v need = record { entries = length v.history; owed = owed v.history; need = need; limit = v.limit }

-- what is said where there is none
pub record IsFull (v : Cored) (need : ℕ) (full : Full) : Type 0 where
  pub says : full ≡ full_of v need
  pub above : v.limit < length v.history + owed v.history + need

-- nothing is open and no run is alive
pub record IsIdle (v : Cored) : Type 0 where
  pub closed : open_operations v.history ≡ []
  pub ended : alive_runs v.history ≡ []

-- the entry of a change: a device gets the next number
abbrev pub event_of : History → Change → Event
event_of h (Change.Device registration) =
    Event.Device (record { reg = record { 0 = devices h }; registration = registration })
event_of h (Change.Gone reg) = Event.Gone reg
event_of h (Change.Level set) = Event.Level set
event_of h (Change.LevelGone cleared) = Event.LevelGone cleared
event_of h (Change.Agent described) = Event.Agent described
event_of h (Change.Confirm word) = Event.Confirm word

-- the entries that a request wants: its own and its reply, and where it begins an operation a start and an exit for
-- each try
abbrev pub wanted_by : Cored → ℕ → Ask → Plan → Option Operation → ℕ
wanted_by v m a p None = need_of v.history m (next_of v) a p
wanted_by v m a p (Some o) = 2

-- the entries that a request wants at the last moment
abbrev pub ask_need : Cored → Ask → Plan → ℕ
ask_need v a p = wanted_by v v.last a p (joined v.history v.last a.kind a.target)

-- a request enters, with the lead that it has after the advance, and with the room that it wants then
pub record Asks (old new : Cored) (m : ℕ) (a : Ask) (p : Plan) (req : Req) : Type 0 where
  pub lead : Req
  pub need : ℕ
  pub enters : Enters old new m (ask_event req lead a p) need
  pub leads : lead ≡ lead_in enters.advanced.history m a req
  pub needs : need ≡ ask_need enters.advanced a p

-- why a request that wants so many entries is not taken: there is no room for them. Want of memory is free
abbrev pub IsRefusal : Cored → ℕ → AskRefusal → Type 0
IsRefusal v need (AskRefusal.Full full) = IsFull v need full
IsRefusal v need AskRefusal.NoMemory = Unit {0}

-- why a request is not taken
abbrev pub IsAskRefusal : Cored → Ask → Plan → AskRefusal → Type 0
IsAskRefusal v a p refusal = IsRefusal v (ask_need v a p) refusal

-- what is told of the start that may be made first in a journal at a moment: its run has the next number
pub record IsFirstStart (h : History) (m : ℕ) (s : Started) : Type 0 where
  pub startable : Startable
  pub is_first : first h m ≡ Some startable
  pub run_is : s.run.0 ≡ starts h
  pub req : s.req.0 ≡ startable.operation.req
  pub slot : s.slot ≡ startable.task.slot
  pub reg : s.reg.0 ≡ startable.task.reg
  pub kind : s.kind ≡ startable.task.kind
  pub attempt : s.attempt ≡ runs startable.task.slot (acts startable.operation.req h) + 1
  pub limit :
      s.limit ≡ limit_from m startable.operation.over startable.task
      (limit startable.task startable.operation.over (acts startable.operation.req h))

-- what is told of the start that may be made first at the last moment
abbrev pub IsStart : Cored → Started → Type 0
IsStart v s = IsFirstStart v.history v.last s

-- the first try that may start was started
pub record Starts (old new : Cored) (s : Started) : Type 0 where
  pub is : IsStart old s
  pub history : new.history ≡ record { moment = old.last; event = Event.Start (start_of s) } ∷ old.history
  pub last : new.last ≡ old.last
  pub limit : new.limit ≡ old.limit
  pub sound : Sound new
