-- The entries of a journal, written as the journal's own text has them: the moment, then what happened.
use Prim.Native.String.{String as Quoted}
use Rattle.std.specs.Prelude.{ℕ, List, [], Bool, None, codes, map, reverse}
use Rattle.fnc_journal.specs.declared.cause.Cause.{Cause}
use Rattle.fnc_journal.specs.declared.definition.Actions.{Actions}
use Rattle.fnc_journal.specs.declared.definition.Definition.{Definition}
use Rattle.fnc_journal.specs.declared.entry.Answer.{Answer}
use Rattle.fnc_journal.specs.declared.entry.Entry.{Entry}
use Rattle.fnc_journal.specs.declared.event.Event.{Event}
use Rattle.fnc_journal.specs.declared.entry.Exit.{Exit}
use Rattle.fnc_journal.specs.declared.entry.Kind.{Kind}
use Rattle.fnc_journal.specs.declared.entry.LevelTarget.{LevelTarget}
use Rattle.fnc_journal.specs.declared.entry.Phase.{Phase}
use Rattle.fnc_journal.specs.declared.entry.Scope.{Scope}
use Rattle.fnc_journal.specs.History.{History}

infix 70 ◌▸◌
-- what happened at a moment
abbrev pub ◌▸◌ : ℕ → Event → Entry
m ▸ event = record { moment = m; event = event }

-- the journal of these entries, of which the oldest is written first
abbrev pub journal : List Entry → History
journal entries = reverse entries

-- `device REG NAME` and the definition
abbrev pub device : ℕ → Quoted → Definition → Event
device reg name definition =
    Event.Device (record {
      reg = record { 0 = reg };
      registration = record { name = codes name; agent = codes "fence_model"; definition = definition };
    })

-- `gone REG`
abbrev pub gone : ℕ → Event
gone reg = Event.Gone (record { 0 = reg })

-- the node of this name
abbrev pub name : Quoted → LevelTarget
name text = LevelTarget.Name (codes text)

-- the nodes that a pattern matches
abbrev pub pattern : Quoted → LevelTarget
pattern text = LevelTarget.Pattern (codes text)

-- `level INDEX TARGET DEVICES`
abbrev pub level : ℕ → LevelTarget → List Quoted → Event
level index target devices = Event.Level (record { target = target; index = index; devices = map codes devices })

-- `unlevel INDEX TARGET`
abbrev pub unlevel : ℕ → LevelTarget → Event
unlevel index target = Event.LevelGone (record { target = target; index = index })

-- `agent NAME` with these actions and no parameters
abbrev pub agent : Quoted → Actions → Event
agent name actions =
    Event.Agent (record {
      name = codes name;
      description = record { actions = actions; parameters = []; target = None };
    })

-- `ask REQ LEAD CLIENT KIND TARGET TOTAL COIN SCOPE`
abbrev pub ask : ℕ → ℕ → Quoted → Kind → Quoted → ℕ → ℕ → Scope → Event
ask req lead client kind target total coin scope =
    Event.Ask (record {
      req = record { 0 = req };
      lead = record { 0 = lead };
      client = codes client;
      kind = kind;
      target = codes target;
      total = total;
      coin = coin;
      scope = scope;
    })

-- `exit RUN CODE LISTED`
abbrev pub exit : ℕ → ℕ → Bool → Event
exit run code listed = Event.Exit (record { run = record { 0 = run }; exit = Exit.Code code; listed = listed })

-- `pass`
abbrev pub pass : Event
pass = Event.Pass

-- `confirm CLIENT TARGET`
abbrev pub confirm : Quoted → Quoted → Event
confirm client target = Event.Confirm (record { client = codes client; target = codes target })

-- `refused LINE CAUSE`
abbrev pub refused : ℕ → Cause → Event
refused line cause = Event.Refused (record { line = line; cause = cause })

-- `start RUN REQ PHASE LEVEL PLACE REG KIND ATTEMPT`
abbrev pub start : ℕ → ℕ → Phase → ℕ → ℕ → ℕ → Kind → ℕ → Event
start run req phase level place reg kind attempt =
    Event.Start (record {
      run = record { 0 = run };
      req = record { 0 = req };
      slot = record { phase = phase; level = level; place = place };
      reg = record { 0 = reg };
      kind = kind;
      attempt = attempt;
    })

-- `reply REQ ANSWER`
abbrev pub reply : ℕ → Answer → Event
reply req answer = Event.Reply (record { req = record { 0 = req }; answer = answer })
