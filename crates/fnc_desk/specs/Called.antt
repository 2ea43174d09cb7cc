-- What a command calls for, after what came before it: the event of its entry, or the first cause why it has none. The
-- core is seen as the command finds it, at its moment.
use Rattle.std.specs.Prelude.{ℕ, ◌≡◌, ◌+◌, List, Bool, true, false, if◌then◌else◌, length, nat_le, Option, Some, None, unwrap_or, Result, Ok, Err}
use Rattle.fnc_journal.specs.declared.cause.Cause.{Cause}
use Rattle.fnc_journal.specs.declared.definition.Definition.{Definition}
use Rattle.fnc_journal.specs.declared.definition.Description.{Description}
use Rattle.fnc_journal.specs.declared.entry.Exit.{Exit}
use Rattle.fnc_journal.specs.declared.entry.Kind.{Kind}
use Rattle.fnc_journal.specs.declared.entry.LevelTarget.{LevelTarget}
use Rattle.fnc_journal.specs.declared.entry.Run.{Run}
use Rattle.fnc_journal.specs.declared.entry.Scope.{Scope}
use Rattle.fnc_journal.specs.declared.event.Event.{Event}
use Rattle.fnc_journal.specs.declared.event.Start.{Start}
use Rattle.fnc_journal.specs.declared.names.Pair.{Pair}
use Rattle.fnc_journal.specs.declared.plan.Plan.{Plan}
use Rattle.fnc_journal.specs.History.{History}
use Rattle.fnc_journal.specs.Found.{devices, started}
use Rattle.fnc_journal.specs.Levels.{has_level}
use Rattle.fnc_journal.specs.Line.{target_of}
use Rattle.fnc_journal.specs.Owed.{owed}
use Rattle.fnc_journal.specs.Plan.{plan}
use Rattle.fnc_journal.specs.Registered.{current}
use Rattle.fnc_journal.specs.Startable.{is_alive}
use Rattle.fnc_agent_api.specs.Descriptions.{described}
use Rattle.fnc_agent_api.specs.ListOutput.{lists}
use Rattle.fnc_agent_api.specs.declared.description.DescribeFault.{DescribeFault}
use Rattle.fnc_config.specs.Causes as Configuring
use Rattle.fnc_config.specs.Configured.{configured}
use Rattle.fnc_config.specs.Scopes.{IsScopeOf}
use Rattle.fnc_config.specs.declared.faults.AgentFault.{AgentFault}
use Rattle.fnc_config.specs.declared.faults.LevelFault.{LevelFault}
use Rattle.fnc_config.specs.declared.faults.RegisterFault.{RegisterFault}
use Rattle.fnc_device.specs.Definitions.{define}
use Rattle.fnc_device.specs.declared.fault.DefineFault.{DefineFault}
use Rattle.fnc_command.specs.declared.command.Command.{Command}
use Rattle.fnc_core.specs.declared.change.Ask.{Ask}
use Rattle.fnc_core.specs.Cored.{Cored, ask_event, ask_need, lead_in, next_of}
use Rattle.fnc_desk.specs.Agents.{agent_of, description_of}
use Rattle.fnc_desk.specs.Causes.{agent_cause, define_cause, describe_cause, level_cause, register_cause}

-- an event, or the first cause why there is none
abbrev pub Called : Type 0
Called = Result Event Cause

-- a device that was defined is registered under the next number, unless too many others are
abbrev pub registered : History → List ℕ → List ℕ → Result Definition DefineFault → Option RegisterFault → Called
registered h name agent (Err fault) full = Err (define_cause fault)
registered h name agent (Ok definition) (Some fault) = Err (register_cause fault)
registered h name agent (Ok definition) None =
    Ok (Event.Device (record {
      reg = record { 0 = devices h };
      registration = record { name = name; agent = agent; definition = definition };
    }))

-- `device`
abbrev pub device_called : History → List ℕ → Option (List ℕ) → List Pair → Called
device_called h name agent options =
    registered h name (agent_of agent) (define options (description_of (agent_of agent) h))
    (Configuring.register_cause name (configured h))

-- `remove`: the current registration of the name
abbrev pub remove_called : Option ℕ → Called
remove_called None = Err Cause.NotRegistered
remove_called (Some reg) = Ok (Event.Gone (record { 0 = reg }))

-- `level`
abbrev pub level_called : LevelTarget → ℕ → List (List ℕ) → Option LevelFault → Called
level_called target index devices (Some fault) = Err (level_cause fault)
level_called target index devices None =
    Ok (Event.Level (record { target = target; index = index; devices = devices }))

-- `unlevel`
abbrev pub unlevel_called : LevelTarget → ℕ → Bool → Called
unlevel_called target index false = Err Cause.NoLevel
unlevel_called target index true = Ok (Event.LevelGone (record { target = target; index = index }))

-- `agent`
abbrev pub agent_called : List ℕ → Result Description DescribeFault → Option AgentFault → Called
agent_called name (Err fault) full = Err (describe_cause fault)
agent_called name (Ok description) (Some fault) = Err (agent_cause fault)
agent_called name (Ok description) None = Ok (Event.Agent (record { name = name; description = description }))

-- the plan of a request with a scope
abbrev pub plan_of : Cored → Ask → Scope → Plan
plan_of v a scope =
    plan (record { kind = a.kind; target = a.target; begin = v.last; scope = scope }) v.history

-- `ask`, with a plan: it has the next number, and needs room for all that it may come to
abbrev pub ask_called : Cored → Ask → Plan → Called
ask_called v a p =
    if nat_le (length v.history + owed v.history + ask_need v a p) v.limit
    then Ok (ask_event (next_of v) (lead_in v.history v.last a (next_of v)) a p)
    else Err Cause.Full

-- a request takes the levels of its scope, or candidates where no level stands for its target
pub record AsksFor (v : Cored) (a : Ask) (called : Called) : Type 0 where
  pub scope : Scope
  pub is_scope : IsScopeOf v.history a.target scope
  pub called_is : called ≡ ask_called v a (plan_of v a scope)

-- whether the output of a run names the target of its operation: that of a `list` can
abbrev pub names_target : Kind → List ℕ → List ℕ → Bool
names_target Kind.List output target = lists output target
names_target _ output target = false

-- the same of the run of a start, false where there is none
abbrev pub is_listed : Option Start → List ℕ → History → Bool
is_listed None output h = false
is_listed (Some start) output h = names_target start.kind output (target_of start.req.0 h)

-- the exit of a run
abbrev pub exit_event : Run → Exit → List ℕ → History → Event
exit_event run exit output h =
    Event.Exit (record { run = run; exit = exit; listed = is_listed (started run.0 h) output h })

-- `exit`, of a run that is alive
abbrev pub exit_called : Run → Exit → List ℕ → History → Called
exit_called run exit output h =
    if is_alive run.0 h then Ok (exit_event run exit output h) else Err Cause.UnknownRun

-- what a command calls for; a request has its own coin where its line says one
abbrev pub CallsFor : Cored → ℕ → Command → Called → Type 0
CallsFor v coin (Command.Device name agent options) called = called ≡ device_called v.history name agent options
CallsFor v coin (Command.Remove name) called = called ≡ remove_called (current name v.history)
CallsFor v coin (Command.Level target index devices) called =
    called ≡ level_called target index devices (Configuring.level_cause target index devices (configured v.history))
CallsFor v coin (Command.Unlevel target index) called =
    called ≡ unlevel_called target index (has_level target index v.history)
CallsFor v coin (Command.Agent name json) called =
    called ≡ agent_called name (described json) (Configuring.agent_cause name (configured v.history))
CallsFor v coin (Command.Ask client kind target total own) called =
    AsksFor v
    (record { client = client; kind = kind; target = target; total = total; coin = unwrap_or own coin }) called
CallsFor v coin (Command.Exit run exit output) called = called ≡ exit_called run exit output v.history
CallsFor v coin Command.Pass called = called ≡ Ok Event.Pass
CallsFor v coin (Command.Confirm client target) called =
    called ≡ Ok (Event.Confirm (record { client = client; target = target }))
