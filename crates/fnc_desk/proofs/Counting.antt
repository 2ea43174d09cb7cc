-- Each line that is taken gives one input entry, and in mode Live it is no exit.
use Rattle.std.proofs.Common.{ℕ, List, ◌∷◌, ◌++◌, Bool, true, false, ◌≡◌, ◌+◌, cond, ◌⊎◌, inl, inr, refl, ap, sym, ◌∙◌, subst, Option, Some, None, Result, Ok, Err, nat_le, nat_lt, length}
use Rattle.std.specs.Prelude.{IfOk, unwrap_or}
use Rattle.fnc_journal.specs.declared.cause.Cause.{Cause}
use Rattle.fnc_journal.specs.declared.definition.Definition.{Definition}
use Rattle.fnc_journal.specs.declared.definition.Description.{Description}
use Rattle.fnc_journal.specs.declared.entry.Entry.{Entry}
use Rattle.fnc_journal.specs.declared.entry.Exit.{Exit}
use Rattle.fnc_journal.specs.declared.entry.LevelTarget.{LevelTarget}
use Rattle.fnc_journal.specs.declared.entry.Run.{Run}
use Rattle.fnc_journal.specs.declared.event.Event.{Event}
use Rattle.fnc_journal.specs.declared.plan.Plan.{Plan}
use Rattle.fnc_journal.specs.History.{History}
use Rattle.fnc_journal.specs.Found.{is_input}
use Rattle.fnc_journal.specs.Levels.{has_level}
use Rattle.fnc_journal.specs.Owed.{owed}
use Rattle.fnc_journal.specs.Registered.{current}
use Rattle.fnc_journal.specs.Startable.{is_alive}
use Rattle.fnc_outside.specs.Events.{Happening}
use Rattle.fnc_agent_api.specs.Descriptions.{described}
use Rattle.fnc_agent_api.specs.declared.description.DescribeFault.{DescribeFault}
use Rattle.fnc_command.proofs.ProperLines.{said-proper}
use Rattle.fnc_command.specs.declared.command.Command.{Command}
use Rattle.fnc_command.specs.declared.command.Mode.{Mode}
use Rattle.fnc_command.specs.declared.command.Read.{Read}
use Rattle.fnc_command.specs.Lines.{said}
use Rattle.fnc_command.specs.Proper.{IsProper}
use Rattle.fnc_config.specs.Causes as Configuring
use Rattle.fnc_config.specs.Configured.{configured}
use Rattle.fnc_config.specs.declared.faults.AgentFault.{AgentFault}
use Rattle.fnc_config.specs.declared.faults.LevelFault.{LevelFault}
use Rattle.fnc_config.specs.declared.faults.RegisterFault.{RegisterFault}
use Rattle.fnc_core.proofs.Following.{entered-answered, entered-history}
use Rattle.fnc_core.specs.Cored.{Cored, Enters, ask_event, ask_need, lead_in, next_of}
use Rattle.fnc_core.specs.declared.change.Ask.{Ask}
use Rattle.fnc_device.specs.Definitions.{define}
use Rattle.fnc_device.specs.declared.fault.DefineFault.{DefineFault}
use Rattle.fnc_desk.specs.Agents.{agent_of, description_of}
use Rattle.fnc_desk.specs.Called.{
  Called,
  CallsFor,
  agent_called,
  ask_called,
  exit_called,
  exit_event,
  level_called,
  plan_of,
  registered,
  remove_called,
  unlevel_called,
}
use Rattle.fnc_desk.specs.declared.entering.Given.{Given}
use Rattle.fnc_desk.specs.Entered.{TakesLine}
use Rattle.fnc_desk.specs.Inputs.{
  Gives,
  GivesCommand,
  GivesIfPast,
  GivesRead,
  ends_run,
  entry_of,
  given_in,
  inputs,
  is_exit,
  is_of_line,
  moment_in,
  moment_of_line,
  refused,
}
use Rattle.fnc_desk.proofs.Replied.{inputs-replied}

-- an input, and no exit
pub record Quiet (event : Event) : Type 0 where
  pub input : is_input event ≡ true
  pub no_exit : is_exit event ≡ false

-- what is called for is an input, and no exit
abbrev pub IsQuiet : Called → Type 0
IsQuiet (Ok event) = Quiet event
IsQuiet (Err cause) = Unit {0}

-- what is called for is an input
abbrev pub IsInput : Called → Type 0
IsInput (Ok event) = is_input event ≡ true
IsInput (Err cause) = Unit {0}

device-quiet : (h : History) (name agent : List ℕ) (d : Result Definition DefineFault) (full : Option RegisterFault) →
    IsQuiet (registered h name agent d full)
device-quiet h name agent (Err fault) full = tt
device-quiet h name agent (Ok d) (Some fault) = tt
device-quiet h name agent (Ok d) None = record { input = refl; no_exit = refl }

remove-quiet : (reg : Option ℕ) → IsQuiet (remove_called reg)
remove-quiet None = tt
remove-quiet (Some reg) = record { input = refl; no_exit = refl }

level-quiet : (target : LevelTarget) (index : ℕ) (devices : List (List ℕ)) (full : Option LevelFault) →
    IsQuiet (level_called target index devices full)
level-quiet target index devices (Some fault) = tt
level-quiet target index devices None = record { input = refl; no_exit = refl }

unlevel-quiet : (target : LevelTarget) (index : ℕ) (b : Bool) → IsQuiet (unlevel_called target index b)
unlevel-quiet target index false = tt
unlevel-quiet target index true = record { input = refl; no_exit = refl }

agent-quiet : (name : List ℕ) (d : Result Description DescribeFault) (full : Option AgentFault) →
    IsQuiet (agent_called name d full)
agent-quiet name (Err fault) full = tt
agent-quiet name (Ok d) (Some fault) = tt
agent-quiet name (Ok d) None = record { input = refl; no_exit = refl }

ask-quiet : (v : Cored) (a : Ask) (p : Plan) → IsQuiet (ask_called v a p)
ask-quiet v a p = go (nat_le (length v.history + owed v.history + ask_need v a p) v.limit)
  where
    go : (b : Bool) →
        IsQuiet (cond b (Ok (ask_event (next_of v) (lead_in v.history v.last a (next_of v)) a p)) (Err Cause.Full))
    go true = record { input = refl; no_exit = refl }
    go false = tt

-- any command but `exit` calls for an input that is no exit
pub quiet-called : (v : Cored) (coin : ℕ) (command : Command) (called : Called) → ends_run command ≡ false →
    CallsFor v coin command called → IsQuiet called
quiet-called v coin (Command.Device name agent options) called q c =
    subst IsQuiet (sym c) (device-quiet v.history name (agent_of agent)
    (define options (description_of (agent_of agent) v.history)) (Configuring.register_cause name (configured v.history)))
quiet-called v coin (Command.Remove name) called q c =
    subst IsQuiet (sym c) (remove-quiet (current name v.history))
quiet-called v coin (Command.Level target index devices) called q c =
    subst IsQuiet (sym c) (level-quiet target index devices
    (Configuring.level_cause target index devices (configured v.history)))
quiet-called v coin (Command.Unlevel target index) called q c =
    subst IsQuiet (sym c) (unlevel-quiet target index (has_level target index v.history))
quiet-called v coin (Command.Agent name json) called q c =
    subst IsQuiet (sym c) (agent-quiet name (described json) (Configuring.agent_cause name (configured v.history)))
quiet-called v coin (Command.Ask client kind target total own) called q c =
    let a : Ask = record { client = client; kind = kind; target = target; total = total; coin = unwrap_or own coin } in
    subst IsQuiet (sym c.called_is) (ask-quiet v a (plan_of v a c.scope))
quiet-called v coin (Command.Exit run exit output) called q c = cc
quiet-called v coin Command.Pass called q c = subst IsQuiet (sym c) (record { input = refl; no_exit = refl })
quiet-called v coin (Command.Confirm client target) called q c =
    subst IsQuiet (sym c) (record { input = refl; no_exit = refl })

-- the exit of a run is an input too
exit-input : (run : Run) (exit : Exit) (output : List ℕ) (h : History) → IsInput (exit_called run exit output h)
exit-input run exit output h = go (is_alive run.0 h)
  where
    go : (b : Bool) → IsInput (cond b (Ok (exit_event run exit output h)) (Err Cause.UnknownRun))
    go true = refl
    go false = tt

-- whether what stands in place of what is called for is given by a line of the mode
entry-of_line : (mode : Mode) (m n : ℕ) (called : Called) → IsQuiet called →
    is_of_line mode (entry_of m n called).event ≡ true
entry-of_line Mode.Timed m n (Ok event) q = q.input
entry-of_line Mode.Timed m n (Err cause) q = refl
entry-of_line Mode.Live m n (Ok event) q = rw (q.input, q.no_exit) refl
entry-of_line Mode.Live m n (Err cause) q = refl

refused-of_line : (mode : Mode) (m n : ℕ) (cause : Cause) → is_of_line mode (refused m n cause).event ≡ true
refused-of_line Mode.Timed m n cause = refl
refused-of_line Mode.Live m n cause = refl

exit-of_line : (m n : ℕ) (called : Called) → IsInput called → is_of_line Mode.Timed (entry_of m n called).event ≡ true
exit-of_line m n (Ok event) i = i
exit-of_line m n (Err cause) i = refl

-- no line of mode Live tells of an exit
command-of_line : (mode : Mode) (v : Cored) (coin n : ℕ) (read : Read) (e : Entry) → IsProper mode read →
    GivesCommand v coin read.command n e → is_of_line mode e.event ≡ true
command-of_line mode v coin n read e p g = go mode read.command refl p.1 g.calls
  where
    at : (is_of_line mode (entry_of v.last n g.called).event ≡ true) → is_of_line mode e.event ≡ true
    at k = ap (λ (d : Entry). is_of_line mode d.event) g.is ∙ k

    go : (k : Mode) (command : Command) → k ≡ mode → Rattle.fnc_command.specs.Proper.IsProperCommand k command →
        CallsFor v coin command g.called → is_of_line mode e.event ≡ true
    go Mode.Timed (Command.Exit run exit output) q proper calls =
        at (subst (λ (x : Mode). is_of_line x (entry_of v.last n g.called).event ≡ true) q
        (exit-of_line v.last n g.called (subst IsInput (sym calls) (exit-input run exit output v.history))))
    go Mode.Live (Command.Exit run exit output) q proper calls = absurd proper.0
    go k command q proper calls = at (entry-of_line mode v.last n g.called (quiet-called v coin command g.called refl calls))

read-of_line : (mode : Mode) (given : Given) (line : Result Read Cause) (h : History) (last limit n : ℕ) (e : Entry) →
    IfOk line (IsProper mode) → GivesRead given line h last limit n e → is_of_line mode e.event ≡ true
read-of_line mode given (Err cause) h last limit n e p g =
    ap (λ (d : Entry). is_of_line mode d.event) g ∙ refused-of_line mode last n cause
read-of_line mode given (Ok read) h last limit n e p g = go (nat_lt (moment_in given read) last) g
  where
    go : (b : Bool) → GivesIfPast b given read h last limit n e → is_of_line mode e.event ≡ true
    go true k = ap (λ (d : Entry). is_of_line mode d.event) k ∙ refused-of_line mode last n Cause.PastMoment
    go false k =
        command-of_line mode (record { history = h; last = moment_in given read; limit = limit }) given.coin n read e p k

-- what a line gives is an input, and in mode Live no exit
pub given-of_line : (mode : Mode) (given : Given) (x : Happening) (h : History) (last limit n : ℕ) (e : Entry) →
    Gives mode given x h last limit n e → is_of_line mode e.event ≡ true
given-of_line mode given (Happening.Line bytes) h last limit n e (inl g) =
    read-of_line mode (given_in mode given) (said mode bytes) h last limit n e (said-proper mode bytes) g
given-of_line mode given (Happening.Line bytes) h last limit n e (inr g) = go g.is
  where
    named : (m : ℕ) → e ≡ refused m n Cause.NoMemory → is_of_line mode e.event ≡ true
    named m k = ap (λ (d : Entry). is_of_line mode d.event) k ∙ refused-of_line mode m n Cause.NoMemory

    later : ℕ
    later = moment_of_line (given_in mode given) (said mode bytes) last

    go : (e ≡ refused last n Cause.NoMemory) ⊎ (e ≡ refused later n Cause.NoMemory) → is_of_line mode e.event ≡ true
    go (inl k) = named last k
    go (inr k) = named later k
given-of_line mode given (Happening.TooLong size) h last limit n e g =
    ap (λ (d : Entry). is_of_line mode d.event) g ∙ refused-of_line mode last n Cause.TooLong
given-of_line mode given Happening.Again h last limit n e g = absurd g

-- so there is one input more
entered-counted : (mode : Mode) (old new : Cored) (e : Entry) (need : ℕ) → is_of_line mode e.event ≡ true →
    Enters old new e.moment e.event need → inputs mode new.history ≡ inputs mode old.history + 1
entered-counted mode old new e need is n =
    ap (inputs mode) (entered-history n)
    ∙ inputs-replied e.moment n.follows.replies (e ∷ (n.advances.advance ++ old.history)) (entered-answered n) mode
    ∙ rw is (ap (λ k. k + 1) (inputs-replied e.moment n.advances.advance old.history n.advances.at_once mode))

pub line-counted : (mode : Mode) (given : Given) (x : Happening) (old new : Cored) → TakesLine mode given x old new →
    inputs mode new.history ≡ inputs mode old.history + 1
line-counted mode given x old new t =
    entered-counted mode old new t.entry t.need
    (given-of_line mode given x (t.enters.advances.advance ++ old.history) old.last old.limit _ t.entry t.is) t.enters
