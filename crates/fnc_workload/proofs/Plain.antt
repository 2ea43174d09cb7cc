-- The journal of a workload has no confirmation, and its devices are plain: each input is what a made line says.
use Rattle.std.proofs.Common.{ℕ, List, [], ◌∷◌, Bool, true, false, ◌≡◌, cond, refl, sym, subst, Option, Some, None, Result, Ok, Err, IfOk, inl, inr}
use Rattle.std.specs.Prelude.{◌⊎◌, length, nat_lt}
use Rattle.std.specs.List.{AllByRecursion}
use Rattle.fnc_journal.specs.declared.cause.Cause.{Cause}
use Rattle.fnc_journal.specs.declared.definition.Definition.{Definition}
use Rattle.fnc_journal.specs.declared.definition.Description.{Description}
use Rattle.fnc_journal.specs.declared.entry.Entry.{Entry}
use Rattle.fnc_journal.specs.declared.entry.LevelTarget.{LevelTarget}
use Rattle.fnc_journal.specs.declared.event.Event.{Event}
use Rattle.fnc_journal.specs.History.{History}
use Rattle.fnc_journal.specs.Found.{is_input}
use Rattle.fnc_journal.proofs.Each.{each-map}
use Rattle.fnc_outside.specs.Events.{Happening}
use Rattle.fnc_agent_api.specs.declared.description.DescribeFault.{DescribeFault}
use Rattle.fnc_config.specs.Causes as Configuring
use Rattle.fnc_config.specs.Configured.{configured}
use Rattle.fnc_config.specs.declared.faults.AgentFault.{AgentFault}
use Rattle.fnc_config.specs.declared.faults.LevelFault.{LevelFault}
use Rattle.fnc_config.specs.declared.faults.RegisterFault.{RegisterFault}
use Rattle.fnc_device.specs.Definitions.{define}
use Rattle.fnc_device.specs.declared.fault.DefineFault.{DefineFault}
use Rattle.fnc_command.specs.declared.command.Command.{Command}
use Rattle.fnc_command.specs.declared.command.Mode.{Mode}
use Rattle.fnc_command.specs.declared.command.Read.{Read}
use Rattle.fnc_command.specs.Lines.{said}
use Rattle.fnc_answered.specs.Done.{Unconfirmed, is_confirmation}
use Rattle.fnc_answered.specs.Plain.{PlainDefinition, PlainDevices, PlainEvent}
use Rattle.fnc_core.specs.Cored.{Cored}
use Rattle.fnc_desk.specs.Agents.{agent_of, description_of}
use Rattle.fnc_desk.specs.Called.{Called, CallsFor, agent_called, level_called, registered, remove_called, unlevel_called}
use Rattle.fnc_desk.specs.Inputs.{GivesIfPast, GivesLine, GivesRead, entry_of, moment_in, moment_of_line, refused}
use Rattle.fnc_desk.specs.Lines.{AreLines, GivesNext, IsOfLine}
use Rattle.fnc_desk.specs.declared.entering.Given.{Given}
use Rattle.fnc_replay.specs.Timed.{timed}
use Rattle.fnc_made.specs.Made.{made_text}
use Rattle.fnc_made.specs.Plain.{PlainCommand, PlainRead}
use Rattle.fnc_made.specs.declared.made.Made.{Made}
use Rattle.fnc_workload.specs.Lines.{AreMade, Course, and_then, made_lines, next_line}
use Rattle.fnc_workload.specs.declared.making.Next.{Next}

-- an entry that is no confirmation, and of which a device is plain
abbrev IsPlain : Event → Type 0
IsPlain event = PlainEvent event × (is_confirmation event ≡ false)

abbrev CallsPlain : Called → Type 0
CallsPlain called = IfOk called IsPlain

registered-plain : (h : History) (name agent : List ℕ) (d : Result Definition DefineFault)
    (full : Option RegisterFault) → IfOk d PlainDefinition → CallsPlain (registered h name agent d full)
registered-plain h name agent (Err fault) full k = tt
registered-plain h name agent (Ok d) (Some fault) k = tt
registered-plain h name agent (Ok d) None k = (k, refl)

remove-plain : (reg : Option ℕ) → CallsPlain (remove_called reg)
remove-plain None = tt
remove-plain (Some reg) = (tt, refl)

level-plain : (target : LevelTarget) (index : ℕ) (devices : List (List ℕ)) (fault : Option LevelFault) →
    CallsPlain (level_called target index devices fault)
level-plain target index devices (Some fault) = tt
level-plain target index devices None = (tt, refl)

unlevel-plain : (target : LevelTarget) (index : ℕ) (there : Bool) → CallsPlain (unlevel_called target index there)
unlevel-plain target index false = tt
unlevel-plain target index true = (tt, refl)

agent-plain : (name : List ℕ) (d : Result Description DescribeFault) (fault : Option AgentFault) →
    CallsPlain (agent_called name d fault)
agent-plain name (Err fault) full = tt
agent-plain name (Ok d) (Some fault) = tt
agent-plain name (Ok d) None = (tt, refl)

-- one of two that are chosen by a test
chosen : (b : Bool) (event : Event) (cause : Cause) → IsPlain event → CallsPlain (cond b (Ok event) (Err cause))
chosen true event cause k = k
chosen false event cause k = tt

-- a plain command calls for a plain entry
calls-plain : (v : Cored) (coin : ℕ) (command : Command) (called : Called) → PlainCommand command →
    CallsFor v coin command called → CallsPlain called
calls-plain v coin (Command.Device name agent options) called p k =
    let description = description_of (agent_of agent) v.history in
    subst CallsPlain (sym k)
    (registered-plain v.history name (agent_of agent) (define options description)
    (Configuring.register_cause name (configured v.history)) (p description))
calls-plain v coin (Command.Remove name) called p k = subst CallsPlain (sym k) (remove-plain _)
calls-plain v coin (Command.Level target index devices) called p k =
    subst CallsPlain (sym k) (level-plain target index devices _)
calls-plain v coin (Command.Unlevel target index) called p k = subst CallsPlain (sym k) (unlevel-plain target index _)
calls-plain v coin (Command.Agent name json) called p k = subst CallsPlain (sym k) (agent-plain name _ _)
calls-plain v coin (Command.Ask client kind target total own) called p k =
    subst CallsPlain (sym k.called_is) (chosen _ _ _ (tt, refl))
calls-plain v coin (Command.Exit run exit output) called p k = subst CallsPlain (sym k) (chosen _ _ _ (tt, refl))
calls-plain v coin Command.Pass called p k = subst CallsPlain (sym k) (tt, refl)
calls-plain v coin (Command.Confirm client target) called p k = absurd p

refused-plain : (m number : ℕ) (cause : Cause) (e : Entry) → e ≡ refused m number cause → IsPlain e.event
refused-plain m number cause e q = subst (λ (x : Entry). IsPlain x.event) (sym q) (tt, refl)

entry-plain : (m number : ℕ) (called : Called) (e : Entry) → e ≡ entry_of m number called → CallsPlain called →
    IsPlain e.event
entry-plain m number (Ok event) e q k = subst (λ (x : Entry). IsPlain x.event) (sym q) k
entry-plain m number (Err cause) e q k = refused-plain m number cause e q

-- what a plain line gives is plain
read-plain : (given : Given) (line : Result Read Cause) (h : History) (last limit number : ℕ) (e : Entry) →
    PlainRead line → GivesRead given line h last limit number e → IsPlain e.event
read-plain given (Err cause) h last limit number e p g = refused-plain last number cause e g
read-plain given (Ok read) h last limit number e p g = go (nat_lt (moment_in given read) last) g
  where
    go : (past : Bool) → GivesIfPast past given read h last limit number e → IsPlain e.event
    go true g = refused-plain last number Cause.PastMoment e g
    go false g =
        entry-plain (moment_in given read) number g.called e g.is
        (calls-plain (record { history = h; last = moment_in given read; limit = limit }) given.coin read.command g.called
        p g.calls)

line-plain : (given : Given) (line : Result Read Cause) (h : History) (last limit number : ℕ) (e : Entry) →
    PlainRead line → GivesLine given line h last limit number e → IsPlain e.event
line-plain given line h last limit number e p (inl g) = read-plain given line h last limit number e p g
line-plain given line h last limit number e p (inr lacks) = go lacks.is
  where
    go : (e ≡ refused last number Cause.NoMemory) ⊎ (e ≡ refused (moment_of_line given line last) number Cause.NoMemory) →
        IsPlain e.event
    go (inl q) = refused-plain last number Cause.NoMemory e q
    go (inr q) = refused-plain (moment_of_line given line last) number Cause.NoMemory e q

-- what the fencer does is plain
output-plain : (event : Event) → is_input event ≡ false → IsPlain event
output-plain (Event.Start start) q = (tt, refl)
output-plain (Event.Reply reply) q = (tt, refl)
output-plain _ q = cc

-- a line that a workload makes
record IsMadeLine (x : Happening) : Type 0 where
  line : Made
  is : x ≡ Happening.Line (made_text line)

lines-made : (c : Course) (h : History) → AllByRecursion IsMadeLine (made_lines c h)
lines-made c [] = tt
lines-made c (e ∷ before) = go (is_input e.event) (next_line c before) (lines-made c before)
  where
    go : (b : Bool) (n : Option Next) → AllByRecursion IsMadeLine (made_lines c before) →
        AllByRecursion IsMadeLine (cond b (and_then n (made_lines c before)) (made_lines c before))
    go true None a = a
    go true (Some n) a = (record { line = n.line; is = refl }, a)
    go false n a = a

module _ (limit : ℕ) (law : (m : Made) → PlainRead (said Mode.Timed (made_text m))) where
  made-line-plain : (n : ℕ) (x : Happening) (h : History) (e : Entry) → IsMadeLine x →
      GivesNext (timed limit) n x h e → IsPlain e.event
  made-line-plain n x h e made g = go (subst (λ (y : Happening). GivesNext (timed limit) n y h e) made.is g)
    where
      go : GivesNext (timed limit) n (Happening.Line (made_text made.line)) h e → IsPlain e.event
      go g = line-plain _ _ h _ _ _ e (law made.line) g

  all-plain : (h : History) (lines : List Happening) → AllByRecursion IsMadeLine lines →
      AreLines (timed limit) h lines → AllByRecursion (λ e. IsPlain e.event) h
  all-plain [] lines a l = tt
  all-plain (e ∷ before) lines a l = go (is_input e.event) refl lines a l (λ xs b m. all-plain before xs b m)
    where
      go : (b : Bool) → is_input e.event ≡ b → (xs : List Happening) → AllByRecursion IsMadeLine xs →
          IsOfLine b (timed limit) xs e before (AreLines (timed limit) before) →
          ((ys : List Happening) → AllByRecursion IsMadeLine ys → AreLines (timed limit) before ys →
          AllByRecursion (λ e. IsPlain e.event) before) →
          AllByRecursion (λ e. IsPlain e.event) (e ∷ before)
      go false q xs a l rest = (output-plain e.event q, rest xs a l)
      go true q [] a l rest = absurd l
      go true q (x ∷ xs) a l rest = (made-line-plain (length xs) x before e a.0 l.0, rest xs a.1 l.1)

module _ (law : (m : Made) → PlainRead (said Mode.Timed (made_text m))) (c : Course) (v : Cored) (made : AreMade c v) where
  entries-plain : AllByRecursion (λ e. IsPlain e.event) v.history
  entries-plain = all-plain v.limit law v.history (made_lines c v.history) (lines-made c v.history) made

  -- its devices are plain
  pub devices-plain : PlainDevices v.history
  devices-plain = each-map _ _ v.history (λ e k. k.0) entries-plain

  -- and it has no confirmation
  pub unconfirmed : Unconfirmed v.history
  unconfirmed = each-map _ _ v.history (λ e k. k.1) entries-plain
