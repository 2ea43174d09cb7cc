-- A command that is denied has changed nothing, and is denied for the cause that it calls for, or for want of memory.
use Rattle.std.proofs.Common.{
  ◌≡◌,
  List,
  ℕ,
  Bool,
  true,
  false,
  refl,
  ap,
  sym,
  ◌∙◌,
  inr,
  Option,
  None,
  Result,
  Ok,
  Err,
}
use Rattle.std.specs.Prelude.{IfErr}
use Rattle.std.specs.Result.{IsErrAnd}
use Rattle.fnc_journal.specs.declared.cause.Cause.{Cause}
use Rattle.fnc_journal.specs.declared.entry.Exit.{Exit}
use Rattle.fnc_journal.specs.declared.entry.Run.{Run}
use Rattle.fnc_journal.specs.History.{History}
use Rattle.fnc_journal.specs.Lawful.{Lawful}
use Rattle.fnc_journal.specs.Registered.{current}
use Rattle.fnc_journal.specs.Startable.{is_alive}
use Rattle.fnc_command.specs.declared.command.Command.{Command}
use Rattle.fnc_config.specs.Configured.{Configured, configured, number_of}
use Rattle.fnc_config.proofs.Configurations.{numbers-current}
use Rattle.fnc_core.specs.Cored.{Cored}
use Rattle.fnc_desk.specs.Called.{CallsFor, exit_called}
use Rattle.fnc_desk.specs.Obeyed.{Denies, Refuses}
use Rattle.fnc_desk.specs.declared.denial.Denial.{Denial}

-- what would be wrong does not hold
pub not-so : (b : Bool) → (b ≡ true → false ≡ true) → b ≡ false
not-so true f = let wrong : false ≡ true = f refl in cc
not-so false f = refl

-- a run that is not alive
pub refuses-unknown : (old new : Cored) (run : Run) (exit : Exit) (output : List ℕ) (r : Result (Unit {0}) Denial) →
    new ≡ old → is_alive run.0 old.history ≡ false → IsErrAnd r (λ d. d.cause ≡ Cause.UnknownRun) →
    IfErr r (Refuses (λ called. called ≡ exit_called run exit output old.history) old new)
refuses-unknown old new run exit output (Ok u) same dead is = tt
refuses-unknown old new run exit output (Err denial) same dead is = (same, rw (dead, is) refl)

-- the registration that a configuration has of a name is the current one
pub registered-current : (c : Configured) (h : History) (name text : List ℕ) (n : Option ℕ) → c ≡ configured h →
    Lawful h → text ≡ name → number_of text c.devices ≡ n → current name h ≡ n
registered-current c h name text n same lawful is found =
    sym (numbers-current name h lawful)
    ∙ sym (ap (λ (d : Configured). number_of name d.devices) same)
    ∙ sym (ap (λ (t : List ℕ). number_of t c.devices) is)
    ∙ found

-- a name that is not registered
pub denies-unregistered : (old new : Cored) (name : List ℕ) (r : Result (Unit {0}) Denial) → new ≡ old →
    current name old.history ≡ None → IsErrAnd r (λ d. d.cause ≡ Cause.NotRegistered) →
    IfErr r (Denies (CallsFor old 0 (Command.Remove name)) old new)
denies-unregistered old new name (Ok u) same none is = tt
denies-unregistered old new name (Err denial) same none is = (same, inr (rw (none, is) refl))
