-- What a line gives as it was read: an exit by its own reader, any other line as a command, or the cause of neither.
use Rattle.std.proofs.Common.{
  ℕ,
  List,
  ◌≡◌,
  refl,
  ap,
  sym,
  ◌∙◌,
  subst,
  inl,
  inr,
  ◌⊎◌,
  Option,
  Some,
  None,
  Result,
  Ok,
  Err,
}
use Rattle.std.specs.Prelude.{OnOk, IfErr, IfOk, MatchOption}
use Rattle.fnc_journal.specs.declared.cause.Cause.{Cause}
use Rattle.fnc_journal.specs.declared.entry.Entry.{Entry}
use Rattle.fnc_journal.specs.declared.outcome.Full.{Full}
use Rattle.fnc_journal.specs.History.{History}
use Rattle.fnc_command.specs.declared.command.Command.{Command}
use Rattle.fnc_command.specs.declared.command.ExitRead.{ExitRead}
use Rattle.fnc_command.specs.declared.command.Mode.{Mode}
use Rattle.fnc_command.specs.declared.command.Read.{Read}
use Rattle.fnc_command.specs.Lines.{exit_at, exit_said, said}
use Rattle.fnc_command.specs.Proper.{IsProper, IsProperMoment}
use Rattle.fnc_command.proofs.ProperLines.{said-proper}
use Rattle.fnc_core.specs.Cored.{Cored}
use Rattle.fnc_desk.specs.declared.entering.Given.{Given}
use Rattle.fnc_desk.specs.Entered.{Lacks, Takes}
use Rattle.fnc_desk.specs.Inputs.{GivesLine, GivesRead, given_in, read_of, refused}
use Rattle.fnc_desk.proofs.LineEntries.{exit-read, reads}
use Rattle.fnc_desk.proofs.Taking.{lacks-as, takes-as}

-- what is none of its cases is none
pub none-found : {A : Type 0} (r : Option ExitRead) (B : ExitRead → Type 0) → ((x : ExitRead) → r ≡ Some x → ⊥) →
    MatchOption r A B → A
none-found (Some x) B never m = absurd (never x refl)
none-found None B never m = m

-- in mode Live no line is an exit that says its moment
unsaid : (command : Command) (moment : Option ℕ) → IsProperMoment Mode.Live moment → exit_at command moment ≡ None
unsaid command (Some m) p = absurd p
unsaid (Command.Exit run exit output) None p = refl
unsaid (Command.Device name agent options) None p = refl
unsaid (Command.Remove name) None p = refl
unsaid (Command.Level target index devices) None p = refl
unsaid (Command.Unlevel target index) None p = refl
unsaid (Command.Agent name json) None p = refl
unsaid (Command.Ask client kind target total coin) None p = refl
unsaid Command.Pass None p = refl
unsaid (Command.Confirm client target) None p = refl

pub unsaid-live : (mode : Mode) (line : List ℕ) → (mode ≡ Mode.Timed → ⊥) → exit_said (said mode line) ≡ None
unsaid-live Mode.Timed line never = absurd (never refl)
unsaid-live Mode.Live line never = go (said Mode.Live line) (said-proper Mode.Live line)
  where
    go : (r : Result Read Cause) → IfOk r (IsProper Mode.Live) → exit_said r ≡ None
    go (Err cause) p = refl
    go (Ok read) p = unsaid read.command read.moment p.0

module _ (old new : Cored) (mode : Mode) (given : Given) (line : List ℕ) (n : ℕ) where
  abbrev pub IsGiven : History → Entry → Type 0
  IsGiven h = GivesLine (given_in mode given) (said mode line) h old.last old.limit n

  abbrev zero : Given
  zero = record { moment = 0; coin = 0 }

  -- the exit that its own reader read
  from-exit : (exit : ExitRead) (output text : List ℕ) → mode ≡ Mode.Timed → text ≡ output →
      exit_said (said Mode.Timed line) ≡ Some (exit, output) → (h : History) (e : Entry) →
      GivesRead zero (reads (read_of exit text)) h old.last old.limit n e → IsGiven h e
  from-exit exit output text timed same is h e g =
      subst (λ m. GivesLine (given_in m given) (said m line) h old.last old.limit n e) (sym timed)
      (inl
      (subst (λ (r : Result Read Cause). GivesRead zero r h old.last old.limit n e)
      (ap (λ (t : List ℕ). reads (read_of exit t)) same ∙ sym (exit-read (said Mode.Timed line) exit output is)) g))

  pub takes-exit : (exit : ExitRead) (output text : List ℕ) (r : Result (Unit {0}) Full) → mode ≡ Mode.Timed →
      text ≡ output → exit_said (said Mode.Timed line) ≡ Some (exit, output) →
      OnOk r (Takes (λ h. GivesRead zero (reads (read_of exit text)) h old.last old.limit n) old new) →
      OnOk r (Takes IsGiven old new)
  takes-exit exit output text (Err full) timed same is t = tt
  takes-exit exit output text (Ok u) timed same is t =
      takes-as (λ h. GivesRead zero (reads (read_of exit text)) h old.last old.limit n) IsGiven old new
      (from-exit exit output text timed same is) t

  pub lacks-exit : (exit : ExitRead) (output text : List ℕ) (r : Result (Unit {0}) Full) → mode ≡ Mode.Timed →
      text ≡ output → exit_said (said Mode.Timed line) ≡ Some (exit, output) →
      IfErr r (Lacks (λ h. GivesRead zero (reads (read_of exit text)) h old.last old.limit n) old new) →
      IfErr r (Lacks IsGiven old new)
  lacks-exit exit output text (Ok u) timed same is t = tt
  lacks-exit exit output text (Err full) timed same is t =
      lacks-as (λ h. GivesRead zero (reads (read_of exit text)) h old.last old.limit n) IsGiven old new full
      (from-exit exit output text timed same is) t

  -- what was read as a command
  from-read : (read : Read) (within : Given) → within ≡ given_in mode given → said mode line ≡ reads read →
      (h : History) (e : Entry) → GivesLine within (reads read) h old.last old.limit n e → IsGiven h e
  from-read read within same is h e g =
      subst (λ (r : Result Read Cause). GivesLine (given_in mode given) r h old.last old.limit n e) (sym is)
      (subst (λ (w : Given). GivesLine w (reads read) h old.last old.limit n e) same g)

  pub takes-command : (read : Read) (within : Given) (r : Result (Unit {0}) Full) → within ≡ given_in mode given →
      said mode line ≡ reads read →
      OnOk r (Takes (λ h. GivesLine within (reads read) h old.last old.limit n) old new) →
      OnOk r (Takes IsGiven old new)
  takes-command read within (Err full) same is t = tt
  takes-command read within (Ok u) same is t =
      takes-as (λ h. GivesLine within (reads read) h old.last old.limit n) IsGiven old new
      (from-read read within same is) t

  pub lacks-command : (read : Read) (within : Given) (r : Result (Unit {0}) Full) → within ≡ given_in mode given →
      said mode line ≡ reads read →
      IfErr r (Lacks (λ h. GivesLine within (reads read) h old.last old.limit n) old new) →
      IfErr r (Lacks IsGiven old new)
  lacks-command read within (Ok u) same is t = tt
  lacks-command read within (Err full) same is t =
      lacks-as (λ h. GivesLine within (reads read) h old.last old.limit n) IsGiven old new full
      (from-read read within same is) t

  -- what was not read
  abbrev failing : Cause → Result Read Cause
  failing cause = Err cause

  from-cause : (cause : Cause) → exit_said (said mode line) ≡ None →
      (cause ≡ Cause.NoMemory) ⊎ (said mode line ≡ failing cause) → (h : History) (e : Entry) →
      e ≡ refused old.last n cause → IsGiven h e
  from-cause cause none (inl is) h e k =
      inr (record { no_exit = none; is = inl (k ∙ ap (refused old.last n) is) })
  from-cause cause none (inr is) h e k =
      inl (subst (λ (r : Result Read Cause). GivesRead (given_in mode given) r h old.last old.limit n e) (sym is) k)

  pub takes-cause : (cause : Cause) (r : Result (Unit {0}) Full) → exit_said (said mode line) ≡ None →
      (cause ≡ Cause.NoMemory) ⊎ (said mode line ≡ failing cause) →
      OnOk r (Takes (λ h e. e ≡ refused old.last n cause) old new) → OnOk r (Takes IsGiven old new)
  takes-cause cause (Err full) none is t = tt
  takes-cause cause (Ok u) none is t =
      takes-as (λ h e. e ≡ refused old.last n cause) IsGiven old new (from-cause cause none is) t

  pub lacks-cause : (cause : Cause) (r : Result (Unit {0}) Full) → exit_said (said mode line) ≡ None →
      (cause ≡ Cause.NoMemory) ⊎ (said mode line ≡ failing cause) →
      IfErr r (Lacks (λ h e. e ≡ refused old.last n cause) old new) → IfErr r (Lacks IsGiven old new)
  lacks-cause cause (Ok u) none is t = tt
  lacks-cause cause (Err full) none is t =
      lacks-as (λ h e. e ≡ refused old.last n cause) IsGiven old new full (from-cause cause none is) t
