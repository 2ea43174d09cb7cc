-- What a line says that was read enters after the advance to its moment.
use Rattle.std.proofs.Common.{ℕ, ◌≡◌, ◌≤◌, ◌<◌, Bool, true, false, refl, ap, ◌∙◌, inl, inr, Option, None, Result, Ok, Err, nat_lt, max, arith}
use Rattle.std.proofs.lemmas.Bool.{ltb-false, ltb-true}
use Rattle.std.specs.Prelude.{OnOk, IfErr}
use Rattle.fnc_journal.specs.declared.cause.Cause.{Cause}
use Rattle.fnc_journal.specs.declared.entry.Entry.{Entry}
use Rattle.fnc_journal.specs.declared.outcome.Full.{Full}
use Rattle.fnc_journal.specs.History.{History}
use Rattle.fnc_command.specs.declared.command.Command.{Command}
use Rattle.fnc_command.specs.declared.command.Read.{Read}
use Rattle.fnc_command.specs.Lines.{exit_at}
use Rattle.fnc_core.specs.Cored.{Advances, Cored}
use Rattle.fnc_desk.specs.declared.entering.Given.{Given}
use Rattle.fnc_desk.specs.Entered.{Lacks, Takes}
use Rattle.fnc_desk.specs.Inputs.{GivesLine, GivesNow, GivesOther, GivesRead, ends_run, moment_in, refused}
use Rattle.fnc_desk.proofs.LineEntries.{now-given, now-moment, other-moment, past-given}
use Rattle.fnc_desk.proofs.Taking.{lacks-after, lacks-as, takes-after, takes-as}

not-past : (a b : ℕ) → b ≤ a → nat_lt a b ≡ false
not-past a b le = go (nat_lt a b) refl
  where
    go : (t : Bool) → nat_lt a b ≡ t → t ≡ false
    go true p = let less : a < b = ltb-true a b p in absurd (omega (arith, le, less))
    go false p = refl

past : (a b : ℕ) → a < b → nat_lt a b ≡ true
past a b le = go (nat_lt a b) refl
  where
    go : (t : Bool) → nat_lt a b ≡ t → t ≡ true
    go true p = refl
    go false p = let more : b ≤ a = ltb-false a b p in absurd (omega (arith, le, more))

module _ (old mid : Cored) (given : Given) (read : Read) (n : ℕ) (later : old.last ≤ moment_in given read)
    (a : Advances old mid (moment_in given read)) where
  -- what stands at the last moment then is what the line gives
  now-read : (h : History) (e : Entry) → GivesNow mid given.coin read.command n h e →
      GivesRead given (Ok read) h old.last old.limit n e
  now-read h e g =
      now-given given read mid h old.last old.limit n e a.last a.limit (not-past (moment_in given read) old.last later) g

  other-line : ends_run read.command ≡ false → (h : History) (e : Entry) →
      GivesOther mid given.coin read.command n h e → GivesLine given (Ok read) h old.last old.limit n e
  other-line other h e (inl g) = inl (now-read h e g)
  other-line other h e (inr k) = inr (record {
    no_exit = no-exit read.command read.moment other;
    is = inr (k ∙ ap (λ m. refused m n Cause.NoMemory) (a.last ∙ most));
  })
    where
      most : moment_in given read ≡ max old.last (moment_in given read)
      most = omega (arith, later)

      no-exit : (command : Command) (moment : Option ℕ) → ends_run command ≡ false → exit_at command moment ≡ None
      no-exit (Command.Exit run ended bytes) moment e = cc
      no-exit (Command.Device name agent options) moment e = refl
      no-exit (Command.Remove name) moment e = refl
      no-exit (Command.Level target index devices) moment e = refl
      no-exit (Command.Unlevel target index) moment e = refl
      no-exit (Command.Agent name json) moment e = refl
      no-exit (Command.Ask client kind target total coin) moment e = refl
      no-exit Command.Pass moment e = refl
      no-exit (Command.Confirm client target) moment e = refl

  pub takes-read : (new : Cored) (r : Result (Unit {0}) Full) →
      OnOk r (Takes (GivesNow mid given.coin read.command n) mid new) →
      OnOk r (Takes (λ h. GivesRead given (Ok read) h old.last old.limit n) old new)
  takes-read new (Err full) t = tt
  takes-read new (Ok u) t =
      takes-after (GivesNow mid given.coin read.command n) (λ h. GivesRead given (Ok read) h old.last old.limit n) old mid
      new (moment_in given read) later a (λ h e g. now-moment mid given.coin n read.command h e g ∙ a.last) now-read t

  pub lacks-read : (new : Cored) (r : Result (Unit {0}) Full) →
      IfErr r (Lacks (GivesNow mid given.coin read.command n) mid new) →
      IfErr r (Lacks (λ h. GivesRead given (Ok read) h old.last old.limit n) old new)
  lacks-read new (Ok u) t = tt
  lacks-read new (Err full) t =
      lacks-after (GivesNow mid given.coin read.command n) (λ h. GivesRead given (Ok read) h old.last old.limit n) old mid
      new full (moment_in given read) later a (λ h e g. now-moment mid given.coin n read.command h e g ∙ a.last) now-read t

  pub takes-line : ends_run read.command ≡ false → (new : Cored) (r : Result (Unit {0}) Full) →
      OnOk r (Takes (GivesOther mid given.coin read.command n) mid new) →
      OnOk r (Takes (λ h. GivesLine given (Ok read) h old.last old.limit n) old new)
  takes-line other new (Err full) t = tt
  takes-line other new (Ok u) t =
      takes-after (GivesOther mid given.coin read.command n) (λ h. GivesLine given (Ok read) h old.last old.limit n) old
      mid new (moment_in given read) later a (λ h e g. other-moment mid given.coin n read.command h e g ∙ a.last)
      (other-line other) t

  pub lacks-line : ends_run read.command ≡ false → (new : Cored) (r : Result (Unit {0}) Full) →
      IfErr r (Lacks (GivesOther mid given.coin read.command n) mid new) →
      IfErr r (Lacks (λ h. GivesLine given (Ok read) h old.last old.limit n) old new)
  lacks-line other new (Ok u) t = tt
  lacks-line other new (Err full) t =
      lacks-after (GivesOther mid given.coin read.command n) (λ h. GivesLine given (Ok read) h old.last old.limit n) old
      mid new full (moment_in given read) later a (λ h e g. other-moment mid given.coin n read.command h e g ∙ a.last)
      (other-line other) t

-- a line whose moment is past
pub past-read : (old : Cored) (given : Given) (read : Read) (n : ℕ) → moment_in given read < old.last → (h : History)
    (e : Entry) → e ≡ refused old.last n Cause.PastMoment → GivesRead given (Ok read) h old.last old.limit n e
past-read old given read n less h e k =
    past-given given read h old.last old.limit n e (past (moment_in given read) old.last less) k

pub takes-past : (old new : Cored) (given : Given) (read : Read) (n : ℕ) (r : Result (Unit {0}) Full) →
    moment_in given read < old.last → OnOk r (Takes (λ h e. e ≡ refused old.last n Cause.PastMoment) old new) →
    OnOk r (Takes (λ h. GivesRead given (Ok read) h old.last old.limit n) old new)
takes-past old new given read n (Err full) less t = tt
takes-past old new given read n (Ok u) less t =
    takes-as (λ h e. e ≡ refused old.last n Cause.PastMoment) (λ h. GivesRead given (Ok read) h old.last old.limit n) old
    new (past-read old given read n less) t

pub lacks-past : (old new : Cored) (given : Given) (read : Read) (n : ℕ) (r : Result (Unit {0}) Full) →
    moment_in given read < old.last → IfErr r (Lacks (λ h e. e ≡ refused old.last n Cause.PastMoment) old new) →
    IfErr r (Lacks (λ h. GivesRead given (Ok read) h old.last old.limit n) old new)
lacks-past old new given read n (Ok u) less t = tt
lacks-past old new given read n (Err full) less t =
    lacks-as (λ h e. e ≡ refused old.last n Cause.PastMoment) (λ h. GivesRead given (Ok read) h old.last old.limit n) old
    new full (past-read old given read n less) t
