-- Lines are numbered by the inputs before them, and what is no line leaves their number.
use Rattle.std.proofs.Common.{ℕ, List, ◌∷◌, ◌++◌, ◌≡◌, false, refl, ap, sym, ◌∙◌, subst, Result, Ok, Err}
use Rattle.std.specs.Prelude.{OnErr, OnOk}
use Rattle.fnc_journal.specs.declared.cause.Cause.{Cause}
use Rattle.fnc_journal.specs.declared.event.Ended.{Ended}
use Rattle.fnc_journal.specs.declared.event.Event.{Event}
use Rattle.fnc_journal.specs.declared.outcome.Full.{Full}
use Rattle.fnc_outside.specs.Events.{Happening}
use Rattle.fnc_command.specs.declared.command.Mode.{Mode}
use Rattle.fnc_command.specs.Lines.{said}
use Rattle.fnc_core.proofs.Following.{entered-answered, entered-history}
use Rattle.fnc_core.specs.Between.{start_of}
use Rattle.fnc_core.specs.Cored.{Advances, Cored, Enters, Starts}
use Rattle.fnc_core.specs.declared.change.Started.{Started}
use Rattle.fnc_desk.proofs.Replied.{inputs-replied}
use Rattle.fnc_desk.specs.declared.entering.Given.{Given}
use Rattle.fnc_desk.specs.Entered.{Lacks, LacksRoom, Takes, TakesLine, next_line}
use Rattle.fnc_desk.specs.Inputs.{GivesLine, given_in, inputs, is_of_line, refused}

-- an advance enters none
pub advance-counted : (mode : Mode) (old new : Cored) (m : ℕ) → Advances old new m →
    inputs mode new.history ≡ inputs mode old.history
advance-counted mode old new m a = ap (inputs mode) a.history ∙ inputs-replied m a.advance old.history a.at_once mode

-- nor does an entry that no line gives
pub entry-uncounted : (mode : Mode) (old new : Cored) (m : ℕ) (event : Event) (need : ℕ) →
    is_of_line mode event ≡ false → Enters old new m event need → inputs mode new.history ≡ inputs mode old.history
entry-uncounted mode old new m event need is n =
    ap (inputs mode) (entered-history n)
    ∙ inputs-replied m n.follows.replies (record { moment = m; event = event } ∷ (n.advances.advance ++ old.history))
    (entered-answered n) mode
    ∙ rw is (inputs-replied m n.advances.advance old.history n.advances.at_once mode)

no-start : (mode : Mode) (s : Started) → is_of_line mode (Event.Start (start_of s)) ≡ false
no-start Mode.Timed s = refl
no-start Mode.Live s = refl

-- nor a start
pub start-uncounted : (mode : Mode) (old new : Cored) (s : Started) → Starts old new s →
    inputs mode new.history ≡ inputs mode old.history
start-uncounted mode old new s k = ap (inputs mode) k.history ∙ rw (no-start mode s) refl

-- a line of the next number
pub takes-numbered : (mode : Mode) (given : Given) (bytes : List ℕ) (old new : Cored) (n : ℕ) →
    n ≡ next_line mode old →
    Takes (λ h. GivesLine (given_in mode given) (said mode bytes) h old.last old.limit n) old new →
    TakesLine mode given (Happening.Line bytes) old new
takes-numbered mode given bytes old new n is t =
    subst (λ k. Takes (λ h. GivesLine (given_in mode given) (said mode bytes) h old.last old.limit k) old new) is t

pub lacks-numbered : (mode : Mode) (given : Given) (bytes : List ℕ) (old new : Cored) (full : Full) (n : ℕ) →
    n ≡ next_line mode old →
    Lacks (λ h. GivesLine (given_in mode given) (said mode bytes) h old.last old.limit n) old new full →
    LacksRoom mode given (Happening.Line bytes) old new full
lacks-numbered mode given bytes old new full n is t =
    subst (λ k. Lacks (λ h. GivesLine (given_in mode given) (said mode bytes) h old.last old.limit k) old new full) is t

-- a line that was too long
pub takes-long : (mode : Mode) (given : Given) (size : ℕ) (old new : Cored) (n : ℕ) → n ≡ next_line mode old →
    Takes (λ h e. e ≡ refused old.last n Cause.TooLong) old new → TakesLine mode given (Happening.TooLong size) old new
takes-long mode given size old new n is t =
    subst (λ k. Takes (λ h e. e ≡ refused old.last k Cause.TooLong) old new) is t

pub lacks-long : (mode : Mode) (given : Given) (size : ℕ) (old new : Cored) (full : Full) (n : ℕ) →
    n ≡ next_line mode old → Lacks (λ h e. e ≡ refused old.last n Cause.TooLong) old new full →
    LacksRoom mode given (Happening.TooLong size) old new full
lacks-long mode given size old new full n is t =
    subst (λ k. Lacks (λ h e. e ≡ refused old.last k Cause.TooLong) old new full) is t

-- nor an exit that no line told, or a run that is not alive
pub exit-uncounted : (mode : Mode) (old new : Cored) (m : ℕ) (ended : Ended) {X : Type 0} (r : Result (Unit {0}) X) →
    mode ≡ Mode.Live → OnOk r (Enters old new m (Event.Exit ended) 0) → OnErr r (Advances old new m) →
    inputs mode new.history ≡ inputs mode old.history
exit-uncounted mode old new m ended (Ok u) live e a =
    entry-uncounted mode old new m (Event.Exit ended) 0
    (subst (λ k. is_of_line k (Event.Exit ended) ≡ false) (sym live) refl) e
exit-uncounted mode old new m ended (Err x) live e a = advance-counted mode old new m a
