-- What the core writes stands at the end of its journal.
use Rattle.std.proofs.Common.{
  ℕ,
  [],
  ◌∷◌,
  ◌++◌,
  ◌≡◌,
  refl,
  ap,
  sym,
  ◌∙◌,
  append_assoc,
  Option,
  Some,
  None,
  Result,
  Ok,
  Err,
}
use Rattle.std.specs.Prelude.{IfNone, IfOk, IfSome, OnErr, OnOk}
use Rattle.fnc_journal.specs.declared.entry.Req.{Req}
use Rattle.fnc_journal.specs.declared.event.Event.{Event}
use Rattle.fnc_journal.specs.declared.plan.Plan.{Plan}
use Rattle.fnc_journal.specs.History.{History}
use Rattle.fnc_core.proofs.Following.{entered-history}
use Rattle.fnc_core.specs.Between.{entry, start_of}
use Rattle.fnc_core.specs.Cored.{Advances, Asks, Cored, Enters, Starts, ask_event}
use Rattle.fnc_core.specs.declared.change.Ask.{Ask}
use Rattle.fnc_core.specs.declared.change.Started.{Started}
use Rattle.fnc_retrace.specs.Agreeing.{GoesOn}

pub goes-nowhere : (h : History) → GoesOn h h
goes-nowhere h = ([], refl)

pub goes-twice : (a b c : History) → GoesOn a b → GoesOn b c → GoesOn a c
goes-twice a b c x y = (y.0 ++ x.0, y.1 ∙ ap (λ h. y.0 ++ h) x.1 ∙ sym (append_assoc y.0 x.0 a))

pub goes-advanced : (old new : Cored) (m : ℕ) → Advances old new m → GoesOn old.history new.history
goes-advanced old new m a = (a.advance, a.history)

pub goes-entered : (old new : Cored) (m : ℕ) (event : Event) (need : ℕ) → Enters old new m event need →
    GoesOn old.history new.history
goes-entered old new m event need n = (
  n.follows.replies ++ entry m event ∷ n.advances.advance,
  entered-history n ∙ sym (append_assoc n.follows.replies (entry m event ∷ n.advances.advance) old.history),
)

-- an entry, or none
pub goes-either : (old new : Cored) (m : ℕ) (event : Event) (need : ℕ) {X E : Type 0} (r : Result X E) →
    OnOk r (Enters old new m event need) → OnErr r (Advances old new m) → GoesOn old.history new.history
goes-either old new m event need (Ok u) e a = goes-entered old new m event need e
goes-either old new m event need (Err x) e a = goes-advanced old new m a

-- a request, or none
pub goes-asked : (old new : Cored) (m : ℕ) (ask : Ask) (plan : Plan) {E : Type 0} (r : Result Req E) →
    IfOk r (Asks old new m ask plan) → OnErr r (Advances old new m) → GoesOn old.history new.history
goes-asked old new m ask plan (Ok req) e a =
    goes-entered old new m (ask_event req e.lead ask plan) e.need e.enters
goes-asked old new m ask plan (Err x) e a = goes-advanced old new m a

-- a start, or none
pub goes-started : (old new : Cored) (s : Option Started) → IfNone s (new ≡ old) → IfSome s (Starts old new) →
    GoesOn old.history new.history
goes-started old new None e s = ([], ap (λ (v : Cored). v.history) e)
goes-started old new (Some started) e s =
    (entry old.last (Event.Start (start_of started)) ∷ [], s.history)
