-- A journal at a moment at which nothing is left to do.
use Rattle.std.specs.Prelude.{ℕ, [], ◌≡◌, ◌≤◌, Bool, true, false, None}
use Rattle.std.specs.List.{AllByRecursion}
use Rattle.fnc_journal.specs.declared.event.Event.{Event}
use Rattle.fnc_journal.specs.History.{History}
use Rattle.fnc_journal.specs.Operations.{settled}
use Rattle.fnc_journal.specs.Startable.{first, alive_runs}
use Rattle.fnc_journal.specs.Lawful.{last_moment}

-- at a moment not before the last entry no answer is due, no try may start, and no run is alive
pub record IsDone (m : ℕ) (h : History) : Type 0 where
  pub came : last_moment h ≤ m
  pub settled_now : settled h m ≡ true
  pub idle : first h m ≡ None
  pub unrunning : alive_runs h ≡ []

-- whether it is an operator's word that a node is down
abbrev pub is_confirmation : Event → Bool
is_confirmation (Event.Confirm confirmation) = true
is_confirmation _ = false

-- no operator confirmed
abbrev pub Unconfirmed : History → Type 0
Unconfirmed h = AllByRecursion (λ e. is_confirmation e.event ≡ false) h
