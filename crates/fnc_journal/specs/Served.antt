-- A session of lines between two lines: what the last input called for is done.
use Rattle.std.specs.Prelude.{ℕ, ◌≡◌, true, Some, None}
use Rattle.std.specs.List.{AllByRecursion}
use Rattle.fnc_journal.specs.History.{History}
use Rattle.fnc_journal.specs.Found.{is_reply}
use Rattle.fnc_journal.specs.Operations.{settled}
use Rattle.fnc_journal.specs.Startable.{first}
use Rattle.fnc_journal.specs.Driven.{last_input, is_at_once}

-- at the moment of the last input all that came since came at once, nothing is due and nothing may start
pub record AtRest (m : ℕ) (h : History) : Type 0 where
  pub last : last_input h ≡ Some m
  pub at_once : is_at_once m h ≡ true
  pub settled_now : settled h m ≡ true
  pub idle : first h m ≡ None

-- all of these are replies of one moment
abbrev pub AreReplies : ℕ → History → Type 0
AreReplies m rs = AllByRecursion (λ e. (is_reply e.event ≡ true) × (e.moment ≡ m)) rs
