-- Two journals that begin alike: the one that is read, and the one that the state machine writes of the same inputs.
use Rattle.std.specs.Prelude.{ℕ, ◌≡◌, ◌≤◌, ◌++◌, length}
use Rattle.fnc_journal.specs.History.{History}
use Rattle.fnc_journal.specs.Lawful.{Lawful}
use Rattle.fnc_journal.specs.Prefix.{prefix}

-- a journal goes on from another where it has more entries at its end alone
abbrev pub GoesOn : History → History → Type 0
GoesOn old new = (more : History) × (new ≡ more ++ old)

-- so many first entries are the same in both, and one of the two is lawful
pub record Agrees (agreed : ℕ) (read own : History) : Type 0 where
  pub same : prefix agreed read ≡ prefix agreed own
  pub are_read : agreed ≤ length read
  pub are_own : agreed ≤ length own
  pub lawful : Lawful own
