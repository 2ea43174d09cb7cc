-- Runs that have ended.
use Rattle.std.specs.Prelude.{ℕ, ◌<◌, ◌≤◌, ◌≡◌, ◌⊎◌, true, false, length}
use Rattle.fnc_journal.specs.History.{History}
use Rattle.fnc_journal.specs.Found.{has_exit}

-- all runs below a number have ended
abbrev pub AreEnded : ℕ → History → Type 0
AreEnded n h = (run : ℕ) → run < n → has_exit run h ≡ true

-- a run has not ended, or has a number that no run has
abbrev pub IsPast : ℕ → History → Type 0
IsPast n h = (has_exit n h ≡ false) ⊎ (length h ≤ n)
