-- What is true of the core between two calls.
use Rattle.std.specs.Prelude.{ℕ, ◌≡◌}
use Rattle.fnc_journal.specs.Found.{devices, asks, starts}
use Rattle.fnc_core.specs.Parted.{Parted}
use Rattle.fnc_core.specs.Between.{Rests}

-- nothing is due at the last moment, and the next registration, request and run have the numbers that the journal says
pub record Holds (last : ℕ) (p : Parted) (reg req run : ℕ) : Type 0 where
  pub rests : Rests last p
  pub next_reg : reg ≡ devices p.history
  pub next_req : req ≡ asks p.history
  pub next_run : run ≡ starts p.history
