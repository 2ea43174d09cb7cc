-- A session between two lines: all that the last line called for is done.
use Rattle.std.specs.Prelude.{ℕ, ◌≡◌, ◌++◌, ◌⊎◌, [], true, None}
use Rattle.std.specs.List.{AllByRecursion}
use Rattle.fnc_journal.specs.History.{History}
use Rattle.fnc_journal.specs.Found.{is_start}
use Rattle.fnc_journal.specs.Startable.{first}
use Rattle.fnc_journal.specs.Driven.{DrivenInputs}
use Rattle.fnc_journal.specs.Served.{AtRest}
use Rattle.fnc_outside.specs.Events.{Happening}
use Rattle.fnc_core.specs.Cored.{Cored}
use Rattle.fnc_replay.specs.Timed.{TakesLine}

-- nothing came yet, or the last input was served in full at the last moment; and so was each one before it
pub record Rests (v : Cored) : Type 0 where
  pub inputs : DrivenInputs v.history
  pub rest : (v.history ≡ []) ⊎ AtRest v.last v.history

-- all of these are starts of one moment
abbrev pub AreStarts : ℕ → History → Type 0
AreStarts m ss = AllByRecursion (λ e. (is_start e.event ≡ true) × (e.moment ≡ m)) ss

-- tries were started at the last moment
pub record StartsSome (old new : Cored) : Type 0 where
  pub starts : History
  pub started : AreStarts old.last starts
  pub history : new.history ≡ starts ++ old.history
  pub last : new.last ≡ old.last
  pub limit : new.limit ≡ old.limit

-- and no other may start
pub record StartsAll (old new : Cored) : Type 0 where
  pub some : StartsSome old new
  pub idle : first new.history new.last ≡ None

-- a line was entered, and all starts were made
pub record ServesLine (line : Happening) (old new : Cored) : Type 0 where
  pub mid : Cored
  pub takes : TakesLine line old mid
  pub starts : StartsAll mid new
