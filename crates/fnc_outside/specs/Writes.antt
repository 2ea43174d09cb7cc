-- What writes to a sink and flushes of it leave, where they fail.
use Rattle.std.specs.Prelude.{ℕ, ◌≡◌, ◌≤◌, ◌++◌, List, length, take, Option}
use Rattle.fnc_outside.specs.Told.{Gains, WhereTold}

-- so many of the first bytes of the piece were appended, none beyond it
pub record AppendsPart (before after : Option (List ℕ)) (piece : List ℕ) : Type 0 where
  pub count : ℕ
  pub within : count ≤ length piece
  pub gained : Gains before after (take count piece)

-- Of what was held before and of what was handed over since a part from the front is held, and the rest is lost. It
-- may be less than what was held before.
pub record HoldsPart (before after : Option (List ℕ)) (more : List ℕ) : Type 0 where
  pub lost : List ℕ
  pub holds : WhereTold before after (λ old new. old ++ more ≡ new ++ lost)
