-- What a line buffer holds.
use Rattle.std.specs.Prelude.{ℕ, List}

-- the bytes in it, and the most that it can hold
pub record Buffered : Type 0 where
  pub bytes : List ℕ
  pub size : ℕ
