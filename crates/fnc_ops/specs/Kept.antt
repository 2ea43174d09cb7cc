-- What is kept of all operations, as contracts see it.
use Rattle.std.specs.Prelude.{ℕ, List}
use Rattle.fnc_records.specs.KeptOperation.{KeptOperation}

-- the records of the operations that are open, in rising order, and how many runs are alive
pub record Kept : Type 0 where
  pub operations : List KeptOperation
  pub alive : ℕ
