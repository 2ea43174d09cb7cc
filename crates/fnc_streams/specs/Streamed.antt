-- What a source over a reader and a sink over a writer are seen as. Neither tells its trait what the bytes are; these
-- say what becomes of the bytes that the reader has left and of those that the writer holds, where these are known.
use Rattle.std.specs.Prelude.{ℕ, List, Bool, Option}

-- the next poll reads; the bytes that the reader has left; the count of faults
pub record Reading : Type 0 where
  pub reads_next : Bool
  pub left_to_read : Option (List ℕ)
  pub faults : ℕ

-- the bytes that the writer holds, and then those that wait for it; the latter alone; the count of faults
pub record Writing : Type 0 where
  pub written : Option (List ℕ)
  pub waiting : List ℕ
  pub faults : ℕ
