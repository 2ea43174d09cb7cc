-- Indexes of a journal that are indexes of its first entries too.
use Rattle.std.specs.Prelude.{ℕ, nat_lt, if◌then◌else◌, Option, Some, None}

-- an index, where it is that of one of the first n entries
abbrev pub within : ℕ → Option ℕ → Option ℕ
within n None = None
within n (Some i) = if nat_lt i n then Some i else None
