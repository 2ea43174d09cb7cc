-- An operation's record as contracts see it.
use Rattle.std.specs.Prelude.{ℕ, List, Bool}
use Rattle.fnc_journal.specs.declared.entry.Kind.{Kind}
use Rattle.fnc_journal.specs.declared.entry.Req.{Req}
use Rattle.fnc_records.specs.KeptLevel.{KeptLevel}

-- what never changes, the moment at which the record speaks, what is known by then, how many allowed tries were
-- not started yet, and who waits
pub record KeptOperation : Type 0 where
  pub req : ℕ
  pub kind : Kind
  pub target : List ℕ
  pub begin : ℕ
  pub over : ℕ
  pub moment : ℕ
  pub confirmed : Bool
  pub ranked : Bool
  pub untried : ℕ
  pub levels : List KeptLevel
  pub members : List Req
