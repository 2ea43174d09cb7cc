-- What is told of a try that an operation waits for.
use Rattle.std.specs.Prelude.{ℕ, ◌≡◌, Some}
use Rattle.fnc_journal.specs.declared.entry.Req.{Req}
use Rattle.fnc_journal.specs.declared.entry.Run.{Run}
use Rattle.fnc_journal.specs.History.{History}
use Rattle.fnc_journal.specs.Operations.{operation}
use Rattle.fnc_journal.specs.Slots.{Operation}
use Rattle.fnc_records.specs.declared.operation.Standing.{Standing}
use Rattle.fnc_core.specs.Limits.{limit_at, time_of}
use Rattle.fnc_core.specs.declared.change.Started.{Started}

-- it is told as it stands, with the number that its run would have, and for a first try with the limit that it gets by
-- a start at this moment
pub record IsTold (h : History) (m : ℕ) (run : Run) (req : Req) (x : Standing) (s : Started) : Type 0 where
  pub run_is : s.run ≡ run
  pub req_is : s.req ≡ req
  pub slot_is : s.slot ≡ x.slot
  pub reg_is : s.reg ≡ x.reg
  pub kind_is : s.kind ≡ x.kind
  pub attempt_is : s.attempt ≡ x.attempt
  pub limit_is :
      (o : Operation) → operation req.0 h ≡ Some o → s.limit ≡ limit_at m o.over (time_of x.reg.0 x.kind h) x.limit
