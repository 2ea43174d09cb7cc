use Rattle.std.proofs.Common.{◌≡◌, None}
use Rattle.fnc_journal.specs.Prefix.{prefix}
use Rattle.std.specs.Prelude.{find}
use Rattle.fnc_journal.specs.Operations.{is_due}
use Rattle.fnc_search.specs.Pursued.{operation}
use Rattle.fnc_judge.specs.Opened.{opens}
use Rattle.fnc_judge.proofs.requests.find_due.Given as goal

-- no answer is due to the operations so far
abbrev pub invariant-loop-i : goal.invariant-loop-i
invariant-loop-i l = find (λ p. is_due l.past l.moment (operation p)) (opens l.past (prefix l.i l.past)) ≡ None
