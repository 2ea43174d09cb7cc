use Rattle.std.proofs.Common.{◌≡◌, None}
use Rattle.fnc_journal.specs.Prefix.{prefix}
use Rattle.std.specs.Prelude.{find}
use Rattle.fnc_journal.specs.Operations.{is_joinable}
use Rattle.fnc_search.specs.Pursued.{operation}
use Rattle.fnc_judge.specs.Opened.{opens}
use Rattle.fnc_judge.proofs.requests.find_joinable.Given as goal

-- none of the operations so far can be joined
abbrev pub invariant-loop-i : goal.invariant-loop-i
invariant-loop-i l =
    find (λ p. is_joinable l.past l.moment l.kind l.target (operation p)) (opens l.past (prefix l.i l.past)) ≡ None
