use Rattle.std.proofs.Common.{◌≡◌}
use Rattle.fnc_journal.specs.Prefix.{prefix}
use Rattle.fnc_journal.specs.Due.{is_confirmed}
use Rattle.fnc_search.specs.Pursued.{operation}
use Rattle.fnc_judge.proofs.requests.is_confirmed.Given as goal

-- what the entries so far say
abbrev pub invariant-loop-i : goal.invariant-loop-i
invariant-loop-i l = l.found ≡ is_confirmed (operation l.operation) (prefix l.i l.past)
