use Rattle.std.proofs.Common.{◌≡◌}
use Rattle.fnc_journal.specs.Prefix.{prefix}
use Rattle.fnc_journal.specs.Registered.{current}
use Rattle.fnc_search.proofs.registered.current.Given as goal

-- what the entries so far say
abbrev pub invariant-loop-i : goal.invariant-loop-i
invariant-loop-i l = l.found ≡ current l.name (prefix l.i l.past)
