use Rattle.std.proofs.Common.{◌≡◌}
use Rattle.fnc_journal.specs.Prefix.{prefix}
use Rattle.fnc_journal.specs.Registered.{least_registration}
use Rattle.fnc_search.proofs.registered.least_registration.Given as goal

-- what the entries so far say
abbrev pub invariant-loop-i : goal.invariant-loop-i
invariant-loop-i l = l.least ≡ least_registration l.name (prefix l.i l.past)
