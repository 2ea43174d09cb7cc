use Rattle.std.proofs.Common.{◌≡◌}
use Rattle.fnc_journal.specs.Prefix.{prefix}
use Rattle.fnc_search.specs.Setup.{setup_end}
use Rattle.fnc_judge.proofs.setup.setup_to.Given as goal

-- what the entries so far say
abbrev pub invariant-loop-i : goal.invariant-loop-i
invariant-loop-i l = l.setup ≡ setup_end (prefix l.i l.past)
