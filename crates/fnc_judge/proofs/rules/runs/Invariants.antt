use Rattle.std.proofs.Common.{◌≡◌}
use Rattle.fnc_journal.specs.Prefix.{prefix}
use Rattle.fnc_journal.specs.Acts.{acts, runs}
use Rattle.fnc_judge.proofs.rules.runs.Given as goal

-- what the entries so far say
abbrev pub invariant-loop-i : goal.invariant-loop-i
invariant-loop-i l = l.count ≡ runs l.slot (acts l.req (prefix l.i l.past))
