use Rattle.std.proofs.Common.{◌≡◌}
use Rattle.fnc_journal.specs.Prefix.{prefix}
use Rattle.fnc_journal.specs.Startable.{begun_runs}
use Rattle.fnc_judge.specs.Opened.{alive_in}
use Rattle.fnc_judge.proofs.startable.alive.Given as goal

-- what the entries so far say
abbrev pub invariant-loop-i : goal.invariant-loop-i
invariant-loop-i l = l.count ≡ alive_in l.past l.number (begun_runs (prefix l.i l.past))
