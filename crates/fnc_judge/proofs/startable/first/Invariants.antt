use Rattle.std.proofs.Common.{◌≡◌}
use Rattle.fnc_journal.specs.Prefix.{prefix}
use Rattle.std.specs.Prelude.{map}
use Rattle.fnc_journal.specs.Startable.{first_among}
use Rattle.fnc_search.specs.Pursued.{operation}
use Rattle.fnc_judge.specs.Opened.{opens}
use Rattle.fnc_judge.proofs.startable.first.Given as goal

-- what the entries so far say
abbrev pub invariant-loop-i : goal.invariant-loop-i
invariant-loop-i l = l.found ≡ first_among l.past l.moment (map operation (opens l.past (prefix l.i l.past)))
