use Rattle.std.proofs.Common.{◌≡◌}
use Rattle.fnc_journal.specs.Prefix.{prefix}
use Rattle.fnc_journal.specs.Levels.{levels}
use Rattle.fnc_search.proofs.Rising.{of_index}
use Rattle.fnc_search.proofs.level.level_of.Given as goal

-- what the entries so far say
abbrev pub invariant-loop-i : goal.invariant-loop-i
invariant-loop-i l = l.found ≡ of_index l.index (levels l.target (prefix l.i l.past))
