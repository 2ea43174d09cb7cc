use Rattle.std.proofs.Common.{◌≡◌}
use Rattle.fnc_journal.specs.Prefix.{prefix}
use Rattle.fnc_search.specs.Indices.{top}
use Rattle.fnc_search.proofs.level.top_of.Given as goal

-- what the entries so far say
abbrev pub invariant-loop-i : goal.invariant-loop-i
invariant-loop-i l = l.most ≡ top l.target (prefix l.i l.past)
