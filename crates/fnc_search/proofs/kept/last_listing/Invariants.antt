use Rattle.std.proofs.Common.{◌≡◌}
use Rattle.fnc_journal.specs.Prefix.{prefix}
use Rattle.fnc_journal.specs.Kept.{last_listing}
use Rattle.fnc_search.proofs.kept.last_listing.Given as goal

-- what the entries so far say
abbrev pub invariant-loop-i : goal.invariant-loop-i
invariant-loop-i l = l.found ≡ last_listing l.reg l.target (prefix l.i l.past)
