use Rattle.std.proofs.Common.{◌≡◌}
use Rattle.fnc_journal.specs.Prefix.{prefix}
use Rattle.fnc_judge.specs.Numbers.{numbers_of}
use Rattle.fnc_judge.proofs.numbers.counted.Given as goal

-- what the entries so far say
abbrev pub invariant-loop-i : goal.invariant-loop-i
invariant-loop-i l = l.found ≡ numbers_of (prefix l.i l.past)
