use Rattle.std.proofs.Common.{◌≡◌}
use Rattle.fnc_journal.specs.Missing.{least_of}
use Rattle.fnc_journal.specs.Levels.{levels, oldest}
use Rattle.fnc_search.specs.Indices.{from}
use Rattle.fnc_search.proofs.level.oldest.Given as goal

-- the oldest so far, and of what is left
abbrev pub invariant-loop-index : goal.invariant-loop-index
invariant-loop-index l =
    oldest (levels l.target l.past) ≡ least_of l.least (oldest (from l.index (levels l.target l.past)))
