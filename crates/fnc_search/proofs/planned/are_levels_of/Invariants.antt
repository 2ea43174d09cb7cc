use Rattle.std.proofs.Common.{◌≡◌, map}
use Rattle.fnc_journal.specs.Levels.{levels}
use Rattle.fnc_journal.specs.Plan.{plan_level}
use Rattle.fnc_search.specs.Indices.{from}
use Rattle.fnc_search.proofs.planned.are_levels_of.Given as goal

-- if what is left are the levels that are left, all are
abbrev pub invariant-loop-index : goal.invariant-loop-index
invariant-loop-index l =
    l.rest ≡ map (plan_level l.before) (from l.index (levels l.target l.before)) →
    l.written ≡ map (plan_level l.before) (levels l.target l.before)
