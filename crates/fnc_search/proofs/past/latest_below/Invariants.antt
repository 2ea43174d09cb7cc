use Rattle.fnc_search.proofs.Chained.{Reaches, way}
use Rattle.fnc_search.proofs.past.latest_below.Given as goal

-- what was found is on the way to the newest of the first entries
abbrev pub invariant-loop-found : goal.invariant-loop-found
invariant-loop-found l = Reaches l.req l.journal.history l.len l.found

abbrev pub decreases-loop-found : goal.decreases-loop-found
decreases-loop-found l = way l.found
