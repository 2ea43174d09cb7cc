use Rattle.std.proofs.Common.{length}
use Rattle.fnc_search.proofs.seen.+looked_back.Given as goal

abbrev pub decreases-looked_back : goal.decreases-looked_back
decreases-looked_back l = length l.past.now
