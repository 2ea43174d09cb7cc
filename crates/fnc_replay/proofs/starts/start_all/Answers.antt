-- One more start.
use Rattle.fnc_replay.proofs.Resting.{starts-more}
use Rattle.fnc_replay.proofs.starts.start_all.Goals as goal

pub loop-started-preserved : goal.loop-started-preserved
loop-started-preserved c = starts-more _ _ _ _ c.loop-started.invariant c.in-Some.ensures.some
