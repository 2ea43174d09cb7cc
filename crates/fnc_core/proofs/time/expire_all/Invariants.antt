-- What the loop keeps true, and why it ends.
use Rattle.std.proofs.Common.{◌≡◌}
use Rattle.fnc_ops.specs.Stands.{StandsFor, AreBy, behind}
use Rattle.fnc_core.specs.Wanted.{Waits, HasPlaces}
use Rattle.fnc_core.proofs.time.expire_all.Given as goal

-- the records stand for the journal, and speak at no later moment; the queue has the items that they want, and places
abbrev pub invariant-loop-req : goal.invariant-loop-req
invariant-loop-req l = record {
  stands : StandsFor l.ops l.journal.history;
  later : AreBy l.moment l.ops.operations;
  waits : Waits l.journal.history l.ops l.queue;
  alive : l.queue.alive ≡ l.fn.queue.alive;
  has_places : HasPlaces l.journal.history l.ops l.queue;
}

-- how many records speak of an earlier moment
abbrev pub decreases-loop-req : goal.decreases-loop-req
decreases-loop-req l = behind l.moment l.ops.operations
