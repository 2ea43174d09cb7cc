-- Each operation that is taken gets the item that it wants, and the others have theirs.
use Rattle.std.proofs.Common.{◌∙◌}
use Rattle.fnc_core.specs.Wanted.{HasPlaces}
use Rattle.fnc_core.proofs.Passing.{places-same, waits-taken}
use Rattle.fnc_core.proofs.Places.{place-wanted, places-requeued, records-apart}
use Rattle.fnc_core.proofs.time.expire_all.Goals as goal

pub requeue-requires : goal.requeue-requires
requeue-requires c = record {
  room = place-wanted c.args.journal.now.history c.expire.new.self c.loop-req.queue c.in-Some.req.0
      c.expire.ensures.stands
      (places-same c.args.journal.now.history c.loop-req.ops c.expire.new.self c.loop-req.queue
      c.loop-req.invariant.has_places c.expire.ensures.same);
}

pub loop-req-preserved : goal.loop-req-preserved
loop-req-preserved c =
    let h = c.args.journal.now.history in
    let has_places : HasPlaces h c.expire.new.self c.loop-req.queue =
    places-same h c.loop-req.ops c.expire.new.self c.loop-req.queue c.loop-req.invariant.has_places
    c.expire.ensures.same in
    record {
      stands = c.expire.ensures.stands;
      later = c.expire.ensures.later;
      waits = waits-taken h c.in-Some.req.0 c.loop-req.ops c.expire.new.self c.loop-req.queue c.requeue.new.queue
          c.loop-req.invariant.waits (c.in-Some.ensures.waits c.requires.lawful) c.requeue.ensures.changes;
      alive = c.requeue.ensures.alive ∙ c.loop-req.invariant.alive;
      has_places = places-requeued h c.expire.new.self c.loop-req.queue c.requeue.new.queue c.in-Some.req.0
          (records-apart h c.expire.new.self c.requires.lawful c.expire.ensures.stands) has_places
          c.requeue.ensures.changes c.requeue.ensures.places;
    }

pub returns-clause-has_places : goal.returns-clause-has_places
returns-clause-has_places c =
    places-same c.args.journal.now.history c.loop-req.ops c.expire.new.self c.loop-req.queue
    c.loop-req.invariant.has_places c.expire.ensures.same
