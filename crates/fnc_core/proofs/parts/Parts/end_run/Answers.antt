-- The run has its place on its lane, the journal has room for its exit, and the parts after it are the journal's.
use Rattle.std.proofs.Common.{◌≡◌, ◌<◌, true, subst, sym, ap, ◌∙◌}
use Rattle.std.specs.Prelude.{Some}
use Rattle.fnc_journal.specs.Found.{started}
use Rattle.fnc_journal.specs.Startable.{is_alive}
use Rattle.fnc_queue.specs.Lanes.{lane_count, CountsOneMore}
use Rattle.fnc_queue.specs.Queued.{ended}
use Rattle.fnc_core.specs.Between.{Rests}
use Rattle.fnc_core.specs.Parted.{Parted}
use Rattle.fnc_core.proofs.Ended.{lane-runs, room-ended, between-ended}
use Rattle.fnc_core.proofs.parts.Parts.end_run.Goals as goal

pub ended-requires-2 : goal.ended-requires-2
ended-requires-2 c =
    let p : Parted = record {
      history = c.self.inside.journal.history;
      limit = c.self.inside.journal.limit;
      ops =
          c.self.inside.ops;
      queue = c.self.inside.queue;
    } in
    let rests : Rests c.args.moment p = subst (λ (v : Parted). Rests c.args.moment v)
    (sym c.self.view_is) c.requires.rests in
    let lives : is_alive c.args.ended.run.0 p.history ≡ true =
    ap (λ (v : Parted). is_alive c.args.ended.run.0 v.history) c.self.view_is ∙ c.requires.alive in
    let was : started c.args.ended.run.0 p.history ≡ Some c.args.start =
    ap (λ (v : Parted). started c.args.ended.run.0 v.history) c.self.view_is ∙ c.requires.started in
    subst (λ n. 0 < lane_count n p.queue.alive) (sym c.lane.ensures)
    (lane-runs c.args.moment p rests c.args.ended lives c.args.start was)

pub push-requires : goal.push-requires
push-requires c =
    let p : Parted = record {
      history = c.self.inside.journal.history;
      limit = c.self.inside.journal.limit;
      ops =
          c.self.inside.ops;
      queue = c.self.inside.queue;
    } in
    let rests : Rests c.args.moment p = subst (λ (v : Parted). Rests c.args.moment v)
    (sym c.self.view_is) c.requires.rests in
    let lives : is_alive c.args.ended.run.0 p.history ≡ true =
    ap (λ (v : Parted). is_alive c.args.ended.run.0 v.history) c.self.view_is ∙ c.requires.alive in
    let was : started c.args.ended.run.0 p.history ≡ Some c.args.start =
    ap (λ (v : Parted). started c.args.ended.run.0 v.history) c.self.view_is ∙ c.requires.started in
    room-ended c.args.moment p rests c.args.ended lives c.args.start was

pub returns-clause-between : goal.returns-clause-between
returns-clause-between c =
    let p : Parted = record {
      history = c.self.inside.journal.history;
      limit = c.self.inside.journal.limit;
      ops =
          c.self.inside.ops;
      queue = c.self.inside.queue;
    } in
    let q : Parted = record {
      history = c.push.new.self.history;
      limit = c.push.new.self.limit;
      ops =
          c.ended.new.self;
      queue = c.requeue.new.queue;
    } in
    let rests : Rests c.args.moment p = subst (λ (v : Parted). Rests c.args.moment v)
    (sym c.self.view_is) c.requires.rests in
    let lives : is_alive c.args.ended.run.0 p.history ≡ true =
    ap (λ (v : Parted). is_alive c.args.ended.run.0 v.history) c.self.view_is ∙ c.requires.alive in
    let was : started c.args.ended.run.0 p.history ≡ Some c.args.start =
    ap (λ (v : Parted). started c.args.ended.run.0 v.history) c.self.view_is ∙ c.requires.started in
    between-ended c.args.moment p rests c.args.ended lives c.args.start was c.ended-2.new.self q
    (record { history = c.push.ensures.history; limit = c.push.ensures.limit })
    (c.ended-2.ensures.after ∙ ap (λ n. ended n p.queue) c.lane.ensures)
    (subst (λ n. CountsOneMore n c.ended-2.new.self.alive p.queue.alive) c.lane.ensures c.ended-2.ensures.counts)
    c.requeue.ensures.changes c.requeue.ensures.alive c.requeue.ensures.places c.ended.ensures.stands c.ended.ensures.at
    c.ended.ensures.others
