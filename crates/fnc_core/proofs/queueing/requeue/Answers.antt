-- The item that was withdrawn leaves its place to the one that comes.
use Rattle.std.proofs.Common.{ap, sym, ◌∙◌, is_some}
use Rattle.fnc_queue.specs.Items.{is_waiting}
use Rattle.fnc_core.proofs.Items.{wanted-own, changed-own, places-withdrawn, places-added}
use Rattle.fnc_core.proofs.queueing.requeue.Goals as goal

pub add-requires-clause-other : goal.add-requires-clause-other
add-requires-clause-other c = ap (λ n. is_waiting n c.withdraw.new.self.waiting)
    (wanted-own c.args.journal.now.history c.args.operation.0 c.args.ops.now c.in-Some.item
    (sym c.wanted.ensures ∙ c.in-Some.is)) ∙ changed-own c.args.operation.0 _ c.args.queue.now.waiting
    c.withdraw.new.self.waiting c.withdraw.ensures.changes

pub returns-in-Some-clause-places : goal.returns-in-Some-clause-places
returns-in-Some-clause-places c =
    let is = sym c.wanted.ensures ∙ c.in-Some.is in
    places-added c.args.operation.0 c.in-Some.item c.args.queue.now c.withdraw.new.self c.add.new.self
    (wanted-own c.args.journal.now.history c.args.operation.0 c.args.ops.now c.in-Some.item is) c.withdraw.ensures.after
    (c.requires.room (ap is_some is)) c.add.ensures.after c.add.ensures.changes

pub returns-in_default-clause-places : goal.returns-in_default-clause-places
returns-in_default-clause-places c = places-withdrawn c.args.operation.0 c.args.queue.now c.withdraw.new.self
    c.withdraw.ensures.after c.withdraw.ensures.changes
