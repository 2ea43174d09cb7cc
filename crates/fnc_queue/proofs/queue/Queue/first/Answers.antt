-- What the first of the line says of the queue.
use Rattle.std.proofs.Common.{◌∙◌, ap₂, subst}
use Rattle.fnc_queue.specs.Items.{InOrder}
use Rattle.fnc_queue.specs.Queued.{Queued}
use Rattle.fnc_queue.specs.Places.{first_among}
use Rattle.fnc_queue.proofs.FirstLemmas.{borrowed-some, borrowed-first, borrowed-own}
use Rattle.fnc_queue.proofs.LinedFirst.{first-of-lined}
use Rattle.fnc_queue.proofs.queue.Queue.first.Goals as goal

pub returns-clause-item : goal.returns-clause-item
returns-clause-item c =
    rw (← c.self.view_is) (c.first_among.ensures
    ∙ ap₂ (first_among c.args.moment) c.deref-2.ensures.value c.deref.ensures.value
    ∙ first-of-lined c.args.moment c.self.inside.alive.items c.self.inside.waiting.items c.self.inside.lines.items
    c.self.invariant.5 c.self.invariant.7)

pub returns-clause-some : goal.returns-clause-some
returns-clause-some c = borrowed-some c.args.moment c.args.self.now c.first_among.result (returns-clause-item c)

pub returns-clause-least : goal.returns-clause-least
returns-clause-least c = borrowed-first c.args.moment c.args.self.now c.first_among.result (returns-clause-item c)

pub returns-clause-own : goal.returns-clause-own
returns-clause-own c =
    borrowed-own c.args.moment c.args.self.now c.first_among.result
    (subst (λ (q : Queued). InOrder q.waiting) c.self.view_is c.self.invariant.5) (returns-clause-item c)
