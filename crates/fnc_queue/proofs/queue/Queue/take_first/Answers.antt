-- The run takes the place of the item that waited for it.
use Rattle.std.proofs.Common.{Bool, true, ◌≡◌, ◌∙◌, ◌+◌, ap, sym, subst, Some, cond, vec_len, arith}
use Rattle.fnc_queue.specs.Items.{is_waiting, item_of, without_item}
use Rattle.fnc_queue.specs.Lines.{IsLined}
use Rattle.fnc_queue.specs.Places.{IsFirst}
use Rattle.fnc_queue.specs.Queued.{Queued}
use Rattle.fnc_queue.proofs.FirstLemmas.{contained-waits}
use Rattle.fnc_queue.proofs.LineLemmas.{found-line, lined-taken}
use Rattle.fnc_queue.proofs.queue.Queue.take_first.Goals as goal

pub remove-requires-2-clause-there : goal.remove-requires-2-clause-there
remove-requires-2-clause-there c =
    let item = c.in_ok-first.field-0.now in
    found-line item.req.0 c.self.inside.waiting.items c.self.inside.lines.items item c.self.invariant.7
    (subst (λ (q : Queued). item_of item.req.0 q.waiting ≡ Some item) (sym c.self.view_is) c.in_ok-first.ensures.own)

pub invariant_of-self : goal.invariant_of-self
invariant_of-self c =
    let item = c.in_ok-first.field-0.now in
    let room = c.self.invariant in
    let first : IsFirst c.args.moment c.args.self.now item = c.in_ok-first.ensures.least in
    let waits : is_waiting item.req.0 c.self.inside.waiting.items ≡ true =
    ap (λ q. is_waiting item.req.0 q.waiting) c.self.view_is
    ∙ contained-waits item c.args.self.now.waiting first.waits in
    let gone : vec_len c.remove.new.items + 1 ≡ vec_len c.self.inside.waiting =
    subst (λ (found : Bool). cond found (vec_len c.remove.new.items + 1) (vec_len c.remove.new.items)
    ≡ vec_len c.self.inside.waiting) (c.remove.ensures.found ∙ waits) c.remove.ensures.len in
    let own : item_of item.req.0 c.self.inside.waiting.items ≡ Some item = subst
    (λ (q : Queued). item_of item.req.0 q.waiting ≡ Some item) (sym c.self.view_is) c.in_ok-first.ensures.own in
    let lined : IsLined (without_item item.req.0 c.self.inside.waiting.items)
    (without_item item.req.0 c.self.inside.lines.items) = lined-taken item.req.0 _ _ item room.5 room.7 own in
    let one = c.remove.ensures in
    let two = c.remove-2.ensures in
    let run = c.insert.ensures in (
      omega (arith, gone, room, one.capacity, run.len),
      omega (arith, gone, room, two.len),
      omega (arith, gone, room, two.capacity, run.len),
      omega (arith, gone, room, run.len, run.capacity),
      omega (arith, gone, room, run.len),
      one.order,
      run.order,
      rw (one.items, two.items) lined,
    )
