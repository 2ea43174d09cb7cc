-- The new item comes to both lists, in one of the places that are spare.
use Rattle.std.proofs.Common.{◌≡◌, ◌<◌, false, sym, subst, arith}
use Rattle.fnc_queue.specs.Items.{is_waiting, with_item}
use Rattle.fnc_queue.specs.Lines.{with_line, IsLined}
use Rattle.fnc_queue.specs.Queued.{Queued}
use Rattle.fnc_queue.proofs.LineLemmas.{lined-with}
use Rattle.fnc_queue.proofs.queue.Queue.add.Goals as goal

pub invariant_of-self : goal.invariant_of-self
invariant_of-self c =
    let room = c.self.invariant in
    let spare : 0 < c.self.inside.spare = subst (λ (q : Queued). 0 < q.spare) (sym c.self.view_is) c.requires.room in
    let other : is_waiting c.args.item.req.0 c.self.inside.waiting.items ≡ false =
    subst (λ (q : Queued). is_waiting c.args.item.req.0 q.waiting ≡ false) (sym c.self.view_is) c.requires.other in
    let lined : IsLined (with_item c.args.item c.self.inside.waiting.items)
    (with_line c.args.item c.self.inside.lines.items) = lined-with c.args.item _ _ other room.7 in
    let one = c.insert.ensures in
    let two = c.insert-2.ensures in (
      omega (arith, spare, room, one.len, one.capacity),
      omega (arith, room, one.len, two.len),
      omega (arith, spare, room, one.len, two.capacity),
      omega (arith, spare, room, one.len),
      omega (arith, spare, room, one.len),
      one.order,
      room.6,
      rw (one.items, two.items) lined,
    )
