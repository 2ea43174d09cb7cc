-- The item leaves both lists. Where the operation has no item, all stays.
use Rattle.std.proofs.Common.{Bool, ◌≡◌, ◌∙◌, ◌+◌, ap, sym, subst, is_some, false, refl, Some, cond, vec_len, arith}
use Rattle.fnc_queue.specs.Items.{is_waiting, item_of, without_item}
use Rattle.fnc_queue.specs.Lines.{IsLined}
use Rattle.fnc_queue.proofs.ItemLemmas.{without-none}
use Rattle.fnc_queue.proofs.LineLemmas.{found-line, lined-taken}
use Rattle.fnc_queue.proofs.queue.Queue.withdraw.Goals as goal

pub remove-requires-2-clause-there : goal.remove-requires-2-clause-there
remove-requires-2-clause-there c =
    let own : item_of c.args.req.0 c.self.inside.waiting.items ≡ Some c.in_ok-item.item = sym c.remove.ensures.item
    ∙ c.in_ok-item.was in
    found-line c.args.req.0 c.self.inside.waiting.items c.self.inside.lines.items c.in_ok-item.item c.self.invariant.7
    own

pub invariant_of-self-2 : goal.invariant_of-self-2
invariant_of-self-2 c =
    let room = c.self.invariant in
    let own : item_of c.args.req.0 c.self.inside.waiting.items ≡ Some c.in_ok-item.item = sym c.remove.ensures.item
    ∙ c.in_ok-item.was in
    let gone : vec_len c.remove.new.items + 1 ≡ vec_len c.self.inside.waiting =
    subst (λ (found : Bool). cond found (vec_len c.remove.new.items + 1) (vec_len c.remove.new.items)
    ≡ vec_len c.self.inside.waiting) (ap is_some c.in_ok-item.was) c.remove.ensures.len in
    let lined : IsLined (without_item c.args.req.0 c.self.inside.waiting.items)
    (without_item c.in_ok-item.item.req.0 c.self.inside.lines.items) = lined-taken c.args.req.0 _ _ c.in_ok-item.item
    room.5 room.7 own in
    let one = c.remove.ensures in
    let two = c.remove-2.ensures in (
      omega (arith, gone, room, one.capacity),
      omega (arith, gone, room, two.len),
      omega (arith, gone, room, two.capacity),
      omega (arith, gone, room),
      omega (arith, gone, room),
      one.order,
      room.6,
      rw (one.items, two.items) lined,
    )

pub returns-in_err-item-clause-after : goal.returns-in_err-item-clause-after
returns-in_err-item-clause-after c =
    let none : is_waiting c.args.req.0 c.self.inside.waiting.items ≡ false = sym c.remove.ensures.found
    ∙ ap is_some (c.in_err-item.was) in
    let same : c.remove.new.items.items ≡ c.self.inside.waiting.items = c.remove.ensures.items
    ∙ without-none _ _ none in
    rw (← c.self.view_is, none, same) refl
