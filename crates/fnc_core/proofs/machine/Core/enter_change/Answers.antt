-- The numbers go on with the change.
use Rattle.std.proofs.Common.{◌≡◌, ◌≤◌, ◌+◌, ◌∙◌, sym, ap, arith, length}
use Rattle.fnc_journal.specs.declared.limits.TheConstants.{GREATEST_JOURNAL}
use Rattle.fnc_journal.specs.Found.{devices, asks, starts}
use Rattle.fnc_journal.specs.Owed.{owed}
use Rattle.fnc_core.proofs.Numbers.{devices-most, holds-replied}
use Rattle.fnc_core.proofs.machine.Core.enter_change.Goals as goal

pub overflow_add-self : goal.overflow_add-self
overflow_add-self c =
    let r = c.self.invariant.rests.between in
    let room : length c.self.inside.parts.history + owed c.self.inside.parts.history ≤ c.self.inside.parts.limit =
    r.room in
    let small : c.self.inside.parts.limit ≤ GREATEST_JOURNAL = r.small in
    let most : devices c.self.inside.parts.history ≤ length c.self.inside.parts.history =
    devices-most c.self.inside.parts.history in
    let next : c.self.inside.next_reg ≡ devices c.self.inside.parts.history = c.self.invariant.next_reg in
    omega (arith, room, small, most, next)

pub invariant_of-self-in-Confirm : goal.invariant_of-self-in-Confirm
invariant_of-self-in-Confirm c =
    holds-replied c.self-in-Confirm.inside.last c.confirm.new.self c.give_replies.new.self _ _ _
    c.give_replies.ensures.gave c.give_replies.ensures.rests
    (c.self-in-Confirm.invariant.next_reg ∙ sym (ap devices c.confirm.ensures.adds.history))
    (c.self-in-Confirm.invariant.next_req ∙ sym (ap asks c.confirm.ensures.adds.history))
    (c.self-in-Confirm.invariant.next_run ∙ sym (ap starts c.confirm.ensures.adds.history))
