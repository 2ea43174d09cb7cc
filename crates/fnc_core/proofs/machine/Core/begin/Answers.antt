-- The next request has the next number.
use Rattle.std.proofs.Common.{◌≡◌, ◌≤◌, ◌+◌, ◌∙◌, sym, ap, arith, length}
use Rattle.fnc_journal.specs.declared.limits.TheConstants.{GREATEST_JOURNAL}
use Rattle.fnc_journal.specs.Found.{devices, asks, starts}
use Rattle.fnc_journal.specs.Owed.{owed}
use Rattle.fnc_journal.proofs.Fresh.{asks-most}
use Rattle.fnc_core.proofs.Numbers.{holds-replied}
use Rattle.fnc_core.proofs.machine.Core.begin.Goals as goal

pub overflow_add-self : goal.overflow_add-self
overflow_add-self c =
    let r = c.self.invariant.rests.between in
    let room : length c.self.inside.parts.history + owed c.self.inside.parts.history ≤ c.self.inside.parts.limit =
    r.room in
    let small : c.self.inside.parts.limit ≤ GREATEST_JOURNAL = r.small in
    let most : asks c.self.inside.parts.history ≤ length c.self.inside.parts.history =
    asks-most c.self.inside.parts.history in
    let next : c.self.inside.next_req ≡ asks c.self.inside.parts.history = c.self.invariant.next_req in
    omega (arith, room, small, most, next)

pub invariant_of-self-2 : goal.invariant_of-self-2
invariant_of-self-2 c =
    holds-replied c.self.inside.last c.begin.new.self c.give_replies.new.self _ _ _ c.give_replies.ensures.gave
    c.give_replies.ensures.rests
    (c.self.invariant.next_reg ∙ sym (ap devices c.reserve.ensures.stays.history)
    ∙ sym (ap devices c.in_ok-begin.ensures.adds.history))
    (ap (λ n. n + 1) (c.self.invariant.next_req ∙ sym (ap asks c.reserve.ensures.stays.history))
    ∙ sym (ap asks c.in_ok-begin.ensures.adds.history))
    (c.self.invariant.next_run ∙ sym (ap starts c.reserve.ensures.stays.history)
    ∙ sym (ap starts c.in_ok-begin.ensures.adds.history))
