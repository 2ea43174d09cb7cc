-- The next run has the next number.
use Rattle.std.proofs.Common.{◌≡◌, ◌≤◌, ◌+◌, arith, length}
use Rattle.fnc_journal.specs.declared.limits.TheConstants.{GREATEST_JOURNAL}
use Rattle.fnc_journal.specs.Found.{starts}
use Rattle.fnc_journal.specs.Owed.{owed}
use Rattle.fnc_journal.proofs.Fresh.{starts-most}
use Rattle.fnc_core.proofs.machine.Core.next_start.Goals as goal

pub overflow_add-self : goal.overflow_add-self
overflow_add-self c =
    let r = c.self.invariant.rests.between in
    let room : length c.self.inside.parts.history + owed c.self.inside.parts.history ≤ c.self.inside.parts.limit =
    r.room in
    let small : c.self.inside.parts.limit ≤ GREATEST_JOURNAL = r.small in
    let most : starts c.self.inside.parts.history ≤ length c.self.inside.parts.history =
    starts-most c.self.inside.parts.history in
    let next : c.self.inside.next_run ≡ starts c.self.inside.parts.history = c.self.invariant.next_run in
    omega (arith, room, small, most, next)
