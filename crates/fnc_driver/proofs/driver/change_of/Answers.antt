-- The number that the core gives a device is the one that it bears, since it is in order.
use Rattle.std.proofs.Common.{◌≡◌, subst, true}
use borrow.Author.Tests.{eqb-true}
use Rattle.fnc_journal.specs.declared.event.Event.{Event}
use Rattle.fnc_journal.specs.Found.{devices}
use Rattle.fnc_journal.specs.Lawful.{in_order}
use Rattle.fnc_journal.specs.Known.{LeavesFewNames}
use Rattle.fnc_driver.proofs.driver.change_of.Goals as goal

pub returns-in-Device-clause-few : goal.returns-in-Device-clause-few
returns-in-Device-clause-few c m =
    let h = c.args.core.now.history in
    let device = c.in-Device.device in
    let ordered = subst (λ (e : Event). in_order e h ≡ true) c.in-Device.is c.requires.ordered in
    subst (λ n. LeavesFewNames m (Event.Device (record { reg = record { 0 = n }; registration = device.registration })) h)
    (eqb-true device.reg.0 (devices h) ordered)
    (subst (λ (e : Event). LeavesFewNames m e h) c.in-Device.is (c.requires.few m))
