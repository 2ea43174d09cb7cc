-- A device is one of the first ever; another input leaves as many names as stood.
use Rattle.std.proofs.Common.{◌≡◌, sym, subst, true, nat_lt}
use Rattle.std.proofs.lemmas.Bool.{ltb-true}
use Rattle.fnc_journal.specs.declared.event.Event.{Event}
use Rattle.fnc_journal.specs.declared.limits.TheConstants.{MOST_DEVICES}
use Rattle.fnc_journal.specs.Lawful.{in_order}
use Rattle.fnc_journal.specs.Known.{LeavesFewNames}
use Rattle.fnc_core.proofs.KnownFew.{few-undevice}
use Rattle.fnc_driver.proofs.driver.leaves_few_names.Goals as goal
use Rattle.fnc_driver.proofs.FewNames.{few-first, on-true, undevice}

pub returns-in-Device : goal.returns-in-Device
returns-in-Device c =
    let h = c.args.core.now.history in
    let device = c.in-Device.device in
    let ordered = subst (λ (e : Event). in_order e h ≡ true) c.in-Device.is c.requires.ordered in
    on-true (nat_lt device.reg.0 MOST_DEVICES) (λ below m.
    subst (λ (e : Event). LeavesFewNames m e h) (sym c.in-Device.is)
    (few-first h device ordered (ltb-true device.reg.0 MOST_DEVICES below) m))

pub returns-in_default : goal.returns-in_default
returns-in_default c m =
    let event = c.args.event.now in
    few-undevice m event c.args.core.now.history (undevice event c.in_default.not-Device) c.requires.sound.few
