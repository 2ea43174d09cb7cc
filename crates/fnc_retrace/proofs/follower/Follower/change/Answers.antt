use Rattle.std.proofs.Common.{◌≡◌, true, subst}
use Rattle.std.proofs.lemmas.Bool.{and_parts}
use Rattle.fnc_journal.specs.declared.event.Event.{Event}
use Rattle.fnc_journal.specs.declared.event.Registered.{Registered}
use Rattle.fnc_journal.specs.Bounds.{IsBounded}
use Rattle.fnc_journal.specs.EntryBounds.{is_bounded, is_event}
use Rattle.fnc_journal.proofs.DefinitionBounds.{is-bounded}
use Rattle.fnc_retrace.proofs.follower.Follower.change.Goals as goal

-- a device that is within its bounds has a definition that is
device-bounded : (event : Event) (device : Registered) → event ≡ Event.Device device → is_event event ≡ true →
    IsBounded device.registration.definition
device-bounded event device is within =
    let told : is_event (Event.Device device) ≡ true = subst (λ (e : Event). is_event e ≡ true) is within in
    is-bounded device.registration.definition (and_parts _ (is_bounded device.registration.definition) told).1

pub register-requires-clause-bounded : goal.register-requires-clause-bounded
register-requires-clause-bounded c =
    device-bounded c.args.event c.in-Device.device c.in-Device.is c.requires.within
