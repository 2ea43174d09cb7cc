-- A session that registers few devices in all leaves few names registered.
use Rattle.std.proofs.Common.{ℕ, Bool, true, false, ◌≡◌, ◌<◌, refl, arith}
use Rattle.std.specs.Bool.{OnTrue}
use borrow.Author.Tests.{eqb-true}
use Rattle.fnc_journal.specs.declared.event.Event.{Event}
use Rattle.fnc_journal.specs.declared.event.Registered.{Registered}
use Rattle.fnc_journal.specs.declared.limits.TheConstants.{MOST_DEVICES}
use Rattle.fnc_journal.specs.History.{History}
use Rattle.fnc_journal.specs.Found.{devices, is_device}
use Rattle.fnc_journal.specs.Lawful.{in_order}
use Rattle.fnc_journal.specs.Known.{LeavesFewNames}
use Rattle.fnc_core.proofs.KnownFew.{few-ever}

-- what holds where a test passes
pub on-true : (b : Bool) {P : Type 0} → (b ≡ true → P) → OnTrue b P
on-true true f = f refl
on-true false f = tt

-- a device that is one of the first ever
pub few-first : (h : History) (device : Registered) → in_order (Event.Device device) h ≡ true →
    device.reg.0 < MOST_DEVICES → (m : ℕ) → LeavesFewNames m (Event.Device device) h
few-first h device ordered below m =
    let same : device.reg.0 ≡ devices h = eqb-true _ _ ordered in
    few-ever m (Event.Device device) h (omega (arith, same, below))

-- what is none by its constructor is none by the test
pub undevice : (event : Event) → ((device : Registered) → event ≡ Event.Device device → ⊥) → is_device event ≡ false
undevice (Event.Device device) none = absurd (none device refl)
undevice _ none = refl
