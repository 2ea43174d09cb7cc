-- The devices that an operation tries were registered with definitions within their bounds.
use Rattle.std.proofs.Common.{
  ℕ,
  List,
  [],
  ◌∷◌,
  Bool,
  true,
  false,
  ◌≡◌,
  ◌≤◌,
  refl,
  Option,
  Some,
  None,
  cond,
  length,
  map,
  arith,
}
use Rattle.std.specs.Prelude.{filter_map, is_none, option_map, option_and_then}
use Rattle.std.specs.List.{AllByRecursion, cons_option, list_any}
use Rattle.fnc_journal.specs.declared.entry.Kind.{Kind}
use Rattle.fnc_journal.specs.declared.entry.Reg.{Reg}
use Rattle.fnc_journal.specs.declared.definition.Registration.{Registration}
use Rattle.fnc_journal.specs.Bounds.{IsBounded}
use Rattle.fnc_journal.specs.History.{History}
use Rattle.fnc_journal.specs.Found.{registration}
use Rattle.fnc_journal.specs.Device.{Device}
use Rattle.fnc_journal.specs.Slots.{device_of, is_fit, fit, fit_devices, place_of}
use Rattle.fnc_ops.specs.Stands.{AreBounded}
use Rattle.fnc_records.proofs.LevelSteps.{ForSome}

-- a device's definition is within its bounds
abbrev pub IsBoundedDevice : Device → Type 0
IsBoundedDevice d = IsBounded d.definition

abbrev IsBoundedRegistration : Registration → Type 0
IsBoundedRegistration r = IsBounded r.definition

bounded-registration : (h : History) (n : ℕ) → AreBounded h → ForSome IsBoundedRegistration (registration n h)
bounded-registration h n b = go (registration n h) refl
  where
    go : (x : Option Registration) → registration n h ≡ x → ForSome IsBoundedRegistration x
    go None e = tt
    go (Some r) e = b n r e

pub bounded-device : (h : History) → AreBounded h → (reg : Reg) → ForSome IsBoundedDevice (device_of h reg)
bounded-device h b reg = go (registration reg.0 h) (bounded-registration h reg.0 b)
  where
    go : (x : Option Registration) → ForSome IsBoundedRegistration x →
        ForSome IsBoundedDevice (option_map (λ (r : Registration). record { reg = reg.0; definition = r.definition }) x)
    go None p = tt
    go (Some r) p = p

bounded-place : (kind : Kind) (h : History) → AreBounded h → (place : Option Reg) →
    ForSome IsBoundedDevice (place_of kind h place)
bounded-place kind h b None = tt
bounded-place kind h b (Some reg) = go (device_of h reg) (bounded-device h b reg)
  where
    fits : (d : Device) → IsBoundedDevice d → (c : Bool) → ForSome IsBoundedDevice (cond c (Some d) None)
    fits d p true = p
    fits d p false = tt

    go : (x : Option Device) → ForSome IsBoundedDevice x → ForSome IsBoundedDevice (option_and_then (fit kind) x)
    go None p = tt
    go (Some d) p = fits d p (is_fit kind d.definition)

bounded-places : (kind : Kind) (h : History) → AreBounded h → (places : List (Option Reg)) →
    AllByRecursion IsBoundedDevice (filter_map (λ d. d) (map (place_of kind h) places))
bounded-places kind h b [] = tt
bounded-places kind h b (p ∷ ps) = go (place_of kind h p) (bounded-place kind h b p) (bounded-places kind h b ps)
  where
    go : (x : Option Device) → ForSome IsBoundedDevice x → AllByRecursion IsBoundedDevice
        (filter_map (λ d. d) (map (place_of kind h) ps)) →
        AllByRecursion IsBoundedDevice (cons_option x (filter_map (λ d. d) (map (place_of kind h) ps)))
    go None p a = a
    go (Some d) p a = (p, a)

-- those of a level
pub bounded-devices : (kind : Kind) (h : History) → AreBounded h → (places : List (Option Reg)) →
    AllByRecursion IsBoundedDevice (fit_devices (map (place_of kind h) places))
bounded-devices kind h b places = go (list_any is_none (map (place_of kind h) places))
  where
    go : (c : Bool) → AllByRecursion IsBoundedDevice (cond c [] (filter_map (λ d. d) (map (place_of kind h) places)))
    go true = tt
    go false = bounded-places kind h b places

there-few : (kind : Kind) (h : History) (places : List (Option Reg)) →
    length (filter_map (λ d. d) (map (place_of kind h) places)) ≤ length places
there-few kind h [] = omega arith
there-few kind h (p ∷ ps) = go (place_of kind h p) (there-few kind h ps)
  where
    go : (x : Option Device) → length (filter_map (λ d. d) (map (place_of kind h) ps)) ≤ length ps →
        length (cons_option x (filter_map (λ d. d) (map (place_of kind h) ps))) ≤ length (p ∷ ps)
    go None k = omega (arith, k)
    go (Some d) k = omega (arith, k)

-- they are no more than its places
pub devices-few : (kind : Kind) (h : History) (places : List (Option Reg)) →
    length (fit_devices (map (place_of kind h) places)) ≤ length places
devices-few kind h places = go (list_any is_none (map (place_of kind h) places))
  where
    go : (c : Bool) → length (cond c [] (filter_map (λ d. d) (map (place_of kind h) places))) ≤ length places
    go true = omega arith
    go false = there-few kind h places
