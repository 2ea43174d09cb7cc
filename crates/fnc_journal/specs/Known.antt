-- How much a journal knows at once: few names of devices are registered, and each level is within its bounds. So the
-- plan of every request is small.
use Rattle.std.specs.Prelude.{ℕ, List, [], ◌∷◌, Bool, false, if◌then◌else◌, ◌+◌, ◌≤◌, length}
use Rattle.std.specs.List.{AllByRecursion}
use Rattle.fnc_journal.specs.declared.event.Event.{Event}
use Rattle.fnc_journal.specs.declared.limits.TheConstants.{MOST_DEVICES, MOST_DEVICES_OF_LEVEL, MOST_LEVELS_OF_TARGET}
use Rattle.fnc_journal.specs.History.{History}
use Rattle.fnc_journal.specs.Missing.{is_number}
use Rattle.fnc_journal.specs.Registered.{current}

-- whether an entry makes the registration that is its name's current one in a journal
abbrev pub is_registered_here : History → Event → Bool
is_registered_here h (Event.Device device) = is_number (current device.registration.name h) device.reg.0
is_registered_here h _ = false

-- how many of these entries make a registration that is its name's current one in a journal
abbrev pub registered_among : History → History → ℕ
registered_among h [] = 0
registered_among h (e ∷ es) =
    if is_registered_here h e.event then registered_among h es + 1 else registered_among h es

-- how many names are registered: each counts once, by its current registration
abbrev pub names_registered : History → ℕ
names_registered h = registered_among h h

-- an entry leaves no more names registered than may be
abbrev pub LeavesFewNames : ℕ → Event → History → Type 0
LeavesFewNames m event h = names_registered (record { moment = m; event = event } ∷ h) ≤ MOST_DEVICES

-- a level has an index that a level may have, and no more devices than it may have
pub record IsSmallLevel (index : ℕ) (devices : List (List ℕ)) : Type 0 where
  pub least : 1 ≤ index
  pub most : index ≤ MOST_LEVELS_OF_TARGET
  pub few : length devices ≤ MOST_DEVICES_OF_LEVEL

-- an entry that sets a level sets one that is within its bounds
abbrev pub IsBoundedLevel : Event → Type 0
IsBoundedLevel (Event.Level set) = IsSmallLevel set.index set.devices
IsBoundedLevel _ = Unit {0}

-- few names are registered, and each level was set within its bounds
pub record KnowsFew (h : History) : Type 0 where
  pub names : names_registered h ≤ MOST_DEVICES
  pub levels : AllByRecursion (λ e. IsBoundedLevel e.event) h
