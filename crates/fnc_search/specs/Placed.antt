-- The device that a name has for an action.
use Rattle.std.specs.Prelude.{ℕ, List, Option, option_map}
use Rattle.fnc_journal.specs.declared.entry.Kind.{Kind}
use Rattle.fnc_journal.specs.History.{History}
use Rattle.fnc_journal.specs.Device.{Device}
use Rattle.fnc_journal.specs.Registered.{current}
use Rattle.fnc_journal.specs.Plan.{reg_of}
use Rattle.fnc_journal.specs.Slots.{place_of}

-- the device of a name, where it is registered and fit for an action
abbrev pub placed : Kind → History → List ℕ → Option Device
placed kind before name = place_of kind before (option_map reg_of (current name before))
