-- Which entries say what is known of devices and levels: behind the last of them all that is said of these stays.
use Rattle.std.specs.Prelude.{ℕ, [], ◌∷◌, Bool, true, false, ◌+◌, length, if◌then◌else◌}
use Rattle.fnc_journal.specs.declared.event.Event.{Event}
use Rattle.fnc_journal.specs.History.{History}

-- whether an entry registers or removes a device, or sets or clears a level
abbrev pub is_setup : Event → Bool
is_setup (Event.Device device) = true
is_setup (Event.Gone reg) = true
is_setup (Event.Level set) = true
is_setup (Event.LevelGone cleared) = true
is_setup _ = false

-- how many entries there are up to the last such one
abbrev pub setup_end : History → ℕ
setup_end [] = 0
setup_end (e ∷ before) = if is_setup e.event then length before + 1 else setup_end before
