-- What an entry of a journal makes of its configuration, told of a configuration before and after.
use Rattle.std.specs.Prelude.{◌≡◌, ℕ, ◌∷◌, true, length}
use Rattle.fnc_journal.specs.declared.event.Event.{Event}
use Rattle.fnc_journal.specs.History.{History}
use Rattle.fnc_journal.specs.Known.{LeavesFewNames}
use Rattle.fnc_journal.specs.Lawful.{Lawful, in_order}
use Rattle.fnc_config.specs.Configured.{Configured, configured}

-- where the first is the configuration of a lawful journal, the second is that of the journal with an entry of this
-- event
abbrev pub Enters : Configured → Configured → Event → Type 0
Enters old new event =
    (moment : ℕ) (h : History) → Lawful h → old ≡ configured h
    → new ≡ configured (record { moment = moment; event = event } ∷ h)

-- the same of journals of a length, where that is the number of the entry
abbrev pub EntersAt : ℕ → Configured → Configured → Event → Type 0
EntersAt at old new event =
    (moment : ℕ) (h : History) → Lawful h → old ≡ configured h → length h ≡ at
    → new ≡ configured (record { moment = moment; event = event } ∷ h)

-- the event is in order after a lawful journal of this configuration
abbrev pub IsInOrderAfter : Configured → Event → Type 0
IsInOrderAfter old event = (h : History) → Lawful h → old ≡ configured h → in_order event h ≡ true

-- after such a journal it leaves few names registered, where it is in order
abbrev pub LeavesFewAfter : Configured → Event → Type 0
LeavesFewAfter old event =
    (moment : ℕ) (h : History) → Lawful h → old ≡ configured h → in_order event h ≡ true
    → LeavesFewNames moment event h
