-- Journals whose devices wait for no delay and always have room for a run.
use Rattle.std.specs.Prelude.{ℕ, List, ◌≡◌, ◌≤◌, true}
use Rattle.std.specs.List.{AllByRecursion}
use Rattle.fnc_journal.specs.declared.definition.Definition.{Definition}
use Rattle.fnc_journal.specs.declared.entry.Kind.{Kind}
use Rattle.fnc_journal.specs.declared.event.Event.{Event}
use Rattle.fnc_journal.specs.History.{History}
use Rattle.fnc_journal.specs.Device.{delay, allowed}
use Rattle.fnc_journal.specs.Startable.{has_room}

-- no action waits for a delay, each is allowed a try, and a first run has room
pub record PlainDefinition (d : Definition) : Type 0 where
  pub undelayed : (kind : Kind) (target : List ℕ) (coin : ℕ) → delay d kind target coin ≡ 0
  pub tried : (kind : Kind) → 1 ≤ (allowed d kind).tries
  pub roomy : has_room 0 d.cap ≡ true

-- a registration is of such a definition
abbrev pub PlainEvent : Event → Type 0
PlainEvent (Event.Device device) = PlainDefinition device.registration.definition
PlainEvent _ = Unit {0}

-- every registration of the journal is
abbrev pub PlainDevices : History → Type 0
PlainDevices h = AllByRecursion (λ e. PlainEvent e.event) h
