-- What a command does at the last moment: an event that it calls for enters, or it is denied and nothing changes.
use Rattle.std.specs.Prelude.{ℕ, ◌≡◌, ◌≤◌, ◌⊎◌, false, Result, Ok, Err}
use Rattle.fnc_journal.specs.declared.cause.Cause.{Cause}
use Rattle.fnc_journal.specs.declared.definition.Definition.{Definition}
use Rattle.fnc_journal.specs.declared.event.Event.{Event}
use Rattle.fnc_device.specs.declared.fault.DefineFault.{DefineFault}
use Rattle.fnc_core.specs.Cored.{Cored, Enters}
use Rattle.fnc_desk.specs.Called.{Called}
use Rattle.fnc_desk.specs.Causes.{define_cause}
use Rattle.fnc_desk.specs.Inputs.{is_exit}
use Rattle.fnc_desk.specs.declared.denial.Denial.{Denial}

-- an event that is called for enters, with the room that it needs
pub record Obeys (IsCalled : Called → Type 0) (old new : Cored) : Type 0 where
  pub event : Event
  pub need : ℕ
  pub called : IsCalled (Ok event)
  pub enters : Enters old new old.last event need
  pub needs : is_exit event ≡ false → 1 ≤ need

-- a cause is called for, and nothing has changed
abbrev pub Refuses : (Called → Type 0) → Cored → Cored → Denial → Type 0
Refuses IsCalled old new denial = (new ≡ old) × IsCalled (Err denial.cause)

-- the same, or memory was refused
abbrev pub Denies : (Called → Type 0) → Cored → Cored → Denial → Type 0
Denies IsCalled old new denial =
    (new ≡ old) × ((denial.cause ≡ Cause.NoMemory) ⊎ IsCalled (Err denial.cause))

-- options that define no device, by their first fault
pub record IsDefineFault (denial : Denial) (read : Result Definition DefineFault) : Type 0 where
  pub fault : DefineFault
  pub read_is : read ≡ Err fault
  pub cause : denial.cause ≡ define_cause fault

-- a definition is what the options define, unless memory was refused
abbrev pub Defines : Result Definition Denial → Result Definition DefineFault → Type 0
Defines (Ok definition) read = read ≡ Ok definition
Defines (Err denial) read = (denial.cause ≡ Cause.NoMemory) ⊎ IsDefineFault denial read
