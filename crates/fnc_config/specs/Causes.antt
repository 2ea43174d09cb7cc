-- Why a change of a configuration is refused: its first cause, which is free only where memory is refused.
use Rattle.std.specs.Prelude.{
  ◌≡◌,
  ℕ,
  List,
  [],
  ◌∷◌,
  Bool,
  false,
  ◌&&◌,
  ◌||◌,
  nat_le,
  nat_lt,
  bytes_eq,
  if◌then◌else◌,
  length,
  Option,
  Some,
  None,
  Result,
  Ok,
  Err,
}
use Rattle.std.specs.List.{list_any}
use Rattle.std.specs.Option.{option_or}
use Rattle.fnc_journal.specs.declared.entry.LevelTarget.{LevelTarget}
use Rattle.fnc_journal.specs.declared.limits.TheConstants.{
  MOST_AGENTS,
  MOST_DEVICES,
  MOST_DEVICES_OF_LEVEL,
  MOST_LEVELS,
  MOST_LEVELS_OF_TARGET,
}
use Rattle.fnc_config.specs.declared.faults.AgentFault.{AgentFault}
use Rattle.fnc_config.specs.declared.faults.LevelFault.{LevelFault}
use Rattle.fnc_config.specs.declared.faults.RegisterFault.{RegisterFault}
use Rattle.fnc_config.specs.Configured.{Configured, other_levels, without}
use Rattle.fnc_config.specs.Patterns.{is_pattern}

-- why a device of a name is not registered: 128 others are
abbrev pub register_cause : List ℕ → Configured → Option RegisterFault
register_cause name c =
    if nat_le MOST_DEVICES (length (without name c.devices)) then Some RegisterFault.TooManyDevices else None

-- a registration is refused for that cause, and else at most for want of memory
abbrev pub Registers : Result (Unit {0}) RegisterFault → Option RegisterFault → Type 0
Registers (Ok done) cause = cause ≡ None
Registers (Err RegisterFault.NoMemory) cause = cause ≡ None
Registers (Err RegisterFault.TooManyDevices) cause = cause ≡ Some RegisterFault.TooManyDevices

-- why an agent of a name is not taken: 64 others are
abbrev pub agent_cause : List ℕ → Configured → Option AgentFault
agent_cause name c = if nat_le MOST_AGENTS (length (without name c.agents)) then Some AgentFault.TooManyAgents else None

-- a description is refused for that cause, and else at most for want of memory
abbrev pub Describes : Result (Unit {0}) AgentFault → Option AgentFault → Type 0
Describes (Ok done) cause = cause ≡ None
Describes (Err AgentFault.NoMemory) cause = cause ≡ None
Describes (Err AgentFault.TooManyAgents) cause = cause ≡ Some AgentFault.TooManyAgents

-- an index is one of 1 to 9
abbrev pub index_cause : ℕ → Option LevelFault
index_cause index = if nat_le 1 index && nat_le index MOST_LEVELS_OF_TARGET then None else Some LevelFault.BadIndex

-- whether a name stands twice in a list
abbrev pub repeats : List (List ℕ) → Bool
repeats [] = false
repeats (name ∷ names) = list_any (bytes_eq name) names || repeats names

-- a level has at most 8 devices, none of them twice
abbrev pub devices_cause : List (List ℕ) → Option LevelFault
devices_cause devices =
    if nat_lt MOST_DEVICES_OF_LEVEL (length devices) then Some LevelFault.TooManyPlaces
    else if repeats devices then Some LevelFault.RepeatedDevice
    else None

-- a pattern has a reading
abbrev pub pattern_cause : List ℕ → Option LevelFault
pattern_cause text = if is_pattern text then None else Some LevelFault.BadPattern

-- a name is no pattern
abbrev pub target_cause : LevelTarget → Option LevelFault
target_cause (LevelTarget.Name text) = None
target_cause (LevelTarget.Pattern text) = pattern_cause text

-- fewer than 1,024 other levels stand
abbrev pub room_cause : LevelTarget → ℕ → Configured → Option LevelFault
room_cause target index c =
    if nat_le MOST_LEVELS (other_levels target index c) then Some LevelFault.TooManyLevels else None

-- why a level is not set: the first of these
abbrev pub level_cause : LevelTarget → ℕ → List (List ℕ) → Configured → Option LevelFault
level_cause target index devices c =
    option_or (index_cause index)
    (option_or (devices_cause devices) (option_or (target_cause target) (room_cause target index c)))

-- a level is refused for that cause, or for want of memory, without which a text is not known to be a pattern
abbrev pub Sets : {X : Type 0} → Result X LevelFault → Option LevelFault → Type 0
Sets (Ok done) cause = cause ≡ None
Sets (Err LevelFault.NoMemory) cause = Unit {0}
Sets (Err fault) cause = cause ≡ Some fault
