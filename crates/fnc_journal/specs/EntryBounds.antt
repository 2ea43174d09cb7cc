-- What an entry can hold: names as they are read, and of a device only what options can define, each text and each
-- number by itself. Each entry that a line gives is within these bounds, and so is each that is read from text.
use Rattle.std.specs.Prelude.{ℕ, List, [], ◌∷◌, Bool, true, not, ◌&&◌, ◌==◌, nat_lt, nat_le, length}
use Rattle.std.specs.List.{list_all, list_any}
use Rattle.fnc_journal.specs.declared.definition.Definition.{Definition}
use Rattle.fnc_journal.specs.declared.definition.Description.{Description}
use Rattle.fnc_journal.specs.declared.definition.Parameter.{Parameter}
use Rattle.fnc_journal.specs.declared.definition.Registration.{Registration}
use Rattle.fnc_journal.specs.declared.entry.Entry.{Entry}
use Rattle.fnc_journal.specs.declared.limits.TheConstants.{
  LONGEST_NAME,
  MOST_DEVICES_OF_LEVEL,
  MOST_HOSTS,
  MOST_LEVELS_OF_TARGET,
  MOST_OPTIONS,
  MOST_PARAMETERS,
}
use Rattle.fnc_journal.specs.declared.event.Confirmation.{Confirmation}
use Rattle.fnc_journal.specs.declared.event.Described.{Described}
use Rattle.fnc_journal.specs.declared.event.Event.{Event}
use Rattle.fnc_journal.specs.declared.event.LevelCleared.{LevelCleared}
use Rattle.fnc_journal.specs.declared.event.LevelSet.{LevelSet}
use Rattle.fnc_journal.specs.declared.event.Request.{Request}
use Rattle.fnc_journal.specs.declared.entry.LevelTarget.{LevelTarget}
use Rattle.fnc_journal.specs.Bounds.{
  is_allowed,
  is_base,
  is_cap,
  is_carrier,
  is_host,
  is_host_pair,
  is_option_name,
  is_own_option,
  is_priority,
  is_time,
}
use Rattle.fnc_journal.specs.History.{History}
use Rattle.fnc_journal.specs.Names.{is_name}

-- what a definition says of nodes
abbrev pub are_nodes : Definition → Bool
are_nodes d =
    d.actions.off
    && nat_le (length d.hosts) MOST_HOSTS
    && list_all is_host d.hosts
    && nat_le (length d.map) MOST_HOSTS
    && list_all is_host_pair d.map
    && is_carrier d.argument

-- its limits, and its own options
abbrev pub are_limits : Definition → Bool
are_limits d =
    is_cap d.cap
    && is_priority d.priority
    && is_base d.base
    && is_time d.max
    && is_time d.keep
    && nat_le (length d.own) MOST_OPTIONS
    && list_all is_own_option d.own

-- what it allows each action
abbrev pub are_allowed : Definition → Bool
are_allowed d =
    is_allowed d.on && is_allowed d.off && is_allowed d.reboot && is_allowed d.list && is_allowed d.status

-- the bounds of a definition
abbrev pub is_bounded : Definition → Bool
is_bounded d = are_nodes d && are_limits d && are_allowed d

-- the name of an agent has no equals sign
abbrev pub is_agent_name : List ℕ → Bool
is_agent_name name = is_name name && not (list_any (λ b. b == 61) name)

-- the bounds of a device
abbrev pub is_device : Registration → Bool
is_device r = is_name r.name && is_agent_name r.agent && is_bounded r.definition

abbrev pub is_parameter : Parameter → Bool
is_parameter p = is_option_name p.name

-- the bounds of what is told of an agent
abbrev pub is_described : Description → Bool
is_described d =
    d.actions.off
    && nat_le (length d.parameters) MOST_PARAMETERS
    && list_all is_parameter d.parameters
    && is_carrier d.target

-- what a level is for: a name, or a pattern of 1 to 255 bytes
abbrev pub is_target : LevelTarget → Bool
is_target (LevelTarget.Name name) = is_name name
is_target (LevelTarget.Pattern pattern) = nat_lt 0 (length pattern) && nat_le (length pattern) LONGEST_NAME

-- the index of a level
abbrev pub is_index : ℕ → Bool
is_index index = nat_lt 0 index && nat_le index MOST_LEVELS_OF_TARGET

-- the bounds of a level: 1 to 8 devices
abbrev pub is_level : LevelSet → Bool
is_level level =
    is_index level.index
    && is_target level.target
    && nat_lt 0 (length level.devices)
    && nat_le (length level.devices) MOST_DEVICES_OF_LEVEL
    && list_all is_name level.devices

abbrev pub is_level_gone : LevelCleared → Bool
is_level_gone level = is_index level.index && is_target level.target

-- the bounds of an agent
abbrev pub is_agent : Described → Bool
is_agent agent = is_agent_name agent.name && is_described agent.description

-- the names in a request, and those in a confirmation
abbrev pub is_request : Request → Bool
is_request request = is_name request.client && is_name request.target

abbrev pub is_confirmation : Confirmation → Bool
is_confirmation confirmation = is_name confirmation.client && is_name confirmation.target

-- the bounds of an event; every other number has the range of its type alone
abbrev pub is_event : Event → Bool
is_event (Event.Device device) = is_device device.registration
is_event (Event.Level level) = is_level level
is_event (Event.LevelGone level) = is_level_gone level
is_event (Event.Agent agent) = is_agent agent
is_event (Event.Ask request) = is_request request
is_event (Event.Confirm confirmation) = is_confirmation confirmation
is_event _ = true

-- the bounds of an entry
abbrev pub is_within : Entry → Bool
is_within e = is_event e.event

-- every entry of a journal is within its bounds
abbrev pub are_within : History → Bool
are_within [] = true
are_within (e ∷ before) = is_within e && are_within before
