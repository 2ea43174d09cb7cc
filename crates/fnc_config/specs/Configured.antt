-- What contracts see of a configuration, and what each entry of a journal makes of it.
use Rattle.std.specs.Prelude.{
  ℕ,
  List,
  [],
  ◌∷◌,
  ◌++◌,
  ◌==◌,
  ◌+◌,
  Option,
  Some,
  None,
  bytes_eq,
  if◌then◌else◌,
  length,
  unwrap_or,
}
use Rattle.std.specs.Map.{lookup, remove_entry, set_value}
use Rattle.indexmap.specs.IndexMap.{insert_entry}
use Rattle.fnc_journal.specs.declared.entry.LevelTarget.{LevelTarget}
use Rattle.fnc_journal.specs.declared.event.Event.{Event}
use Rattle.fnc_journal.specs.History.{History}
use Rattle.fnc_journal.specs.Levels.{Level, with_level, without_level}

-- names with numbers
abbrev pub Numbered : Type 0
Numbered = List (List ℕ × ℕ)

-- the number of a name
abbrev pub number_of : List ℕ → Numbered → Option ℕ
number_of name ns = lookup (bytes_eq name) ns

-- without a name
abbrev pub without : List ℕ → Numbered → Numbered
without name ns = remove_entry (bytes_eq name) ns

-- with a name at its end, once
abbrev pub with_last : List ℕ → ℕ → Numbered → Numbered
with_last name n ns = without name ns ++ (name, n) ∷ []

-- with a name in its place, or at the end where it is new
abbrev pub with_number : List ℕ → ℕ → Numbered → Numbered
with_number name n ns = insert_entry bytes_eq ns name n

-- without the first name of a number
abbrev pub without_number : ℕ → Numbered → Numbered
without_number n [] = []
without_number n (e ∷ es) = if e.1 == n then es else e ∷ without_number n es

-- targets with the levels that stand for them
abbrev pub Targets : Type 0
Targets = List (List ℕ × List Level)

-- the levels of a target
abbrev pub levels_of : List ℕ → Targets → List Level
levels_of text ts = unwrap_or (lookup (bytes_eq text) ts) []

-- with a level of a target, which keeps its place where a level of it stands
abbrev pub with_level_of : List ℕ → Level → Targets → Targets
with_level_of text l ts = insert_entry bytes_eq ts text (with_level l (levels_of text ts))

-- a target stands only where a level of it does
abbrev pub put_levels : List ℕ → List Level → Targets → Targets
put_levels text [] ts = remove_entry (bytes_eq text) ts
put_levels text (l ∷ ls) ts = set_value (bytes_eq text) ts (l ∷ ls)

-- without the level of an index of a target, which loses its place where that was its last
abbrev pub without_level_of : List ℕ → ℕ → Targets → Targets
without_level_of text index ts = put_levels text (without_level index (levels_of text ts)) ts

-- a configuration: the devices that are registered, in the order of their entries; the levels that stand for names, and
-- for patterns, in the order in which these began to stand; the agents that are described, by their last entries
pub record Configured : Type 0 where
  pub devices : Numbered
  pub names : Targets
  pub patterns : Targets
  pub agents : Numbered

-- of nothing
abbrev pub unconfigured : Configured
unconfigured = record { devices = []; names = []; patterns = []; agents = [] }

-- with a level of a target
abbrev pub with_target_level : LevelTarget → Level → Configured → Configured
with_target_level (LevelTarget.Name text) l c = record c { names = with_level_of text l c.names }
with_target_level (LevelTarget.Pattern text) l c = record c { patterns = with_level_of text l c.patterns }

-- without one
abbrev pub without_target_level : LevelTarget → ℕ → Configured → Configured
without_target_level (LevelTarget.Name text) index c = record c { names = without_level_of text index c.names }
without_target_level (LevelTarget.Pattern text) index c =
    record c { patterns = without_level_of text index c.patterns }

-- with a device, which is registered after all others
abbrev pub with_device : List ℕ → ℕ → Configured → Configured
with_device name reg c = record c { devices = with_last name reg c.devices }

-- without the device of a registration
abbrev pub without_device : ℕ → Configured → Configured
without_device reg c = record c { devices = without_number reg c.devices }

-- without the device of a name
abbrev pub without_name : List ℕ → Configured → Configured
without_name name c = record c { devices = without name c.devices }

-- with an agent that is described by the entry of a number
abbrev pub with_agent : List ℕ → ℕ → Configured → Configured
with_agent name at c = record c { agents = with_number name at c.agents }

-- the levels that stand for a target
abbrev pub levels_for : LevelTarget → Configured → List Level
levels_for (LevelTarget.Name text) c = levels_of text c.names
levels_for (LevelTarget.Pattern text) c = levels_of text c.patterns

-- how many levels stand for these targets
abbrev pub count_levels : Targets → ℕ
count_levels [] = 0
count_levels (t ∷ ts) = length t.1 + count_levels ts

-- how many levels stand beside that of an index of a target
abbrev pub other_levels : LevelTarget → ℕ → Configured → ℕ
other_levels target index c =
    count_levels (without_target_level target index c).names
    + count_levels (without_target_level target index c).patterns

-- what the entry of a number makes of it
abbrev pub configured_by : ℕ → Event → Configured → Configured
configured_by at (Event.Device device) c = with_device device.registration.name device.reg.0 c
configured_by at (Event.Gone reg) c = without_device reg.0 c
configured_by at (Event.Level set) c =
    with_target_level set.target (record { at = at; index = set.index; devices = set.devices }) c
configured_by at (Event.LevelGone cleared) c = without_target_level cleared.target cleared.index c
configured_by at (Event.Agent described) c = with_agent described.name at c
configured_by at _ c = c

-- the configuration of a journal
abbrev pub configured : History → Configured
configured [] = unconfigured
configured (e ∷ before) = configured_by (length before) e.event (configured before)

-- the entry that last described an agent
abbrev pub last_agent_here : List ℕ → ℕ → Event → Option ℕ → Option ℕ
last_agent_here name at (Event.Agent described) earlier = if bytes_eq name described.name then Some at else earlier
last_agent_here name at _ earlier = earlier

-- the last entry that describes an agent
abbrev pub last_agent : List ℕ → History → Option ℕ
last_agent name [] = None
last_agent name (e ∷ before) = last_agent_here name (length before) e.event (last_agent name before)
