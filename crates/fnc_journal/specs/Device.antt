-- A registered device: what its agent can do, which nodes it names, and how long it waits.
use Rattle.std.specs.Prelude.{
  ℕ,
  List,
  [],
  ◌∷◌,
  Bool,
  true,
  false,
  ◌+◌,
  ◌-◌,
  ◌%◌,
  ◌||◌,
  if◌then◌else◌,
  nat_le,
  bytes_eq,
  find,
  option_map,
  unwrap_or,
}
use Rattle.std.specs.List.{list_any}
use Rattle.fnc_journal.specs.declared.entry.Kind.{Kind}
use Rattle.fnc_journal.specs.declared.definition.Allowed.{Allowed}
use Rattle.fnc_journal.specs.declared.definition.Base.{Base}
use Rattle.fnc_journal.specs.declared.definition.Definition.{Definition}
use Rattle.fnc_journal.specs.declared.definition.Delay.{Delay}
use Rattle.fnc_journal.specs.declared.names.Pair.{Pair}

-- a device: a registration's number, and what it was registered with
pub record Device : Type 0 where
  pub reg : ℕ
  pub definition : Definition

-- the word, time and tries that an action is allowed
abbrev pub allowed : Definition → Kind → Allowed
allowed d Kind.On = d.on
allowed d Kind.Off = d.off
allowed d Kind.Reboot = d.reboot
allowed d Kind.List = d.list
allowed d Kind.Status = d.status

-- whether the agent has an action
abbrev pub has : Definition → Kind → Bool
has d Kind.On = d.actions.on
has d Kind.Off = d.actions.off
has d Kind.Reboot = d.actions.reboot
has d Kind.List = d.actions.list
has d Kind.Status = d.actions.status

-- whether a device can serve a request: a reboot needs only off
abbrev pub serves : Definition → Kind → Bool
serves d Kind.Reboot = d.actions.off
serves d kind = has d kind

-- whether the device names a node, as a host or in its map
abbrev pub names : Definition → List ℕ → Bool
names d target = list_any (bytes_eq target) d.hosts || list_any (λ p. bytes_eq target p.name) d.map

-- what the device calls a node: its first port in the map, else its name
abbrev pub port_of : Definition → List ℕ → List ℕ
port_of d target =
    unwrap_or (option_map (λ (p : Pair). p.value) (find (λ (p : Pair). bytes_eq target p.name) d.map)) target

-- off and reboot cut a node's power: they wait for their delay, and an operator's word can stand for them
abbrev pub cuts_power : Kind → Bool
cuts_power Kind.Off = true
cuts_power Kind.Reboot = true
cuts_power _ = false

-- the base of the delay, which may be written for each node
abbrev pub delay_for : List Delay → List ℕ → ℕ
delay_for [] target = 0
delay_for (d ∷ ds) target = if bytes_eq target d.name then d.ms else delay_for ds target

-- the base of the delay for a node
abbrev pub base_of : Base → List ℕ → ℕ
base_of (Base.Fixed ms) target = ms
base_of (Base.ByNode delays) target = delay_for delays target

-- the delay drawn by a coin: at least the base, and below the max where that is greater
abbrev pub drawn : ℕ → ℕ → ℕ → ℕ
drawn base most coin = if nat_le most base then base else base + coin % (most - base)

-- the delay before the first try of an action
abbrev pub delay : Definition → Kind → List ℕ → ℕ → ℕ
delay d kind target coin = if cuts_power kind then drawn (base_of d.base target) d.max coin else 0
