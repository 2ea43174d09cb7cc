-- What an agent is sent for an action on a node: the action's word, the node, its port, and the device's own options.
use Rattle.std.specs.Prelude.{
  ℕ,
  List,
  Bool,
  not,
  ◌&&◌,
  if◌then◌else◌,
  Option,
  Some,
  None,
  bytes_eq,
  codes,
  filter,
}
use Rattle.std.specs.List.{list_any}
use Rattle.fnc_journal.specs.declared.definition.Definition.{Definition}
use Rattle.fnc_journal.specs.declared.entry.Kind.{Kind}
use Rattle.fnc_journal.specs.declared.names.Pair.{Pair}
use Rattle.fnc_journal.specs.Device.{allowed, port_of}
use Rattle.fnc_agent_api.specs.Options.{pair}
use Rattle.fnc_agent_api.specs.OptionLines.{sent, option_lines}

-- whether an own option of this name is sent: the fencer itself says the action and the node
abbrev pub is_sent : List ℕ → Bool
is_sent name = not (bytes_eq name (codes "action")) && not (bytes_eq name (codes "nodename"))

-- the own options that are sent, in their order
abbrev pub own_sent : Definition → List Pair
own_sent d = filter (λ (o : Pair). is_sent o.name) d.own

-- whether the device sets an option by itself
abbrev pub sets : Definition → List ℕ → Bool
sets d name = list_any (λ (o : Pair). bytes_eq name o.name) d.own

-- the port of a node in the option that carries it, where there is one and the device does not set it by itself
abbrev pub port_in : Definition → List ℕ → Option (List ℕ) → Option Pair
port_in d target None = None
port_in d target (Some name) = if sets d name then None else Some (pair name (port_of d target))

-- the node that is named to the agent: none for a list, which is of all nodes
abbrev pub node_sent : Kind → List ℕ → Option (List ℕ)
node_sent Kind.List target = None
node_sent _ target = Some target

-- its port
abbrev pub port_sent : Definition → Kind → List ℕ → Option Pair
port_sent d Kind.List target = None
port_sent d _ target = port_in d target d.argument

-- what the agent reads: the lines of these options
abbrev pub input : Definition → Kind → List ℕ → List ℕ
input d kind target =
    option_lines (sent (allowed d kind).word (node_sent kind target) (port_sent d kind target) (own_sent d))
