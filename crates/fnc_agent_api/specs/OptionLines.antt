-- What an agent is sent: the action's word, the node's name, its port, and the device's own options.
use Rattle.std.specs.Prelude.{
  ℕ,
  List,
  [],
  ◌∷◌,
  ◌++◌,
  ◌-◌,
  ◌==◌,
  ◌&&◌,
  Bool,
  false,
  not,
  Option,
  Some,
  None,
  length,
  slice_index,
  option_to_list,
  codes,
  IsTrue,
}
use Rattle.std.specs.List.{list_all, flat_map}
use Rattle.fnc_journal.specs.Bounds.{is_option_byte, is_value_byte}
use Rattle.fnc_journal.specs.declared.names.Pair.{Pair}
use Rattle.fnc_agent_api.specs.Options.{pair}

-- a name that can be sent: some bytes that may stand in an option's name, of which the first is no `#`
abbrev pub is_name : List ℕ → Bool
is_name [] = false
is_name (b ∷ bs) = not (b == 35) && list_all is_option_byte (b ∷ bs)

-- a value that can be sent: bytes that may stand in an option's value, and no space at its end
abbrev pub is_value : List ℕ → Bool
is_value bytes = list_all is_value_byte bytes && not (slice_index bytes (length bytes - 1) == 32)

-- an option that can be sent
abbrev pub is_sendable : Pair → Bool
is_sendable p = is_name p.name && is_value p.value

-- each of the options can be sent
abbrev pub AreSendable : List Pair → Type 0
AreSendable pairs = IsTrue (list_all is_sendable pairs)

-- the node's name as an option, where it is sent
abbrev pub node_option : Option (List ℕ) → List Pair
node_option None = []
node_option (Some name) = pair (codes "nodename") name ∷ []

-- the options in the order in which they are sent
abbrev pub sent : List ℕ → Option (List ℕ) → Option Pair → List Pair → List Pair
sent word node port own = pair (codes "action") word ∷ (node_option node ++ (option_to_list port ++ own))

-- the line of an option
abbrev pub option_line : Pair → List ℕ
option_line p = p.name ++ 61 ∷ (p.value ++ 10 ∷ [])

-- the lines of options
abbrev pub option_lines : List Pair → List ℕ
option_lines pairs = flat_map option_line pairs
