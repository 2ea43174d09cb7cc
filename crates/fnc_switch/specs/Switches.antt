-- The text of a switch: the lines of its plugs in their order. Bytes that follow the last line feed are a line too.
use Rattle.std.specs.Prelude.{
  ◌≡◌,
  ℕ,
  List,
  [],
  ◌∷◌,
  ◌++◌,
  ◌+◌,
  Bool,
  ◌&&◌,
  if◌then◌else◌,
  nat_lt,
  nat_le,
  length,
  Option,
  Some,
  None,
  Result,
  Ok,
  Err,
}
use Rattle.std.specs.List.{list_all, flat_map}
use Rattle.fnc_agent_api.specs.Cuts.{lines_of}
use Rattle.fnc_switch.specs.declared.plug.TheConstants.{MOST_PLUGS}
use Rattle.fnc_switch.specs.declared.plug.Plug.{Plug}
use Rattle.fnc_switch.specs.declared.switch.SwitchFault.{SwitchFault}
use Rattle.fnc_switch.specs.Plugs.{is_plug, plug_of, plug_line}

-- at most 1,024 plugs that can be written
abbrev pub is_switch : List Plug → Bool
is_switch plugs = nat_le (length plugs) MOST_PLUGS && list_all is_plug plugs

-- the text of plugs
abbrev pub text_of : List Plug → List ℕ
text_of plugs = flat_map plug_line plugs

-- the plug that a line of this number is: each line before it is a plug, and there are at most 1,024
abbrev pub plug_at : ℕ → List ℕ → Option Plug
plug_at number line = if nat_lt MOST_PLUGS number then None else plug_of line

-- a plug before those of the lines that follow, unless one of them has a fault
abbrev pub before_plugs : ℕ → Option Plug → Result (List Plug) SwitchFault → Result (List Plug) SwitchFault
before_plugs number None rest = Err (SwitchFault.BadLine number)
before_plugs number (Some p) (Ok ps) = Ok (p ∷ ps)
before_plugs number (Some p) (Err fault) = Err fault

-- the plugs of lines that are numbered from here on, or the first bad line
abbrev pub plugs_from : ℕ → List (List ℕ) → Result (List Plug) SwitchFault
plugs_from number [] = Ok []
plugs_from number (line ∷ lines) = before_plugs number (plug_at number line) (plugs_from (number + 1) lines)

-- the switch that a text is, or its first bad line
abbrev pub switch_of : List ℕ → Result (List Plug) SwitchFault
switch_of text = plugs_from 1 (lines_of text)

-- a fault is the one that was to be found, unless memory ran out
abbrev pub Fails : {A : Type 0} → SwitchFault → Result A SwitchFault → Type 0
Fails SwitchFault.NoMemory said = Unit {0}
Fails fault said = said ≡ Err fault

-- what was returned is what the text says, unless memory ran out
abbrev pub Gives : {A : Type 0} → Result A SwitchFault → Result A SwitchFault → Type 0
Gives (Ok x) said = said ≡ Ok x
Gives (Err fault) said = Fails fault said

-- the plugs gained one at their end
abbrev pub Gains : List Plug → List Plug → Option Plug → Type 0
Gains old new None = ⊥
Gains old new (Some p) = new ≡ old ++ p ∷ []
