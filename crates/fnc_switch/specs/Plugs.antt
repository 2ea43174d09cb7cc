-- The line of a plug in the text of a switch: `NAME,ALIAS,on,FAILURES` or `NAME,ALIAS,off,FAILURES`.
use Rattle.std.specs.Prelude.{
  ◌≡◌,
  ℕ,
  List,
  [],
  ◌∷◌,
  ◌++◌,
  Bool,
  true,
  false,
  not,
  ◌&&◌,
  ◌==◌,
  if◌then◌else◌,
  nat_lt,
  nat_le,
  length,
  slice_index,
  Option,
  Some,
  None,
  Result,
  Ok,
  Err,
  bytes_eq,
  codes,
  decimal,
}
use Rattle.std.specs.List.{list_all}
use Rattle.std.specs.Str.{is_utf8}
use Rattle.fnc_journal.specs.Bounds.{is_value_byte}
use Rattle.fnc_journal.specs.declared.limits.TheConstants.{LONGEST_NAME}
use Rattle.fnc_text.specs.Digits.{number}
use Rattle.fnc_agent_api.specs.Cuts.{before, after}
use Rattle.fnc_switch.specs.declared.plug.TheConstants.{MOST_FAILURES}
use Rattle.fnc_switch.specs.declared.plug.Plug.{Plug}
use Rattle.fnc_switch.specs.declared.plug.LineFault.{LineFault}

-- a byte of a name or an alias: no control byte and no comma
abbrev pub is_plug_byte : ℕ → Bool
is_plug_byte b = is_value_byte b && not (b == 44)

-- an alias: up to 255 bytes of UTF-8
abbrev pub is_alias : List ℕ → Bool
is_alias text = nat_le (length text) LONGEST_NAME && list_all is_plug_byte text && is_utf8 text

-- a name: an alias with a byte
abbrev pub is_name : List ℕ → Bool
is_name text = nat_lt 0 (length text) && is_alias text

-- a plug that can be written
abbrev pub is_plug : Plug → Bool
is_plug p = is_name p.name && is_alias p.alias && nat_le p.failures MOST_FAILURES

-- the word of a plug that is on, and of one that is off
abbrev pub state_word : Bool → List ℕ
state_word true = codes "on"
state_word false = codes "off"

-- the line of a plug, with its line feed
abbrev pub plug_line : Plug → List ℕ
plug_line p = p.name ++ 44 ∷ (p.alias ++ 44 ∷ (state_word p.on ++ 44 ∷ (decimal p.failures ++ 10 ∷ [])))

-- the text where it passes a test
abbrev pub tested : (List ℕ → Bool) → List ℕ → Option (List ℕ)
tested test text = if test text then Some text else None

-- the state that a word says
abbrev pub state_of : List ℕ → Option Bool
state_of word =
    if bytes_eq word (codes "on") then Some true else (if bytes_eq word (codes "off") then Some false else None)

-- a zero stands before other digits
abbrev pub has_leading_zero : List ℕ → Bool
has_leading_zero digits = nat_lt 1 (length digits) && (slice_index digits 0 == 48)

-- the failures that decimal digits without a leading zero spell, up to a million
abbrev pub failures_of : List ℕ → Option ℕ
failures_of digits = if has_leading_zero digits then None else number MOST_FAILURES digits

-- the plug that has these four parts
abbrev pub plug : Option (List ℕ) → Option (List ℕ) → Option Bool → Option ℕ → Option Plug
plug (Some name) (Some alias) (Some on) (Some failures) =
    Some (record { name = name; alias = alias; on = on; failures = failures })
plug _ _ _ _ = None

-- the plug that a line is: commas end its first three parts
abbrev pub plug_of : List ℕ → Option Plug
plug_of line =
    plug (tested is_name (before 44 line)) (tested is_alias (before 44 (after 44 line)))
    (state_of (before 44 (after 44 (after 44 line)))) (failures_of (after 44 (after 44 (after 44 line))))

-- a line is refused because it is no plug, or for want of memory
abbrev pub Refuses : LineFault → Option Plug → Type 0
Refuses LineFault.NoMemory said = Unit {0}
Refuses LineFault.NoPlug said = said ≡ None

-- the plug that a line is, unless memory ran out
abbrev pub Reads : Result Plug LineFault → Option Plug → Type 0
Reads (Ok p) said = said ≡ Some p
Reads (Err fault) said = Refuses fault said
