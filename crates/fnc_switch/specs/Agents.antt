-- What the agent of a switch does: the table of its actions over the plugs.
use Rattle.std.specs.Prelude.{
  ℕ,
  List,
  [],
  ◌∷◌,
  ◌++◌,
  ◌-◌,
  Bool,
  true,
  false,
  not,
  if◌then◌else◌,
  nat_lt,
  zero,
  suc,
  slice_get,
  Option,
  Some,
  None,
  is_some,
  option_and_then,
  bytes_eq,
  codes,
  find,
  IsTrue,
}
use Rattle.std.specs.List.{list_all, filter_map, flat_map}
use Rattle.fnc_journal.specs.declared.names.Pair.{Pair}
use Rattle.fnc_agent_api.specs.Options.{last_value}
use Rattle.fnc_switch.specs.declared.plug.Plug.{Plug}
use Rattle.fnc_switch.specs.declared.action.Action.{Action}
use Rattle.fnc_switch.specs.declared.action.Operation.{Operation}
use Rattle.fnc_switch.specs.References.{meant, references, asked}

-- what an agent did: its exit status, what it printed, and the plugs after it
pub record Done : Type 0 where
  pub status : ℕ
  pub output : List ℕ
  pub plugs : List Plug

-- an agent that prints nothing
abbrev pub silent : ℕ → List Plug → Done
silent status plugs = record { status = status; output = []; plugs = plugs }

-- the plugs with the one at a place changed
abbrev pub changed : (Plug → Plug) → ℕ → List Plug → List Plug
changed change place [] = []
changed change zero (p ∷ ps) = change p ∷ ps
changed change (suc place) (p ∷ ps) = p ∷ changed change place ps

-- a plug switched on or off, and one with a failure less
abbrev pub turned : Bool → Plug → Plug
turned on p = record p { on = on }

abbrev pub one_less : Plug → Plug
one_less p = record p { failures = p.failures - 1 }

-- the plugs with those at these places switched on or off
abbrev pub switched : Bool → List ℕ → List Plug → List Plug
switched on [] plugs = plugs
switched on (place ∷ places) plugs = switched on places (changed (turned on) place plugs)

-- a reboot switches all off and then all on
abbrev pub operated : Operation → List ℕ → List Plug → List Plug
operated Operation.On places plugs = switched true places plugs
operated Operation.Off places plugs = switched false places plugs
operated Operation.Reboot places plugs = switched true places (switched false places plugs)

-- whether the plug at a place has failures left
abbrev pub fails_still : Option Plug → Bool
fails_still None = false
fails_still (Some p) = nat_lt 0 p.failures

abbrev pub is_failing : List Plug → ℕ → Bool
is_failing plugs place = fails_still (slice_get plugs place)

-- a plug that fails loses a failure and nothing is switched; where none does all are switched
abbrev pub tried : Operation → List ℕ → List Plug → Option ℕ → Done
tried operation places plugs (Some place) = silent 1 (changed one_less place plugs)
tried operation places plugs None = silent 0 (operated operation places plugs)

-- where a reference means no plug nothing is switched; else the first plug that fails counts
abbrev pub operates : Operation → List (List ℕ) → List Plug → Done
operates operation refs plugs =
    let places = filter_map (meant plugs) refs in
    if list_all (λ r. is_some (meant plugs r)) refs
    then tried operation places plugs (find (is_failing plugs) places)
    else silent 1 plugs

-- whether the plug that a reference means is on, or off
abbrev pub is_turned : Bool → Option Plug → Bool
is_turned on None = false
is_turned true (Some p) = p.on
is_turned false (Some p) = not p.on

abbrev pub is_meant : Bool → List Plug → List ℕ → Bool
is_meant on plugs reference = is_turned on (option_and_then (slice_get plugs) (meant plugs reference))

-- the status of `status`: 0 where all are on, 2 where all are off, else 1
abbrev pub told : List (List ℕ) → List Plug → ℕ
told refs plugs =
    if list_all (is_meant true plugs) refs then 0 else (if list_all (is_meant false plugs) refs then 2 else 1)

-- the line that `list` prints of a plug
abbrev pub listed : Plug → List ℕ
listed p = p.name ++ 44 ∷ (p.alias ++ 10 ∷ [])

-- the action on the plugs that a value means; the value is missing where no option gives it
abbrev pub acts_on : Action → Option (List ℕ) → List Plug → Done
acts_on Action.List value plugs = record { status = 0; output = flat_map listed plugs; plugs = plugs }
acts_on Action.Monitor value plugs = silent 0 plugs
acts_on (Action.Operate operation) None plugs = silent 1 plugs
acts_on (Action.Operate operation) (Some value) plugs = operates operation (references value) plugs
acts_on Action.Status None plugs = silent 1 plugs
acts_on Action.Status (Some value) plugs = silent (told (references value) plugs) plugs

-- the action on the plugs that the options mean
abbrev pub acts : Action → List Pair → List Plug → Done
acts action options plugs = acts_on action (asked options) plugs

-- the state in which an operation leaves plugs
abbrev pub left_on : Operation → Bool
left_on Operation.On = true
left_on Operation.Off = false
left_on Operation.Reboot = true

-- whether each reference of a value means a plug that is on, or off
abbrev pub all_in : Bool → Option (List ℕ) → List Plug → Bool
all_in on None plugs = false
all_in on (Some value) plugs = list_all (is_meant on plugs) (references value)

-- what an action that succeeded leaves: all plugs that are meant are there, and in the state of the operation
abbrev pub Leaves : Action → List Pair → List Plug → Type 0
Leaves (Action.Operate operation) options plugs = IsTrue (all_in (left_on operation) (asked options) plugs)
Leaves _ options plugs = Unit {0}

-- the action that a word names
abbrev pub action_of : List ℕ → Option Action
action_of word =
    if bytes_eq word (codes "on") then Some (Action.Operate Operation.On)
    else (if bytes_eq word (codes "off") then Some (Action.Operate Operation.Off)
    else (if bytes_eq word (codes "reboot") then Some (Action.Operate Operation.Reboot)
    else (if bytes_eq word (codes "status") then Some Action.Status
    else (if bytes_eq word (codes "list") then Some Action.List
    else (if bytes_eq word (codes "monitor") then Some Action.Monitor
    else None)))))

-- the action that the option `action` names
abbrev pub action_among : List Pair → Option Action
action_among options = option_and_then action_of (last_value (codes "action") options)

-- any other action or none changes nothing
abbrev pub acts_by : Option Action → List Pair → List Plug → Done
acts_by None options plugs = silent 1 plugs
acts_by (Some action) options plugs = acts action options plugs

-- the whole table: what an agent does that is sent these options
abbrev pub answers : List Pair → List Plug → Done
answers options plugs = acts_by (action_among options) options plugs
