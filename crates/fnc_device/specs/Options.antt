-- The options of a device: which are well formed, which are passed on to the agent, and what one says.
use Rattle.std.specs.Prelude.{
  ℕ,
  List,
  [],
  ◌∷◌,
  ◌++◌,
  Bool,
  true,
  not,
  ◌&&◌,
  ◌||◌,
  if◌then◌else◌,
  nat_eq,
  nat_lt,
  length,
  filter,
  find,
  Option,
  option_map,
  Result,
  Ok,
  Err,
  bytes_eq,
  codes,
}
use Rattle.std.specs.List.{list_any, ends_with}
use Rattle.fnc_journal.specs.declared.limits.TheConstants.{MOST_OPTIONS}
use Rattle.fnc_journal.specs.declared.entry.Kind.{Kind}
use Rattle.fnc_journal.specs.declared.names.Pair.{Pair}
use Rattle.fnc_journal.specs.Bounds.{is_option_name, is_option_value, is_own}
use Rattle.fnc_journal.specs.Line.{kind_word}
use Rattle.fnc_device.specs.declared.fault.DefineFault.{DefineFault}
use Rattle.fnc_device.specs.Steps.{◌>>=◌}

-- the options that say what an action is allowed
abbrev pub action_option : Kind → List ℕ
action_option kind = codes "pcmk_" ++ kind_word kind ++ codes "_action"

-- whether an option names the word that is sent in place of an action
abbrev pub is_action_option : List ℕ → Bool
is_action_option name =
    bytes_eq name (action_option Kind.On) || bytes_eq name (action_option Kind.Off)
    || bytes_eq name (action_option Kind.Reboot)
    || bytes_eq name (action_option Kind.List) || bytes_eq name (action_option Kind.Status)

-- the host argument is the name of an option, or `none`
abbrev pub is_argument : List ℕ → Bool
is_argument value = bytes_eq value (codes "none") || is_option_name value

-- what the value of this option has to be besides
abbrev pub suits : List ℕ → List ℕ → Bool
suits name value =
    if is_own name then not (ends_with nat_eq value (codes " "))
    else (if bytes_eq name (codes "pcmk_host_argument") then is_argument value
    else (if is_action_option name then nat_lt 0 (length value) else true))

-- whether an option is well formed
abbrev pub is_option : Pair → Bool
is_option o = is_option_name o.name && is_option_value o.value && suits o.name o.value

-- 32 options at most
abbrev pub few : List Pair → Result (Unit {0}) DefineFault
few options = if nat_lt MOST_OPTIONS (length options) then Err DefineFault.TooManyOptions else Ok tt

-- the first option that is not well formed
abbrev pub well_formed : List Pair → Result (Unit {0}) DefineFault
well_formed [] = Ok tt
well_formed (o ∷ os) = if is_option o then well_formed os else Err (DefineFault.BadOption o.name)

-- whether an option of this name is among these
abbrev pub is_given : List ℕ → List Pair → Bool
is_given name options = list_any (λ (o : Pair). bytes_eq name o.name) options

-- the first option whose name stood before, among options that follow others
abbrev pub distinct_after : List Pair → List Pair → Result (Unit {0}) DefineFault
distinct_after before [] = Ok tt
distinct_after before (o ∷ os) =
    if is_given o.name before then Err (DefineFault.RepeatedOption o.name) else distinct_after (before ++ o ∷ []) os

-- the options as such
abbrev pub right_options : List Pair → Result (Unit {0}) DefineFault
right_options options = few options >>= λ few. well_formed options >>= λ formed. distinct_after [] options

-- what an option says, where it is given
abbrev pub value_of : List ℕ → List Pair → Option (List ℕ)
value_of name options = option_map (λ (o : Pair). o.value) (find (λ (o : Pair). bytes_eq name o.name) options)

-- the options that are passed on to the agent
abbrev pub own_options : List Pair → List Pair
own_options options = filter (λ (o : Pair). is_own o.name) options
