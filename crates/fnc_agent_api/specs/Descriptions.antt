-- What the description of an agent says: a JSON object with its actions, its parameters, and the parameter that
-- takes the node.
use Rattle.std.specs.Prelude.{
  ◌≡◌,
  ℕ,
  List,
  [],
  ◌∷◌,
  ◌+◌,
  ◌&&◌,
  ◌||◌,
  Bool,
  true,
  false,
  if◌then◌else◌,
  Option,
  Some,
  None,
  Result,
  Ok,
  Err,
  nat_le,
  bytes_eq,
  codes,
  is_some,
  option_and_then,
}
use Rattle.std.specs.Str.{is_utf8}
use Rattle.serde_json.specs.Data.{Data, Items, no_items, item}
use Rattle.serde_json.specs.Find.{get, as_array, as_bool, as_object, as_str}
use Rattle.serde_json.specs.Read.{read}
use Rattle.fnc_journal.specs.Bounds.{is_option_name}
use Rattle.fnc_journal.specs.declared.limits.TheConstants.{MOST_PARAMETERS}
use Rattle.fnc_journal.specs.declared.definition.Actions.{Actions}
use Rattle.fnc_journal.specs.declared.definition.Parameter.{Parameter}
use Rattle.fnc_journal.specs.declared.definition.Description.{Description}
use Rattle.fnc_agent_api.specs.declared.description.Field.{Field}
use Rattle.fnc_agent_api.specs.declared.description.DescribeFault.{DescribeFault}

-- whether some item, or each, passes a test
abbrev pub any_item : (Data → Bool) → Items → Bool
any_item test no_items = false
any_item test (item d ds) = test d || any_item test ds

abbrev pub all_items : (Data → Bool) → Items → Bool
all_items test no_items = true
all_items test (item d ds) = test d && all_items test ds

abbrev pub item_count : Items → ℕ
item_count no_items = 0
item_count (item d ds) = item_count ds + 1

-- whether a value is a text, and this one
abbrev pub is_text : Data → Bool
is_text d = is_some (as_str d)

abbrev pub is_that : List ℕ → Option (List ℕ) → Bool
is_that word None = false
is_that word (Some text) = bytes_eq text word

abbrev pub is_word : List ℕ → Data → Bool
is_word word d = is_that word (as_str d)

-- the actions whose words stand among the texts; other words are left unused
abbrev pub actions_in : Items → Actions
actions_in ds = record {
  on = any_item (is_word (codes "on")) ds;
  off = any_item (is_word (codes "off")) ds;
  reboot = any_item (is_word (codes "reboot")) ds;
  list = any_item (is_word (codes "list")) ds;
  status = any_item (is_word (codes "status")) ds;
}

-- actions are an array of texts
abbrev pub actions_of_items : Option Items → Option Actions
actions_of_items None = None
actions_of_items (Some ds) = if all_items is_text ds then Some (actions_in ds) else None

abbrev pub actions_of : Option Data → Option Actions
actions_of field = actions_of_items (option_and_then as_array field)

-- the name of a parameter is that of an option
abbrev pub parameter_name : Option (List ℕ) → Option (List ℕ)
parameter_name None = None
parameter_name (Some name) = if is_option_name name then Some name else None

-- a parameter is required where its description says so
abbrev pub required_of : Option Data → Option Bool
required_of None = Some false
required_of (Some d) = as_bool d

abbrev pub parameter : Option (List ℕ) → Option Bool → Option Parameter
parameter None required = None
parameter (Some name) None = None
parameter (Some name) (Some required) = Some (record { name = name; required = required })

abbrev pub parameter_of : Data → Option Parameter
parameter_of d = parameter (parameter_name (option_and_then as_str (get (codes "name") d)))
    (required_of (get (codes "required") d))

-- the parameters of an array, where each item is one
abbrev pub with_parameter : Option Parameter → Option (List Parameter) → Option (List Parameter)
with_parameter None ps = None
with_parameter (Some p) None = None
with_parameter (Some p) (Some ps) = Some (p ∷ ps)

abbrev pub parameters_in : Items → Option (List Parameter)
parameters_in no_items = Some []
parameters_in (item d ds) = with_parameter (parameter_of d) (parameters_in ds)

-- parameters are an array of at most 64, and none where the field is absent
abbrev pub parameters_of_items : Option Items → Option (List Parameter)
parameters_of_items None = None
parameters_of_items (Some ds) = if nat_le (item_count ds) MOST_PARAMETERS then parameters_in ds else None

abbrev pub parameters_of : Option Data → Option (List Parameter)
parameters_of None = Some []
parameters_of (Some d) = parameters_of_items (as_array d)

-- the parameter that takes the node is a name, and none where the field is absent
abbrev pub a_target : Option (List ℕ) → Option (Option (List ℕ))
a_target None = None
a_target (Some name) = Some (Some name)

abbrev pub target_of : Option Data → Option (Option (List ℕ))
target_of None = Some None
target_of (Some d) = a_target (parameter_name (as_str d))

-- the description that the fields make, or the fault of the first bad one; `off` must be among the actions
abbrev pub description : Option Actions → Option (List Parameter) → Option (Option (List ℕ))
    → Result Description DescribeFault
description None parameters target = Err (DescribeFault.BadField Field.Actions)
description (Some actions) None target = Err (DescribeFault.BadField Field.Parameters)
description (Some actions) (Some parameters) None = Err (DescribeFault.BadField Field.TargetParameter)
description (Some actions) (Some parameters) (Some target) =
    if actions.off then Ok (record { actions = actions; parameters = parameters; target = target })
    else Err DescribeFault.NoOff

-- what a JSON value describes: other fields are left unused
abbrev pub description_of : Data → Result Description DescribeFault
description_of d = if is_some (as_object d)
    then description (actions_of (get (codes "actions") d)) (parameters_of (get (codes "parameters") d))
    (target_of (get (codes "target_parameter") d))
    else Err DescribeFault.NotObject

-- the JSON value that the bytes are
abbrev pub json_of : List ℕ → Option Data
json_of bytes = if is_utf8 bytes then read bytes else None

abbrev pub described_by : Option Data → Result Description DescribeFault
described_by None = Err DescribeFault.NotJson
described_by (Some d) = description_of d

-- what the bytes describe, or the first fault
abbrev pub described : List ℕ → Result Description DescribeFault
described bytes = described_by (json_of bytes)

-- the description of an agent of which nothing was told
abbrev pub plain : Description
plain = record {
  actions = record { on = true; off = true; reboot = true; list = false; status = false };
  parameters =
      [];
  target = None;
}

-- a fault is the one that was to be found, unless memory ran out
abbrev pub Fails : {A : Type 0} → DescribeFault → Result A DescribeFault → Type 0
Fails DescribeFault.NoMemory said = Unit {0}
Fails fault said = said ≡ Err fault

-- what was returned is what the bytes say, unless memory ran out
abbrev pub Gives : {A : Type 0} → Result A DescribeFault → Result A DescribeFault → Type 0
Gives (Ok x) said = said ≡ Ok x
Gives (Err fault) said = Fails fault said

-- the value of a field, or the fault of this field
abbrev pub field_or : {A : Type 0} → Field → Option A → Result A DescribeFault
field_or field None = Err (DescribeFault.BadField field)
field_or field (Some x) = Ok x
