-- Which plugs the options of an agent mean.
use Rattle.std.specs.Prelude.{ℕ, List, ◌==◌, if◌then◌else◌, length, position, Option, None, bytes_eq, codes}
use Rattle.std.specs.List.{slice_split}
use Rattle.std.specs.Option.{option_or}
use Rattle.fnc_journal.specs.declared.names.Pair.{Pair}
use Rattle.fnc_agent_api.specs.Options.{last_value}
use Rattle.fnc_switch.specs.declared.plug.Plug.{Plug}

-- the place of the first plug of a name, and of an alias
abbrev pub named : List Plug → List ℕ → Option ℕ
named plugs reference = position (λ (p : Plug). bytes_eq reference p.name) plugs

abbrev pub aliased : List Plug → List ℕ → Option ℕ
aliased plugs reference = position (λ (p : Plug). bytes_eq reference p.alias) plugs

-- the place of the plug that a reference means: the first of that name, else the first of that alias
abbrev pub meant : List Plug → List ℕ → Option ℕ
meant plugs reference =
    if length reference == 0 then None else option_or (named plugs reference) (aliased plugs reference)

-- the references that a value is: it is cut at its commas
abbrev pub references : List ℕ → List (List ℕ)
references value = slice_split (λ b. b == 44) value

-- the value of `port`, else that of `plug`
abbrev pub asked : List Pair → Option (List ℕ)
asked options = option_or (last_value (codes "port") options) (last_value (codes "plug") options)
