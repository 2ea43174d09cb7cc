-- How a device is asked whether it can fence a node.
use Rattle.std.specs.Prelude.{List, [], ◌∷◌, ℕ, Bool, true, false, ◌||◌, if◌then◌else◌, Option, Some, None}
use Rattle.fnc_journal.specs.declared.definition.Actions.{Actions}
use Rattle.fnc_journal.specs.declared.definition.HostCheck.{HostCheck}
use Rattle.fnc_journal.specs.declared.names.Pair.{Pair}

-- whether a list has an item
abbrev pub has_item : {X : Type 0} → List X → Bool
has_item [] = false
has_item (x ∷ xs) = true

-- what is written; else by what names nodes, then by what the agent can be asked
abbrev pub check_kind : Option HostCheck → List (List ℕ) → List Pair → Actions → HostCheck
check_kind (Some check) hosts map actions = check
check_kind None hosts map actions =
    if has_item hosts || has_item map then HostCheck.StaticList
    else (if actions.list then HostCheck.DynamicList
    else (if actions.status then HostCheck.Status
    else HostCheck.Nothing))
