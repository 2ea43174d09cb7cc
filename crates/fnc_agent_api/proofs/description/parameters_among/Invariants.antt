use Rattle.std.proofs.Common.{◌≡◌, drop}
use Rattle.serde_json.specs.View.{items_view}
use Rattle.fnc_agent_api.specs.Descriptions.{parameters_in}
use Rattle.fnc_agent_api.proofs.ItemsSeen.{after_parameters}
use Rattle.fnc_agent_api.proofs.description.parameters_among.Given as goal

-- the parameters so far and those of the items that are left are those of all items
abbrev pub invariant-loop-item : goal.invariant-loop-item
invariant-loop-item l =
    after_parameters l.parameters (parameters_in (items_view (drop l.item-index l.items)))
    ≡ parameters_in (items_view l.items)
