-- What a journal says of the agents: the description of each, which is the last one that was told, or the plain one.
use Rattle.std.specs.Prelude.{ℕ, List, [], ◌∷◌, if◌then◌else◌, bytes_eq, codes, Option, unwrap_or}
use Rattle.fnc_journal.specs.declared.definition.Description.{Description}
use Rattle.fnc_journal.specs.declared.event.Event.{Event}
use Rattle.fnc_journal.specs.History.{History}
use Rattle.fnc_agent_api.specs.Descriptions as Descriptions

-- the agent of a device: `fence_model` where its line names none
abbrev pub agent_of : Option (List ℕ) → List ℕ
agent_of agent = unwrap_or agent (codes "fence_model")

-- what an entry makes of the description of an agent
abbrev pub described_after : List ℕ → Event → Description → Description
described_after name (Event.Agent described) earlier =
    if bytes_eq name described.name then described.description else earlier
described_after name _ earlier = earlier

-- the description of an agent: the last one, or the plain one of an agent that was not described
abbrev pub description_of : List ℕ → History → Description
description_of name [] = Descriptions.plain
description_of name (e ∷ before) = described_after name e.event (description_of name before)
