-- The entry of a device that options define is within its bounds.
use Rattle.std.proofs.Common.{ℕ, List, true, ◌≡◌, refl, ap, ◌∙◌, subst, sym, Option, Some, None}
use Rattle.std.specs.Prelude.{IfSome, IsTrue}
use Rattle.fnc_journal.specs.declared.definition.Definition.{Definition}
use Rattle.fnc_journal.specs.declared.definition.Registration.{Registration}
use Rattle.fnc_journal.specs.Bounds.{IsBounded}
use Rattle.fnc_journal.specs.EntryBounds.{is_agent_name, is_device}
use Rattle.fnc_journal.specs.Names.{is_name}
use Rattle.fnc_journal.proofs.DefinitionBounds.{bounded-is}
use Rattle.fnc_desk.specs.Agents.{agent_of}

-- the agent that is named, or the plain one
agent-named : (agent : Option (List ℕ)) → IfSome agent (λ a. IsTrue (is_agent_name a)) →
    is_agent_name (agent_of agent) ≡ true
agent-named None p = refl
agent-named (Some a) p = p

pub device-within : (g : Registration) (name : List ℕ) (agent : Option (List ℕ)) (program : List ℕ) (d : Definition) →
    g ≡ record { name = name; agent = program; definition = d } → program ≡ agent_of agent → is_name name ≡ true →
    IfSome agent (λ a. IsTrue (is_agent_name a)) → IsBounded d → is_device g ≡ true
device-within g name agent program d is told named p bounded =
    let of_agent : is_agent_name program ≡ true = ap is_agent_name told ∙ agent-named agent p in
    let fits = bounded-is d bounded in
    subst (λ (k : Registration). is_device k ≡ true) (sym is) (rw (named, of_agent, fits) refl)
