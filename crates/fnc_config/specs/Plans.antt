-- The plan of a request: the journal's, with the scope that the request has.
use Rattle.std.specs.Prelude.{◌≡◌, ℕ, List}
use Rattle.fnc_journal.specs.declared.entry.Kind.{Kind}
use Rattle.fnc_journal.specs.declared.plan.Plan.{Plan}
use Rattle.fnc_journal.specs.History.{History}
use Rattle.fnc_journal.specs.Plan.{plan}
use Rattle.fnc_config.specs.Scopes.{IsScopeOf}

-- the plan of a request for an action on a node at a moment: its scope is the node's, and all else follows from that
abbrev pub IsPlanOf : History → List ℕ → Kind → ℕ → Plan → Type 0
IsPlanOf h target kind moment p =
    IsScopeOf h target p.scope
    × (p ≡ plan (record { kind = kind; target = target; begin = moment; scope = p.scope }) h)
