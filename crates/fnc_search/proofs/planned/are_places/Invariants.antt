use Rattle.std.proofs.Common.{◌≡◌, map, option_map, drop}
use Rattle.fnc_journal.specs.Plan.{reg_of}
use Rattle.fnc_journal.specs.Registered.{current}
use Rattle.fnc_search.proofs.planned.are_places.Given as goal

-- if what is left are the places of the names that are left, all are
abbrev pub invariant-loop-name : goal.invariant-loop-name
invariant-loop-name l =
    l.rest ≡ map (λ name. option_map reg_of (current name l.before)) (drop l.name-index l.names) →
    l.places ≡ map (λ name. option_map reg_of (current name l.before)) l.names
