use Rattle.std.proofs.Common.{◌≡◌, map, drop}
use Rattle.fnc_journal.specs.Slots.{place_of}
use Rattle.fnc_ops.specs.PlanTries.{sum_from, place_tries}
use Rattle.fnc_ops.proofs.planned.places_tries.Given as goal

-- the tries so far, with those of what is left
abbrev pub invariant-loop-place : goal.invariant-loop-place
invariant-loop-place l = sum_from l.tries (map (λ p. place_tries l.split l.kind (place_of l.kind l.journal.history p))
    (drop l.place-index l.places)) ≡ sum_from 0
    (map (λ p. place_tries l.split l.kind (place_of l.kind l.journal.history p)) l.places)
