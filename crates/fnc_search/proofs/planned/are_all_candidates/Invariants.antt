use Rattle.std.proofs.Common.{◌≡◌, map}
use Rattle.fnc_journal.specs.Plan.{candidate, candidates_among}
use Rattle.fnc_search.specs.Keyed.{Keyed, later}
use Rattle.fnc_search.specs.Pursued.{wanted}
use Rattle.fnc_search.proofs.Queue.{keyed_of}
use Rattle.fnc_search.proofs.planned.are_all_candidates.Given as goal

-- if what is left are the candidates that are left, all are
abbrev pub invariant-loop : goal.invariant-loop
invariant-loop l =
    l.rest ≡ map (candidate (wanted l.operation) l.operation.asked.before)
    (map (λ (c : Keyed). c.device) (later l.after (keyed_of l.operation))) →
    l.written ≡ map (candidate (wanted l.operation) l.operation.asked.before)
    (candidates_among (wanted l.operation) l.operation.asked.before l.operation.asked.before)
