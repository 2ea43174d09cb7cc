use Rattle.std.proofs.Common.{◌≡◌, ◌∷◌, sym, ap, ◌∙◌, map, Some}
use Rattle.fnc_journal.specs.Device.{Device}
use Rattle.fnc_journal.specs.Missing.{first_of}
use Rattle.fnc_journal.specs.Plan.{candidate}
use Rattle.fnc_search.specs.declared.candidates.After.{After}
use Rattle.fnc_search.specs.Keyed.{Keyed, later}
use Rattle.fnc_search.specs.Pursued.{wanted}
use Rattle.fnc_search.proofs.Queue.{keyed_of}
use Rattle.fnc_search.proofs.Writing.{candidates-all, devices-next}
use Rattle.fnc_search.proofs.planned.are_all_candidates.Goals as goal

pub loop-init : goal.loop-init
loop-init c = λ e.
    let o = c.args.operation.now in
    e ∙ ap (map (candidate (wanted o) o.asked.before)) (candidates-all o)

pub loop-preserved : goal.loop-preserved
loop-preserved c = λ e.
    let o = c.args.operation.now in
    let f = candidate (wanted o) o.asked.before in
    let found : first_of (later c.loop.after (keyed_of o)) ≡ Some c.in-Some.candidate = sym c.next_candidate.ensures
    ∙ c.in-Some.is in
    let device : c.candidate.inside.device ≡ c.in-Some.candidate.device =
    ap (λ (k : Keyed). k.device) c.candidate.view_is in
    c.loop.invariant
    (c.in-Some-after_candidate.ensures
    ∙ ap (λ cs. f c.candidate.inside.device ∷ cs) e
    ∙ ap (λ (d : Device). f d ∷ map f (map (λ (k : Keyed). k.device) (later (Some c.key.result) (keyed_of o)))) device
    ∙ ap (λ (k : After). f c.in-Some.candidate.device ∷ map f
    (map (λ (k : Keyed). k.device) (later (Some k) (keyed_of o)))) c.key.ensures
    ∙ ap (map f) (sym (devices-next o c.loop.after c.in-Some.candidate found)))
