use Rattle.std.proofs.Common.{Bool, Some, cond, sym, ap, ◌∙◌}
use Rattle.fnc_journal.specs.Missing.{is_number}
use Rattle.fnc_journal.specs.Registered.{current}
use Rattle.fnc_journal.specs.Plan.{is_candidate}
use Rattle.fnc_search.specs.Pursued.{wanted}
use Rattle.fnc_search.proofs.Ordered.{place-taken}
use Rattle.fnc_search.proofs.candidates.best_of.Goals as goal

pub returns-then-takes_place : goal.returns-then-takes_place
returns-then-takes_place c =
    ap (λ (b : Bool). cond b (Some c.args.here) c.args.best) (sym c.if-takes_place.true ∙ c.takes_place.ensures)
    ∙ place-taken c.args.after c.args.best c.args.here
    (is_number (current c.args.name.now c.args.before.now) c.args.here.device.reg)
    (is_candidate (wanted c.args.operation.now) c.args.before.now c.args.here.device)

pub returns-else-takes_place : goal.returns-else-takes_place
returns-else-takes_place c =
    ap (λ (b : Bool). cond b (Some c.args.here) c.args.best) (sym c.if-takes_place.false ∙ c.takes_place.ensures)
    ∙ place-taken c.args.after c.args.best c.args.here
    (is_number (current c.args.name.now c.args.before.now) c.args.here.device.reg)
    (is_candidate (wanted c.args.operation.now) c.args.before.now c.args.here.device)
