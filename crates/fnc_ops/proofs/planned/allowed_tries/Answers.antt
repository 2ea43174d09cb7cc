-- What is counted are the tries of the operation's slots.
use Rattle.std.proofs.Common.{◌∙◌, ◌≤◌, sym, subst}
use Rattle.fnc_ops.proofs.PlanTries.{plan-tries, plan-few}
use Rattle.fnc_ops.proofs.planned.allowed_tries.Goals as goal

pub returns-clause-tries : goal.returns-clause-tries
returns-clause-tries c req asked kind before =
    c.plan_tries.ensures
    ∙ plan-tries c.args.kind c.args.journal.now.history c.args.plan.now req asked c.requires.bounded
    c.requires.few_candidates c.requires.few_levels c.requires.few_devices kind before

pub returns-clause-few : goal.returns-clause-few
returns-clause-few c =
    subst (λ n. n ≤ 6400) (sym c.plan_tries.ensures)
    (plan-few c.args.kind c.args.journal.now.history c.args.plan.now c.requires.bounded c.requires.few_candidates
    c.requires.few_levels c.requires.few_devices)
