-- The run behind those that have ended is alive, or no run is.
use Rattle.std.proofs.Common.{Some, None, ap, cond, sym, ◌∙◌}
use Rattle.fnc_workload.proofs.Least.{least_is}
use Rattle.fnc_workload.proofs.sought.least_alive.Goals as goal

pub returns-then-is_alive : goal.returns-then-is_alive
returns-then-is_alive c =
    sym (least_is c.args.journal.now.history c.requires.lawful c.args.past c.requires.ended c.requires.past
    ∙ ap (λ b. cond b (Some c.args.past) None) (sym c.is_alive.ensures ∙ c.if-is_alive.true))

pub returns-else-is_alive : goal.returns-else-is_alive
returns-else-is_alive c =
    sym (least_is c.args.journal.now.history c.requires.lawful c.args.past c.requires.ended c.requires.past
    ∙ ap (λ b. cond b (Some c.args.past) None) (sym c.is_alive.ensures ∙ c.if-is_alive.false))
