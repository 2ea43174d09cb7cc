-- What the records say is what the journal says.
use Rattle.std.proofs.Common.{sym, subst, ◌==◌}
use Rattle.std.specs.Prelude.{find}
use Rattle.fnc_journal.specs.Operations.{open_operations}
use Rattle.fnc_ops.specs.Stands.{IsTryOf}
use Rattle.fnc_ops.proofs.StandsTries.{waiting_found}
use Rattle.fnc_ops.proofs.ops.Ops.waiting.Goals as goal

pub returns-clause-tries : goal.returns-clause-tries
returns-clause-tries c h moment lawful settled at stands =
    subst (λ s. IsTryOf h moment s (find (λ o. o.req == c.args.operation.0) (open_operations h)))
    (sym c.kept_waiting.ensures)
    (waiting_found h moment lawful c.args.operation.0 c.args.self.now.operations settled at stands.each)
