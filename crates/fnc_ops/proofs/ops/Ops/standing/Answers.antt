-- What the records say is what the journal says.
use Rattle.std.proofs.Common.{sym, subst}
use Rattle.fnc_ops.specs.Stands.{IsStandingOf}
use Rattle.fnc_ops.proofs.StandsTries.{standing_found}
use Rattle.fnc_ops.proofs.ops.Ops.standing.Goals as goal

pub returns : goal.returns
returns c h moment lawful stands speaks =
    subst (IsStandingOf h moment c.args.operation.0) (sym c.kept_standing.ensures)
    (standing_found h moment lawful c.args.operation.0 c.args.self.now.operations speaks stands.each)
