use Rattle.std.proofs.Common.{ap, ◌∙◌}
use Rattle.std.specs.Prelude.{is_some}
use Rattle.fnc_judge.proofs.Opening.{operation-some}
use Rattle.fnc_judge.proofs.ordered.is_operation.Goals as goal

pub returns : goal.returns
returns c = c.is_some.ensures ∙ ap is_some c.operation_of.ensures ∙ operation-some c.args.req c.args.past.now
