use Rattle.std.proofs.Common.{ap, ◌∙◌}
use Rattle.std.specs.Prelude.{is_some}
use Rattle.fnc_judge.proofs.Opening.{open-when}
use Rattle.fnc_judge.proofs.requests.has_waiting.Goals as goal

pub returns : goal.returns
returns c = c.is_some.ensures ∙ ap is_some c.first_waiting.ensures ∙ open-when c.args.req c.args.past.now
