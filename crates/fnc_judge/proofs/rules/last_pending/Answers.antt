use Rattle.std.proofs.Common.{ap, ◌∙◌}
use Rattle.fnc_judge.specs.Testing.{pending_after}
use Rattle.fnc_judge.proofs.Testings.{pending-same}
use Rattle.fnc_judge.proofs.rules.last_pending.Goals as goal

pub returns : goal.returns
returns c = c.pending_of_last.ensures ∙ ap (pending_after c.args.past.now) c.last.ensures ∙ pending-same c.args.past.now
