use Rattle.std.proofs.Common.{ap, ◌∙◌}
use Rattle.fnc_judge.specs.Testing.{moment_by}
use Rattle.fnc_judge.proofs.Testings.{moment-same}
use Rattle.fnc_judge.proofs.ordered.last_moment.Goals as goal

pub returns : goal.returns
returns c = c.moment_of.ensures ∙ ap moment_by c.last.ensures ∙ moment-same c.args.past.now
