use Rattle.std.proofs.Common.{ap, ◌∙◌}
use Rattle.std.specs.Prelude.{is_some}
use Rattle.fnc_journal.specs.Levels.{levels}
use Rattle.fnc_search.proofs.OldestLevels.{oldest-some}
use Rattle.fnc_search.proofs.level.stands.Goals as goal

pub returns : goal.returns
returns c = c.is_some.ensures ∙ ap is_some c.oldest.ensures ∙ oldest-some (levels c.args.target.now c.args.past.now)
