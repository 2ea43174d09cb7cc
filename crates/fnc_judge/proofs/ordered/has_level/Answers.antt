use Rattle.std.proofs.Common.{◌==◌, ap, ◌∙◌}
use Rattle.std.specs.Prelude.{is_some}
use Rattle.fnc_journal.specs.Levels.{Level, levels}
use Rattle.fnc_judge.proofs.Testings.{any-find}
use Rattle.fnc_judge.proofs.ordered.has_level.Goals as goal

pub returns : goal.returns
returns c =
    c.is_some.ensures ∙ ap is_some c.level_of.ensures
    ∙ any-find (λ (l : Level). c.args.index == l.index) (levels c.args.target.now c.args.past.now)
