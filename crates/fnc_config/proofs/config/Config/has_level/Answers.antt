use Rattle.std.proofs.Common.{◌==◌, ◌∙◌, ap, List}
use Rattle.std.specs.List.{list_any}
use Rattle.fnc_journal.specs.Levels.{Level}
use Rattle.fnc_config.specs.Configured.{levels_for}
use Rattle.fnc_config.proofs.config.Config.has_level.Goals as goal
use Rattle.fnc_config.proofs.StandingTargets.{levels-are}

pub returns-clause-stands : goal.returns-clause-stands
returns-clause-stands c = λ h same.
    let target = c.args.target.now in
    let has = λ (ls : List Level). list_any (λ l. c.args.index == l.index) ls in
    c.has.ensures ∙ ap (λ k. has (levels_for target k)) same ∙ ap has (levels-are target h)
