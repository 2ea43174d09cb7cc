use Rattle.std.proofs.Common.{◌==◌, ◌∙◌, ap, sym, List}
use Rattle.std.specs.List.{list_any}
use Rattle.fnc_journal.specs.Levels.{Level}
use Rattle.fnc_config.specs.Configured.{levels_for}
use Rattle.fnc_config.proofs.config.Config.clear_level.Goals as goal
use Rattle.fnc_config.proofs.StandingTargets.{levels-are}

pub returns-then-clear-clause-stood : goal.returns-then-clear-clause-stood
returns-then-clear-clause-stood c = λ h same.
    let target = c.args.target.now in
    let has = λ (ls : List Level). list_any (λ l. c.args.index == l.index) ls in
    sym (c.if-clear.ensures.found ∙ ap (λ k. has (levels_for target k)) same ∙ ap has (levels-are target h))

pub returns-else-clear-clause-refused : goal.returns-else-clear-clause-refused
returns-else-clear-clause-refused c = λ h same.
    let target = c.args.target.now in
    let has = λ (ls : List Level). list_any (λ l. c.args.index == l.index) ls in
    sym (c.if-clear.ensures.found ∙ ap (λ k. has (levels_for target k)) same ∙ ap has (levels-are target h))

pub returns-then-clear-clause-ordered : goal.returns-then-clear-clause-ordered
returns-then-clear-clause-ordered c = λ h lawful same.
    let target = c.args.target.now in
    let has = λ (ls : List Level). list_any (λ l. c.args.index == l.index) ls in
    sym (c.if-clear.ensures.found ∙ ap (λ k. has (levels_for target k)) same ∙ ap has (levels-are target h))
