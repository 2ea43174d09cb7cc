use Rattle.std.proofs.Common.{◌∙◌, ap, sym, subst, if◌then◌else◌}
use Rattle.fnc_journal.specs.declared.entry.LevelTarget.{LevelTarget}
use Rattle.fnc_journal.specs.declared.entry.Scope.{Scope}
use Rattle.fnc_journal.specs.Missing.{has_any}
use Rattle.fnc_config.specs.Configured.{Configured, levels_of}
use Rattle.fnc_config.specs.Scopes.{IsScopeOf, scope_among, scope_in}
use Rattle.fnc_config.proofs.config.Config.scope_of.Goals as goal
use Rattle.fnc_config.proofs.Scoping.{scope-is}
use Rattle.fnc_config.proofs.StandingTargets.{levels-are}

pub returns-then-stands-clause-of : goal.returns-then-stands-clause-of
returns-then-stands-clause-of c = λ h same.
    let target = c.args.target.now in
    ap has_any (sym (levels-are (LevelTarget.Name target) h))
    ∙ ap (λ (k : Configured). has_any (levels_of target k.names)) (sym (c.self.view_is ∙ same))
    ∙ sym c.if-stands.ensures

pub returns-clause-of : goal.returns-clause-of
returns-clause-of c = λ h same.
    let target = c.args.target.now in
    let patterns = c.self.inside.patterns in
    let is = c.in_ok-scope.ensures
    ∙ ap (λ b. if b then Scope.Name else scope_among patterns target) c.if-stands.ensures
    ∙ ap (λ k. scope_in k target) (c.self.view_is ∙ same) in
    subst (IsScopeOf h target) (sym is) (scope-is h target)
