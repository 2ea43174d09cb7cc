use Rattle.std.proofs.Common.{◌∙◌, ap, ap₂, map}
use Rattle.fnc_journal.specs.declared.entry.Scope.{Scope}
use Rattle.fnc_journal.specs.Levels.{scoped}
use Rattle.fnc_journal.specs.Plan.{Wanted, candidates_by}
use Rattle.fnc_config.specs.Configured.{Configured, configured}
use Rattle.fnc_config.specs.Planning.{candidates_in, plan_level_in, scoped_in}
use Rattle.fnc_config.proofs.config.Config.plan.Goals as goal
use Rattle.fnc_config.proofs.PlanCandidates.{candidates-are}
use Rattle.fnc_config.proofs.PlanScopes.{planned-are, scope-in-place, scoped-is}

pub returns-clause-plan : goal.returns-clause-plan
returns-clause-plan c =
    let h = c.args.journal.now.history in
    let target = c.args.target.now in
    let scope = c.in_ok-scope.scope in
    let wanted : Wanted =
    record { kind = c.args.kind; target = target; begin = c.args.moment; scope = Scope.Nothing } in (
      c.in_ok-scope.ensures.of h c.requires.configured,
      ap₂ (λ ls cs. record { scope = scope; levels = ls; candidates = cs })
          (c.in_ok-levels.ensures
          ∙ ap (λ (k : Configured). map (plan_level_in k.devices) (scoped_in scope target h k)) c.requires.configured
          ∙ ap (map (plan_level_in (configured h).devices)) (scoped-is scope target h)
          ∙ planned-are h c.requires.lawful (scoped scope target h))
          (c.in_ok-candidates.ensures
          ∙ ap (λ (k : Configured). candidates_by scope (candidates_in wanted h k.devices)) c.requires.configured
          ∙ ap (candidates_by scope) (candidates-are wanted h c.requires.lawful)),
    )

pub returns-clause-in_place : goal.returns-clause-in_place
returns-clause-in_place c =
    scope-in-place c.args.journal.now.history c.args.target.now c.in_ok-scope.scope
    (c.in_ok-scope.ensures.of c.args.journal.now.history c.requires.configured)
