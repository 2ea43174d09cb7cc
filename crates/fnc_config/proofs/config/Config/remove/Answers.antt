use Rattle.std.proofs.Common.{◌∙◌, ap, sym, subst}
use Rattle.fnc_journal.specs.Found.{devices}
use Rattle.fnc_config.specs.Configured.{Configured, Numbered, number_of, without_device}
use Rattle.fnc_config.proofs.config.Config.remove.Goals as goal
use Rattle.fnc_config.proofs.Configurations.{numbers-current, registry}
use Rattle.fnc_config.proofs.RegisteredDevices.{current-is}
use Rattle.fnc_config.proofs.Registry.{IsRegistry, same-gone}
use Rattle.fnc_config.proofs.TargetSteps.{absent}

pub returns-in_default-clause-err : goal.returns-in_default-clause-err
returns-in_default-clause-err c =
    let inside = c.self.inside in
    let with : Numbered → Configured = λ ds. record {
      devices = ds;
      names = inside.names;
      patterns = inside.patterns;
      agents = inside.agents;
    } in
    ap with (c.remove.ensures.rest
    ∙ absent c.args.name.now inside.devices (sym c.remove.ensures.number ∙ c.in_default.is))
    ∙ c.self.view_is

pub returns-clause-enters : goal.returns-clause-enters
returns-clause-enters c = λ moment h lawful same.
    let name = c.args.name.now in
    let inside = c.self.inside in
    let with : Numbered → Configured = λ ds. record {
      devices = ds;
      names = inside.names;
      patterns = inside.patterns;
      agents = inside.agents;
    } in
    let kept : IsRegistry inside.devices (devices h) =
    subst (λ (k : Configured). IsRegistry k.devices (devices h)) (sym (c.self.view_is ∙ same)) (registry h lawful) in
    ap with (c.remove.ensures.rest
    ∙ same-gone name inside.devices (devices h) c.in-Some.reg kept (sym c.remove.ensures.number ∙ c.in-Some.is))
    ∙ ap (without_device c.in-Some.reg) (c.self.view_is ∙ same)

pub returns-clause-ordered : goal.returns-clause-ordered
returns-clause-ordered c = λ h lawful same.
    let name = c.args.name.now in
    current-is name h lawful c.in-Some.reg
    (sym (numbers-current name h lawful)
    ∙ ap (λ (k : Configured). number_of name k.devices) (sym (c.self.view_is ∙ same))
    ∙ sym c.remove.ensures.number ∙ c.in-Some.is)
