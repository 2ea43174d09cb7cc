use Rattle.std.proofs.Common.{◌∙◌, ap, sym}
use Rattle.fnc_config.specs.Configured.{Configured, number_of}
use Rattle.fnc_config.proofs.config.Config.current.Goals as goal
use Rattle.fnc_config.proofs.Configurations.{numbers-current}

pub returns-in-Some-clause-current : goal.returns-in-Some-clause-current
returns-in-Some-clause-current c = λ h lawful same.
    sym c.in-Some.is
    ∙ c.get.ensures
    ∙ ap (λ (k : Configured). number_of c.args.name.now k.devices) (c.self.view_is ∙ same)
    ∙ numbers-current c.args.name.now h lawful

pub returns-in-None-clause-current : goal.returns-in-None-clause-current
returns-in-None-clause-current c = λ h lawful same.
    sym c.in-None.is
    ∙ c.get.ensures
    ∙ ap (λ (k : Configured). number_of c.args.name.now k.devices) (c.self.view_is ∙ same)
    ∙ numbers-current c.args.name.now h lawful
