use Rattle.std.proofs.Common.{◌∙◌, ap}
use Rattle.fnc_config.specs.Configured.{Configured, number_of}
use Rattle.fnc_config.proofs.config.Config.agent.Goals as goal
use Rattle.fnc_config.proofs.Configurations.{agents-last}

pub returns-clause-last : goal.returns-clause-last
returns-clause-last c = λ h same.
    c.get.ensures
    ∙ ap (λ (k : Configured). number_of c.args.name.now k.agents) (c.self.view_is ∙ same)
    ∙ agents-last c.args.name.now h
