use Rattle.std.proofs.Common.{◌∙◌, ap}
use Rattle.fnc_config.proofs.numbers.Numbers.get.Goals as goal
use Rattle.fnc_config.proofs.Shown.{found}
use Rattle.fnc_config.specs.Configured.{number_of}

pub returns : goal.returns
returns c =
    c.copied.ensures ∙ c.get.ensures.value ∙ found c.args.name.now _ ∙ ap (number_of c.args.name.now) c.self.view_is
