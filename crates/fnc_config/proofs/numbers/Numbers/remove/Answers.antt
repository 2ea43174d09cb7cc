use Rattle.std.proofs.Common.{◌∙◌, ap}
use Rattle.fnc_config.proofs.numbers.Numbers.remove.Goals as goal
use Rattle.fnc_config.proofs.Shown.{found, gone, shown}
use Rattle.fnc_config.specs.Configured.{number_of, without}

pub returns-clause-number : goal.returns-clause-number
returns-clause-number c =
    c.shift_remove.ensures.value ∙ found c.args.name.now _ ∙ ap (number_of c.args.name.now) c.self.view_is

pub returns-clause-rest : goal.returns-clause-rest
returns-clause-rest c =
    ap shown c.shift_remove.ensures.entries ∙ gone c.args.name.now _ ∙ ap (without c.args.name.now) c.self.view_is
