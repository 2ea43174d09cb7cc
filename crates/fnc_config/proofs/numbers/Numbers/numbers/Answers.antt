use Rattle.std.proofs.Common.{◌∙◌, ap, map}
use Rattle.fnc_config.specs.Configured.{Numbered}
use Rattle.fnc_config.proofs.numbers.Numbers.numbers.Goals as goal
use Rattle.fnc_config.proofs.Shown.{values-shown}

pub returns : goal.returns
returns c =
    c.in_ok-numbers.ensures ∙ values-shown c.self.inside.numbers.entries
    ∙ ap (λ (ns : Numbered). map (λ e. e.1) ns) c.self.view_is
