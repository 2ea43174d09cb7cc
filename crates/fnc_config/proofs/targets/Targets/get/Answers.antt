use Rattle.std.proofs.Common.{◌∙◌, ap}
use Rattle.std.specs.Prelude.{bytes_eq}
use Rattle.std.specs.Map.{lookup}
use Rattle.fnc_config.proofs.targets.Targets.get.Goals as goal
use Rattle.fnc_config.proofs.Shown.{found}

pub returns : goal.returns
returns c = c.get.ensures.value ∙ found c.args.text.now _ ∙ ap (lookup (bytes_eq c.args.text.now)) c.self.view_is
