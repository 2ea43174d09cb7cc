-- What contracts see of a desk: the core, and whether lines say their moments.
use Rattle.fnc_command.specs.declared.command.Mode.{Mode}
use Rattle.fnc_core.specs.Cored.{Cored}

pub record Desked : Type 0 where
  pub core : Cored
  pub mode : Mode
