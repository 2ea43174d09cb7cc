use Rattle.std.proofs.Common.{refl}
use Rattle.fnc_worked.proofs.topology.pattern_births.Goals as goal

pub returns : goal.returns
returns c = record { replaced = refl; younger = refl; cleared = refl; older = refl }
