-- What the core keeps is what contracts say of it.
use Rattle.std.proofs.Common.{subst}
use Rattle.fnc_core.specs.Cored.{Sound}
use Rattle.fnc_core.proofs.Sounds.{rests-sound}
use Rattle.fnc_core.proofs.machine.Core.owing.Goals as goal

pub returns-then-from-clause-sound : goal.returns-then-from-clause-sound
returns-then-from-clause-sound c = subst Sound c.self.view_is (rests-sound _ _ c.self.invariant.rests)

pub returns-else-from-clause-sound : goal.returns-else-from-clause-sound
returns-else-from-clause-sound c = subst Sound c.self.view_is (rests-sound _ _ c.self.invariant.rests)
