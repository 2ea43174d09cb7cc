-- What the core keeps is what contracts say of it.
use Rattle.std.proofs.Common.{subst}
use Rattle.fnc_core.specs.Cored.{Sound}
use Rattle.fnc_core.proofs.Sounds.{rests-sound}
use Rattle.fnc_core.proofs.machine.Core.journal.Goals as goal

pub returns-clause-sound : goal.returns-clause-sound
returns-clause-sound c = subst Sound c.self.view_is (rests-sound _ _ c.self.invariant.rests)
