-- What the parts tell of the start that comes next is what contracts say of it.
use Rattle.std.proofs.Common.{subst}
use Rattle.std.specs.Prelude.{IfSome}
use Rattle.fnc_core.specs.Cored.{Cored, IsStart}
use Rattle.fnc_core.proofs.Sounds.{tells-start}
use Rattle.fnc_core.proofs.machine.Core.due_start.Goals as goal

pub returns-clause-some : goal.returns-clause-some
returns-clause-some c =
    subst (λ (v : Cored). IfSome c.first_start.result (IsStart v)) c.self.view_is
    (tells-start _ _ _ c.first_start.result c.self.invariant.next_run c.first_start.ensures.some)
