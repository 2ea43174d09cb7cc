use Rattle.std.proofs.Common.{subst}
use Rattle.fnc_core.specs.Cored.{Cored}
use Rattle.fnc_retrace.specs.Agreeing.{GoesOn}
use Rattle.fnc_retrace.proofs.Configuring.{keeps-started}
use Rattle.fnc_retrace.proofs.GoingOn.{goes-started}
use Rattle.fnc_retrace.proofs.follower.Follower.start.Goals as goal

pub invariant_of-self : goal.invariant_of-self
invariant_of-self c =
    keeps-started c.self.inside.config c.self.inside.core c.next_start-started.new.self c.next_start-started.result
    c.next_start-started.ensures.unchanged c.next_start-started.ensures.some c.self.invariant

pub returns : goal.returns
returns c =
    subst (λ (v : Cored). GoesOn v.history c.next_start-started.new.self.history) c.self.view_is
    (goes-started c.self.inside.core c.next_start-started.new.self c.next_start-started.result
    c.next_start-started.ensures.unchanged c.next_start-started.ensures.some)
