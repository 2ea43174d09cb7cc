use Rattle.std.proofs.Common.{refl, subst}
use Rattle.fnc_journal.specs.declared.event.Event.{Event}
use Rattle.fnc_core.specs.Cored.{Cored}
use Rattle.fnc_retrace.specs.Agreeing.{GoesOn}
use Rattle.fnc_retrace.proofs.Configuring.{keeps-either}
use Rattle.fnc_retrace.proofs.GoingOn.{goes-either}
use Rattle.fnc_retrace.proofs.follower.Follower.pass.Goals as goal

pub invariant_of-self : goal.invariant_of-self
invariant_of-self c =
    keeps-either c.self.inside.config c.self.inside.core c.pass-passed.new.self c.last-moment.result Event.Pass 1
    c.pass-passed.result (λ at d. refl) c.pass-passed.ensures.ok c.pass-passed.ensures.err c.self.invariant

pub returns : goal.returns
returns c =
    subst (λ (v : Cored). GoesOn v.history c.pass-passed.new.self.history) c.self.view_is
    (goes-either c.self.inside.core c.pass-passed.new.self c.last-moment.result Event.Pass 1 c.pass-passed.result
    c.pass-passed.ensures.ok c.pass-passed.ensures.err)
