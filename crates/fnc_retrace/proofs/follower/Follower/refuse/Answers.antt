use Rattle.std.proofs.Common.{refl, subst}
use Rattle.fnc_journal.specs.declared.event.Event.{Event}
use Rattle.fnc_core.specs.Cored.{Cored}
use Rattle.fnc_retrace.specs.Agreeing.{GoesOn}
use Rattle.fnc_retrace.proofs.Configuring.{keeps-either}
use Rattle.fnc_retrace.proofs.GoingOn.{goes-either}
use Rattle.fnc_retrace.proofs.follower.Follower.refuse.Goals as goal

pub invariant_of-self : goal.invariant_of-self
invariant_of-self c =
    keeps-either c.self.inside.config c.self.inside.core c.refuse-refused.new.self c.last-moment.result
    (Event.Refused (record { line = c.args.refusal.line; cause = c.args.refusal.cause })) 1
    c.refuse-refused.result (λ at d. refl) c.refuse-refused.ensures.ok c.refuse-refused.ensures.err c.self.invariant

pub returns : goal.returns
returns c =
    subst (λ (v : Cored). GoesOn v.history c.refuse-refused.new.self.history) c.self.view_is
    (goes-either c.self.inside.core c.refuse-refused.new.self c.last-moment.result
    (Event.Refused (record { line = c.args.refusal.line; cause = c.args.refusal.cause })) 1 c.refuse-refused.result
    c.refuse-refused.ensures.ok c.refuse-refused.ensures.err)
