use Rattle.std.proofs.Common.{subst}
use Rattle.fnc_core.specs.Cored.{Cored}
use Rattle.fnc_retrace.specs.Agreeing.{GoesOn}
use Rattle.fnc_retrace.proofs.Configuring.{keeps-asked}
use Rattle.fnc_retrace.proofs.GoingOn.{goes-asked}
use Rattle.fnc_retrace.proofs.follower.Follower.ask_for.Goals as goal

pub invariant_of-self : goal.invariant_of-self
invariant_of-self c =
    keeps-asked c.self.inside.config c.self.inside.core c.ask-asked.new.self c.last-moment.result c.args.ask
    c.in-Ok.plan c.ask-asked.result c.ask-asked.ensures.ok c.ask-asked.ensures.err c.self.invariant

pub returns : goal.returns
returns c =
    subst (λ (v : Cored). GoesOn v.history c.ask-asked.new.self.history) c.self.view_is
    (goes-asked c.self.inside.core c.ask-asked.new.self c.last-moment.result c.args.ask c.in-Ok.plan
    c.ask-asked.result c.ask-asked.ensures.ok c.ask-asked.ensures.err)
