use Rattle.fnc_retrace.proofs.Configuring.{keeps-advanced}
use Rattle.fnc_retrace.proofs.follower.Follower.advance.Goals as goal

pub invariant_of-self : goal.invariant_of-self
invariant_of-self c =
    keeps-advanced c.self.inside.config c.self.inside.core c.advance.new.self c.args.moment c.advance.ensures
    c.self.invariant
