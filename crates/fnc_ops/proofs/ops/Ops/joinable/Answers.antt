-- What the records say is what the journal says.
use Rattle.fnc_ops.proofs.StandsJoins.{joined_is}
use Rattle.fnc_ops.proofs.ops.Ops.joinable.Goals as goal

pub returns : goal.returns
returns c h moment at stands = joined_is c.args.self.now.operations h moment c.args.kind c.args.target.now
    c.kept_joinable.result c.kept_joinable.ensures at stands.each
