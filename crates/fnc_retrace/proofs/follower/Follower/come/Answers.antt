use Rattle.fnc_retrace.proofs.GoingOn.{goes-twice}
use Rattle.fnc_retrace.proofs.follower.Follower.come.Goals as goal

pub returns : goal.returns
returns c =
    goes-twice c.args.self.now.history c.advance.new.self.history c.come_unless.new.self.history c.advance.ensures
    c.come_unless.ensures
