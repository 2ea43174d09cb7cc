use Rattle.fnc_retrace.proofs.Agreement.{agrees-next, agrees-still}
use Rattle.fnc_retrace.proofs.follower.Follower.agreed_with.Goals as goal

pub returns-then-writes : goal.returns-then-writes
returns-then-writes c = λ h is a.
    agrees-next c.args.agreed c.args.read h c.args.self.now.history c.writes.new.self.history c.args.entry.now
    c.if-agreed-read.false is c.writes.ensures.goes_on c.writes.ensures.lawful
    (c.writes.ensures.same c.if-writes.true) a

pub returns-else-writes : goal.returns-else-writes
returns-else-writes c = λ h is a.
    agrees-still c.args.agreed h c.args.self.now.history c.writes.new.self.history c.args.entry.now
    c.writes.ensures.goes_on c.writes.ensures.lawful a
