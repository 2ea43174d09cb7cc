-- What the records say is what the journal says.
use Rattle.fnc_ops.proofs.StandsAnswers.{due_found}
use Rattle.fnc_ops.proofs.ops.Ops.due.Goals as goal

pub returns : goal.returns
returns c h stands = due_found c.args.self.now.operations h c.args.moment c.kept_due.result c.kept_due.ensures
    c.requires.at stands.each
