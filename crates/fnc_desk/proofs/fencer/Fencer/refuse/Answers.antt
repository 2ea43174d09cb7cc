use Rattle.fnc_desk.proofs.Keeping.{keeps-refused}
use Rattle.fnc_desk.proofs.fencer.Fencer.refuse.Goals as goal

pub invariant_of-self : goal.invariant_of-self
invariant_of-self c =
    keeps-refused c.self.inside.config c.self.inside.core c.refuse.new.self c.last-moment.result c.args.line c.args.cause
    c.refuse.result c.refuse.ensures.ok c.refuse.ensures.err c.self.invariant
