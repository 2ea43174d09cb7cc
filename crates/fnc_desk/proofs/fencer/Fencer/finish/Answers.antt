use Rattle.fnc_desk.proofs.Keeping.{keeps-exit}
use Rattle.fnc_desk.proofs.fencer.Fencer.finish.Goals as goal

pub invariant_of-self : goal.invariant_of-self
invariant_of-self c =
    keeps-exit c.self.inside.config c.self.inside.core c.exit.new.self c.args.moment
    (record { run = c.args.run; exit = c.args.exit; listed = c.is_listed-listed.result }) c.exit.result c.exit.ensures.ok
    c.exit.ensures.err c.self.invariant
