use Rattle.fnc_desk.proofs.Keeping.{keeps-passed}
use Rattle.fnc_desk.proofs.fencer.Fencer.pass.Goals as goal

pub invariant_of-self : goal.invariant_of-self
invariant_of-self c =
    keeps-passed c.self.inside.config c.self.inside.core c.pass-entered.new.self c.last-moment.result c.pass-entered.result
    c.pass-entered.ensures.ok c.pass-entered.ensures.err c.self.invariant
