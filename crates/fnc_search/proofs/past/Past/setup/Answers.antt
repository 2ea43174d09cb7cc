use Rattle.std.proofs.Common.{◌≤◌, ap, arith, length, subst}
use Rattle.fnc_journal.specs.History.{History}
use Rattle.fnc_search.proofs.Prefixed.{prefix-length}
use Rattle.fnc_search.specs.Setup.{setup_end}
use Rattle.fnc_search.proofs.past.Past.setup.Goals as goal

pub returns-clause-within : goal.returns-clause-within
returns-clause-within c =
    let long = prefix-length c.self.inside.journal.now.history c.self.inside.len c.self.invariant.0 in
    let view = ap length c.self.view_is in
    omega (arith, long, view, c.self.invariant.1)

pub returns-clause-end : goal.returns-clause-end
returns-clause-end c =
    subst (λ (k : History). setup_end k ≤ c.self.inside.setup) c.self.view_is c.self.invariant.2
