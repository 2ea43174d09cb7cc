use Rattle.fnc_journal.specs.Found.{is_exit_of}
use Rattle.fnc_search.proofs.Pointed.{points}
use Rattle.fnc_search.proofs.past.Past.exit_at.Goals as goal

pub returns-clause-at : goal.returns-clause-at
returns-clause-at c =
    points (is_exit_of c.args.run) c.self.inside.journal.now.history c.args.self.now c.self.inside.len c.exit_at.result
    c.within.result c.self.invariant.0 c.self.view_is c.exit_at.ensures c.within.ensures
