use Rattle.fnc_journal.specs.Found.{is_start_of}
use Rattle.fnc_search.proofs.Pointed.{points}
use Rattle.fnc_search.proofs.past.Past.start_at.Goals as goal

pub returns-clause-at : goal.returns-clause-at
returns-clause-at c =
    points (is_start_of c.args.run) c.self.inside.journal.now.history c.args.self.now c.self.inside.len c.start_at.result
    c.within.result c.self.invariant.0 c.self.view_is c.start_at.ensures c.within.ensures
