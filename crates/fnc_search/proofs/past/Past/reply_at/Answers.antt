use Rattle.fnc_journal.specs.Found.{is_reply_to}
use Rattle.fnc_search.proofs.Pointed.{points}
use Rattle.fnc_search.proofs.past.Past.reply_at.Goals as goal

pub returns-clause-at : goal.returns-clause-at
returns-clause-at c =
    points (is_reply_to c.args.req) c.self.inside.journal.now.history c.args.self.now c.self.inside.len c.reply_at.result
    c.within.result c.self.invariant.0 c.self.view_is c.reply_at.ensures c.within.ensures
