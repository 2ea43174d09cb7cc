use Rattle.std.proofs.Common.{ap, is_some, ◌∙◌}
use Rattle.fnc_journal.specs.Found.{is_reply_to}
use Rattle.fnc_journal.proofs.Finds.{is_some-first_at}
use Rattle.fnc_search.proofs.found.is_answered.Goals as goal

pub returns : goal.returns
returns c =
    c.is_some.ensures ∙ ap is_some c.reply_at.ensures.at ∙ is_some-first_at (is_reply_to c.args.req) c.args.past.now
