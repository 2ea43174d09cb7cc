use Rattle.std.proofs.Common.{sym, ◌∙◌}
use Rattle.fnc_judge.proofs.Closed.{closed-after}
use Rattle.fnc_judge.proofs.requests.is_still_open.Goals as goal

pub returns-else-last_replies : goal.returns-else-last_replies
returns-else-last_replies c =
    sym (closed-after c.args.past.now c.requires.lawful c.args.req c.requires.led c.requires.answered
    (sym c.last_replies.ensures ∙ c.if-last_replies.false))
