use Rattle.std.proofs.Common.{sym, ◌∙◌}
use Rattle.fnc_judge.proofs.Closed.{waits-open}
use Rattle.fnc_judge.proofs.requests.is_open_lead.Goals as goal

pub returns-else-is_answered : goal.returns-else-is_answered
returns-else-is_answered c =
    sym (waits-open c.args.past.now c.args.req c.requires.led (sym c.is_answered.ensures ∙ c.if-is_answered.false))
