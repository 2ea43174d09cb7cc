use Rattle.std.proofs.Common.{sym, ◌∙◌}
use Rattle.fnc_audit.proofs.Asking.{request-first, request-later, request-never}
use Rattle.fnc_audit.proofs.replies.request_before.Goals as goal

pub returns-then-at-index : goal.returns-then-at-index
returns-then-at-index c =
    c.request.ensures
    ∙ sym (request-first c.args.req.0 c.args.index c.in-Some.at c.args.journal.now.history
    (sym c.in-Some.is ∙ c.ask_at.ensures) c.if-at-index.true)

pub returns-else-at-index : goal.returns-else-at-index
returns-else-at-index c =
    sym (request-later c.args.req.0 c.args.index c.in-Some.at c.args.journal.now.history
    (sym c.in-Some.is ∙ c.ask_at.ensures) c.if-at-index.false)

pub returns-in-None : goal.returns-in-None
returns-in-None c =
    sym (request-never c.args.req.0 c.args.index c.args.journal.now.history (sym c.in-None.is ∙ c.ask_at.ensures))
