use Rattle.std.proofs.Common.{sym, ◌∙◌}
use Rattle.fnc_search.proofs.Pointed.{asked-nowhere, asked-there}
use Rattle.fnc_search.proofs.found.request.Goals as goal

pub returns-in_err-at : goal.returns-in_err-at
returns-in_err-at c =
    c.from_residual.ensures
    ∙ sym (asked-nowhere c.args.req c.args.past.now (sym c.ask_at.ensures.at ∙ c.in_err-at.was))

pub returns : goal.returns
returns c =
    c.asked_here.ensures
    ∙ sym (asked-there c.args.req c.args.past.now c.before-2.result c.in_ok-at.at c.entry.result.now
    (sym c.ask_at.ensures.at ∙ c.in_ok-at.was) c.entry.ensures c.before-2.ensures)
