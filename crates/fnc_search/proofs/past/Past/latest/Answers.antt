use Rattle.std.proofs.Common.{ap, ◌∙◌}
use Rattle.fnc_journal.specs.History.{History}
use Rattle.fnc_journal.specs.Links.{latest}
use Rattle.fnc_search.proofs.Chained.{latest-within}
use Rattle.fnc_search.proofs.past.Past.latest.Goals as goal

pub returns-clause-at : goal.returns-clause-at
returns-clause-at c = c.latest_below.ensures ∙ ap (λ (k : History). latest c.args.req k) c.self.view_is

pub returns-clause-within : goal.returns-clause-within
returns-clause-within c =
    latest-within c.args.req c.args.self.now c.latest_below.result
    (c.latest_below.ensures ∙ ap (λ (k : History). latest c.args.req k) c.self.view_is)
