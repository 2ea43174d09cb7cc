use Rattle.std.proofs.Common.{ap, ◌∙◌}
use Rattle.std.specs.Prelude.{is_none}
use Rattle.fnc_journal.specs.Operations.{is_due, open_operations}
use Rattle.fnc_judge.proofs.Opening.{none-any}
use Rattle.fnc_judge.proofs.requests.settled.Goals as goal

pub returns : goal.returns
returns c =
    let h = c.args.past.now in
    c.is_nobody.ensures ∙ ap is_none c.first_due.ensures ∙ none-any (is_due h c.args.moment) (open_operations h)
