use Rattle.std.proofs.Common.{ap, ◌∙◌}
use Rattle.std.specs.Prelude.{find, option_map}
use Rattle.fnc_journal.specs.Operations.{is_due}
use Rattle.fnc_search.specs.Pursued.{operation}
use Rattle.fnc_judge.specs.Opened.{opens}
use Rattle.fnc_judge.proofs.Opening.{find-map, opens-all}
use Rattle.fnc_judge.proofs.requests.first_due.Goals as goal

pub returns : goal.returns
returns c =
    let h = c.args.past.now in
    ap (option_map operation) c.find_due.ensures
    ∙ find-map (is_due h c.args.moment) (opens h h)
    ∙ ap (find (is_due h c.args.moment)) (opens-all h)
