use Rattle.std.proofs.Common.{ap, ◌∙◌}
use Rattle.std.specs.Prelude.{find, option_map}
use Rattle.fnc_journal.specs.Operations.{is_joinable}
use Rattle.fnc_search.specs.Pursued.{operation}
use Rattle.fnc_judge.specs.Opened.{opens}
use Rattle.fnc_judge.proofs.Opening.{find-map, opens-all}
use Rattle.fnc_judge.proofs.requests.joined.Goals as goal

pub returns : goal.returns
returns c =
    let h = c.args.past.now in
    let p = is_joinable h c.args.moment c.args.kind c.args.target.now in
    ap (option_map operation) c.find_joinable.ensures ∙ find-map p (opens h h) ∙ ap (find p) (opens-all h)
