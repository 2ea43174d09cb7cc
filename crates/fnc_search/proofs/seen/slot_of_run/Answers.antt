use Rattle.std.proofs.Common.{sym, ap, ◌∙◌}
use Rattle.fnc_search.specs.Seen.{slot_for}
use Rattle.fnc_search.proofs.Numbered.{run-slot}
use Rattle.fnc_search.proofs.seen.slot_of_run.Goals as goal

pub returns : goal.returns
returns c =
    c.slot_for.ensures ∙ ap (slot_for c.args.req) c.start_of.ensures
    ∙ sym (run-slot c.args.past.now c.requires c.args.req c.args.run)
