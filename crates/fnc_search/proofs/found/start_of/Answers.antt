use Rattle.std.proofs.Common.{sym, ◌∙◌}
use Rattle.fnc_journal.specs.declared.entry.Entry.{Entry}
use Rattle.fnc_journal.specs.Found.{started, started_here}
use Rattle.fnc_journal.proofs.Finds.{started-at}
use Rattle.fnc_search.proofs.Pointed.{said-nowhere, said-there}
use Rattle.fnc_search.proofs.found.start_of.Goals as goal

pub returns-in_err-at : goal.returns-in_err-at
returns-in_err-at c =
    let n = c.args.run in
    let nothing = said-nowhere (λ (e : Entry). started_here n e.event) c.args.past.now _ (started n c.args.past.now)
    (started-at n c.args.past.now) (sym c.start_at.ensures.at ∙ c.in_err-at.was) in
    rw c.from_residual.ensures (sym nothing)

pub returns : goal.returns
returns c =
    let n = c.args.run in
    c.started_here.ensures
    ∙ sym (said-there (λ (e : Entry). started_here n e.event) c.args.past.now _ c.in_ok-at.at c.entry.result.now
    (started n c.args.past.now) (started-at n c.args.past.now) (sym c.start_at.ensures.at ∙ c.in_ok-at.was)
    c.entry.ensures)
