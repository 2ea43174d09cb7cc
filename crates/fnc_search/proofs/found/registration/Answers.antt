use Rattle.std.proofs.Common.{sym, ◌∙◌}
use Rattle.fnc_journal.specs.declared.entry.Entry.{Entry}
use Rattle.fnc_journal.specs.Found.{registration, registration_here}
use Rattle.fnc_journal.proofs.Finds.{registration-at}
use Rattle.fnc_search.proofs.Pointed.{said-nowhere, said-there}
use Rattle.fnc_search.proofs.found.registration.Goals as goal

pub returns-in_err-at : goal.returns-in_err-at
returns-in_err-at c =
    let n = c.args.reg in
    let nothing = said-nowhere (λ (e : Entry). registration_here n e.event) c.args.past.now _ (registration n c.args.past.now)
    (registration-at n c.args.past.now) (sym c.device_at.ensures.at ∙ c.in_err-at.was) in
    rw c.from_residual.ensures (sym nothing)

pub returns : goal.returns
returns c =
    let n = c.args.reg in
    c.registration_here.ensures
    ∙ sym (said-there (λ (e : Entry). registration_here n e.event) c.args.past.now _ c.in_ok-at.at c.entry.result.now
    (registration n c.args.past.now) (registration-at n c.args.past.now) (sym c.device_at.ensures.at ∙ c.in_ok-at.was)
    c.entry.ensures)
