-- A part of the line was written.
use Rattle.fnc_outside.proofs.Telling.{holds-appended}
use Rattle.fnc_printing.proofs.Pieces.{on-err}
use Rattle.fnc_workload.proofs.session.sum_up.Goals as goal

pub returns-in_err-print_summary-clause-err : goal.returns-in_err-print_summary-clause-err
returns-in_err-print_summary-clause-err g c =
    on-err c.from_residual.result _ (holds-appended _ _ _ c.in_err-print_summary.ensures.err)
