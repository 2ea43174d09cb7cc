use Rattle.std.proofs.Common.{arith}
use Rattle.fnc_journal_text.proofs.Listing.{parts-next}
use Rattle.fnc_printing.proofs.Pieces.{on-err, progress-failed, progress-more}
use Rattle.fnc_journal_text.proofs.parts.print_parts.Goals as goal

pub returns-in_err-print_part-clause-err : goal.returns-in_err-print_part-clause-err
returns-in_err-print_part-clause-err g c =
    on-err _ _
    (progress-failed _ _ _ _ _ _ _ c.loop-part.invariant.progress (parts-next c.args.parts.now c.loop-part.part-index c.part-item.result c.loop-part-test.true c.part-item.is)
    c.in_err-print_part.ensures.err)

pub loop-part-preserved : goal.loop-part-preserved
loop-part-preserved g c = record {
  progress =
      progress-more _ _ _ _ _ _ _ c.loop-part.invariant.progress (parts-next c.args.parts.now c.loop-part.part-index c.part-item.result c.loop-part-test.true c.part-item.is)
      c.in_ok-print_part.ensures.ok;
  count = omega (arith, c.loop-part.invariant.count, c.in_ok-print_part.ensures.count);
}
