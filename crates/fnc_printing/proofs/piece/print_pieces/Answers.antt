use Rattle.std.proofs.Common.{arith}
use Rattle.fnc_printing.proofs.Pieces.{on-err, pieces-next, progress-failed, progress-more}
use Rattle.fnc_printing.proofs.piece.print_pieces.Goals as goal

pub returns-in_err-print_piece-clause-err : goal.returns-in_err-print_piece-clause-err
returns-in_err-print_piece-clause-err g c =
    on-err _ _
    (progress-failed _ _ _ _ _ _ _ c.loop-piece.invariant.progress
    (pieces-next c.args.pieces.now c.loop-piece.piece-index _ c.loop-piece-test.true) c.in_err-print_piece.ensures.err)

pub loop-piece-preserved : goal.loop-piece-preserved
loop-piece-preserved g c = record {
  progress =
      progress-more _ _ _ _ _ _ _ c.loop-piece.invariant.progress
      (pieces-next c.args.pieces.now c.loop-piece.piece-index _ c.loop-piece-test.true) c.in_ok-print_piece.ensures.ok;
  count = omega (arith, c.loop-piece.invariant.count, c.in_ok-print_piece.ensures.count);
}
