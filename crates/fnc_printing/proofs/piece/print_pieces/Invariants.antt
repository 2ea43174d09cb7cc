use Rattle.std.proofs.Common.{◌≤◌, drop}
use Rattle.fnc_printing.specs.Printed.{Progress, pieces_text}
use Rattle.fnc_printing.proofs.piece.print_pieces.Given as goal

-- the pieces so far were written
abbrev pub invariant-loop-piece : goal.invariant-loop-piece
invariant-loop-piece g l = record {
  progress :
      Progress (g.K.Sink.held l.fn.sink) (g.K.Sink.held l.sink) (pieces_text l.pieces)
      (pieces_text (drop l.piece-index l.pieces));
  count : g.K.Sink.faults l.fn.sink ≤ g.K.Sink.faults l.sink;
}
