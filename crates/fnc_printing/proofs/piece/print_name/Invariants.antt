use Rattle.std.proofs.Common.{◌≤◌}
use Rattle.percent_encoding.specs.Iter.{encoded_text}
use Rattle.fnc_printing.specs.Printed.{Progress}
use Rattle.fnc_printing.proofs.piece.print_name.Given as goal

-- what was encoded so far was written
abbrev pub invariant-loop-part : goal.invariant-loop-part
invariant-loop-part g l = record {
  progress :
      Progress (g.K.Sink.held l.fn.sink) (g.K.Sink.held l.sink) (encoded_text l.initial.part-iterator)
      (encoded_text l.part-iterator);
  count : g.K.Sink.faults l.fn.sink ≤ g.K.Sink.faults l.sink;
}
