use Rattle.std.proofs.Common.{◌≤◌, drop}
use Rattle.fnc_journal_text.specs.Parts.{parts_text}
use Rattle.fnc_printing.specs.Printed.{Progress}
use Rattle.fnc_journal_text.proofs.parts.print_parts.Given as goal

-- the parts so far were written
abbrev pub invariant-loop-part : goal.invariant-loop-part
invariant-loop-part g l = record {
  progress : Progress (g.K.Sink.held l.fn.sink) (g.K.Sink.held l.sink) (parts_text l.parts) (parts_text (drop l.part-index l.parts));
  count : g.K.Sink.faults l.fn.sink ≤ g.K.Sink.faults l.sink;
}
