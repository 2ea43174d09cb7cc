use Rattle.std.proofs.Common.{◌≤◌, List, Option, ℕ}
use Rattle.fnc_outside.specs.Told.{Gains}
use Rattle.fnc_journal.specs.Line.{answers_text}
use Rattle.fnc_journal.specs.Prefix.{prefix}
use Rattle.fnc_desk.proofs.output.print_from.Given as goal

-- where the lines before the first were held, the lines before this one are
abbrev pub invariant-loop-index : goal.invariant-loop-index
invariant-loop-index g l = record {
  printed : (start : Option (List ℕ)) →
      Gains start (g.K.Sink.held l.fn.sink) (answers_text (prefix l.from l.journal.history)) →
      Gains start (g.K.Sink.held l.sink) (answers_text (prefix l.index l.journal.history));
  count : g.K.Sink.faults l.fn.sink ≤ g.K.Sink.faults l.sink;
}
