use Rattle.std.proofs.Common.{◌≤◌}
use Rattle.fnc_outside.specs.Told.{Gains}
use Rattle.fnc_journal.specs.Prefix.{prefix}
use Rattle.fnc_audit.specs.Said.{history_text}
use Rattle.fnc_audit.proofs.replies.print_answers.Given as goal

-- the lines before this one are held
abbrev pub invariant-loop-index : goal.invariant-loop-index
invariant-loop-index g l = record {
  printed : Gains (g.K.Sink.held l.fn.sink) (g.K.Sink.held l.sink)
      (history_text l.node (prefix l.index l.journal.history));
  count : g.K.Sink.faults l.fn.sink ≤ g.K.Sink.faults l.sink;
}
