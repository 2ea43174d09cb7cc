use Rattle.std.proofs.Common.{◌≤◌, drop}
use Rattle.fnc_printing.specs.Printed.{Progress}
use Rattle.fnc_journal_text.specs.Spelled.{own_text}
use Rattle.fnc_journal_text.proofs.lists.print_own.Given as goal

-- the items so far were written
abbrev pub invariant-loop-option : goal.invariant-loop-option
invariant-loop-option g l = record {
  progress : Progress (g.K.Sink.held l.fn.sink) (g.K.Sink.held l.sink) (own_text l.options) (own_text (drop l.option-index l.options));
  count : g.K.Sink.faults l.fn.sink ≤ g.K.Sink.faults l.sink;
}
