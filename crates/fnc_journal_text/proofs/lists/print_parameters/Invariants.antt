use Rattle.std.proofs.Common.{◌≤◌, drop}
use Rattle.fnc_printing.specs.Printed.{Progress}
use Rattle.fnc_journal_text.specs.Spelled.{parameters_text}
use Rattle.fnc_journal_text.proofs.lists.print_parameters.Given as goal

-- the items so far were written
abbrev pub invariant-loop-parameter : goal.invariant-loop-parameter
invariant-loop-parameter g l = record {
  progress : Progress (g.K.Sink.held l.fn.sink) (g.K.Sink.held l.sink) (parameters_text l.parameters) (parameters_text (drop l.parameter-index l.parameters));
  count : g.K.Sink.faults l.fn.sink ≤ g.K.Sink.faults l.sink;
}
