use denote.Shadow.{shadow}
use denote.Text.{Utf8}
use Rattle.std.proofs.Common.{◌≤◌, drop, codes}
use Rattle.fnc_journal.specs.Line.{escaped}
use Rattle.fnc_printing.specs.Printed.{Progress}
use Rattle.fnc_journal_text.specs.Spelled.{listed, names_text}
use Rattle.fnc_journal_text.proofs.lists.print_names.Given as goal

-- the items so far were written
abbrev pub invariant-loop-name : goal.invariant-loop-name
invariant-loop-name g l = record {
  progress : Progress (g.K.Sink.held l.fn.sink) (g.K.Sink.held l.sink) (names_text l.names) (listed l.before (codes ",") escaped (drop l.name-index l.names));
  is_text : shadow (Utf8 l.before);
  count : g.K.Sink.faults l.fn.sink ≤ g.K.Sink.faults l.sink;
}
