use denote.Shadow.{shadow}
use denote.Text.{Utf8}
use Rattle.std.proofs.Common.{◌≤◌, drop, codes}
use Rattle.fnc_printing.specs.Printed.{Progress}
use Rattle.fnc_journal_text.specs.Spelled.{listed, map_text, port_text}
use Rattle.fnc_journal_text.proofs.lists.print_map.Given as goal

-- the items so far were written
abbrev pub invariant-loop-pair : goal.invariant-loop-pair
invariant-loop-pair g l = record {
  progress : Progress (g.K.Sink.held l.fn.sink) (g.K.Sink.held l.sink) (map_text l.pairs) (listed l.before (codes ";") port_text (drop l.pair-index l.pairs));
  is_text : shadow (Utf8 l.before);
  count : g.K.Sink.faults l.fn.sink ≤ g.K.Sink.faults l.sink;
}
