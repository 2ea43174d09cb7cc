use denote.Shadow.{shadow}
use denote.Text.{Utf8}
use Rattle.std.proofs.Common.{◌≤◌, drop, codes}
use Rattle.fnc_printing.specs.Printed.{Progress}
use Rattle.fnc_journal_text.specs.Spelled.{delay_text, delays_text, listed}
use Rattle.fnc_journal_text.proofs.lists.print_delays.Given as goal

-- the items so far were written
abbrev pub invariant-loop-delay : goal.invariant-loop-delay
invariant-loop-delay g l = record {
  progress : Progress (g.K.Sink.held l.fn.sink) (g.K.Sink.held l.sink) (delays_text l.delays) (listed l.before (codes ";") delay_text (drop l.delay-index l.delays));
  is_text : shadow (Utf8 l.before);
  count : g.K.Sink.faults l.fn.sink ≤ g.K.Sink.faults l.sink;
}
