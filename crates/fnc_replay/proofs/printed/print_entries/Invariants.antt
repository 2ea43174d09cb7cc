use Rattle.std.proofs.Common.{◌≤◌, List, Option, ℕ}
use Rattle.fnc_outside.specs.Told.{Gains}
use Rattle.fnc_journal.specs.Prefix.{prefix}
use Rattle.fnc_journal_text.specs.declared.form.Form.{Form}
use Rattle.fnc_journal_text.specs.Paper.{text}
use Rattle.fnc_replay.proofs.printed.print_entries.Given as goal

-- where the lines before the first were held, the lines before this one are
abbrev pub invariant-loop-index : goal.invariant-loop-index
invariant-loop-index g l = record {
  printed : (start : Option (List ℕ)) →
      Gains start (g.K.Sink.held l.fn.sink) (text (prefix l.from l.journal.history) Form.Journal) →
      Gains start (g.K.Sink.held l.sink) (text (prefix l.index l.journal.history) Form.Journal);
  count : g.K.Sink.faults l.fn.sink ≤ g.K.Sink.faults l.sink;
}
