use Rattle.std.proofs.Common.{◌≤◌, ◌≡◌, []}
use Rattle.fnc_journal.specs.declared.limits.TheConstants.{LONGEST_JOURNAL_LINE}
use Rattle.fnc_told.specs.SourceAndSink.{change, source_told}
use Rattle.fnc_audit.specs.Reading.{ReadsSoFar}
use Rattle.fnc_audit.proofs.reading.read_text.Given as goal

-- each poll gave an event, and the text has their lines
abbrev pub invariant-loop : goal.invariant-loop
invariant-loop g l = record {
  empty : l.line.bytes ≡ [];
  longest : l.line.size ≡ LONGEST_JOURNAL_LINE;
  limit : l.text.limit ≡ l.fn.text.limit;
  reads : (
      let of_source = source_told g.S.Source.given g.S.Source.left g.S.Source.faults in
      ReadsSoFar (change (of_source l.fn.source) (of_source l.source)) l.counter l.text);
  faults : g.S.Source.faults l.fn.source ≤ g.S.Source.faults l.source;
}
