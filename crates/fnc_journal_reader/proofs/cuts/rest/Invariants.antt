use Rattle.std.proofs.Common.{◌≡◌, ◌≤◌, drop}
use Rattle.fnc_journal_reader.specs.Cuts.{words}
use Rattle.fnc_journal_reader.proofs.cuts.rest.Given as goal

-- so many words were passed
abbrev pub invariant-loop : goal.invariant-loop
invariant-loop l = record {
  passed : words l.rest ≡ drop l.counter (words l.line);
  within : l.counter ≤ l.index;
}
