use Rattle.std.proofs.Common.{◌≡◌, length, ◌+◌, ◌-◌, ◌≤◌}
use denote.Text.{Utf8}
use denote.Shadow.{shadow}
use Rattle.fnc_hosts.specs.Entries.{entries, entries_from, separates}
use Rattle.fnc_hosts.proofs.hosts.count_entries.Given as goal

-- the entries so far and those of the rest are all entries
abbrev pub invariant-loop-cut : goal.invariant-loop-cut
invariant-loop-cut l = record {
  utf8 : shadow (Utf8 l.rest);
  room : l.count + length l.rest ≤ length l.text;
  counted : l.count + length (entries_from (separates l.form) (length l.text - length l.rest) l.rest)
      ≡ length (entries (separates l.form) l.text);
}

abbrev pub decreases-loop-cut : goal.decreases-loop-cut
decreases-loop-cut l = length l.rest
