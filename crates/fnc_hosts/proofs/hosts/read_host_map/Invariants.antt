use Rattle.std.proofs.Common.{◌≡◌, length, map, ◌-◌, ◌≤◌}
use denote.Text.{Utf8}
use denote.Shadow.{shadow}
use Rattle.fnc_hosts.specs.Entries.{entries, entries_from, separates_map}
use Rattle.fnc_hosts.specs.Hosts.{host_pair, together}
use Rattle.fnc_hosts.proofs.Reading.{onto}
use Rattle.fnc_hosts.proofs.hosts.read_host_map.Given as goal

-- the names so far and those of the rest are all.pairs
abbrev pub invariant-loop-cut : goal.invariant-loop-cut
invariant-loop-cut l = record {
  utf8 : shadow (Utf8 l.rest);
  room : length l.rest ≤ length l.text;
  read : onto l.pairs (together (map host_pair (entries_from separates_map (length l.text - length l.rest) l.rest)))
      ≡ together (map host_pair (entries separates_map l.text));
}

abbrev pub decreases-loop-cut : goal.decreases-loop-cut
decreases-loop-cut l = length l.rest
