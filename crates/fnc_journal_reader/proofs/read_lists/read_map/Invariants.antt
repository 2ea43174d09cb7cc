use Rattle.std.proofs.Common.{◌≡◌, length}
use Rattle.fnc_journal_reader.specs.Cuts.{parts}
use Rattle.fnc_journal_reader.specs.Reads.{each}
use Rattle.fnc_journal_reader.specs.Values.{pair_of}
use Rattle.fnc_journal_reader.proofs.Reading.{onto}
use Rattle.fnc_journal_reader.proofs.read_lists.read_map.Given as goal

-- the items so far and those of the rest are all items
abbrev pub invariant-loop-rest : goal.invariant-loop-rest
invariant-loop-rest l = onto l.pairs (each (pair_of 58) (parts 59 l.rest)) ≡ each (pair_of 58) (parts 59 l.text)

abbrev pub decreases-loop-rest : goal.decreases-loop-rest
decreases-loop-rest l = length l.rest
