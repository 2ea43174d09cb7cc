use Rattle.std.proofs.Common.{◌≡◌, length}
use Rattle.fnc_journal_reader.specs.Cuts.{parts}
use Rattle.fnc_journal_reader.specs.Reads.{each}
use Rattle.fnc_journal_reader.specs.Values.{delay_of}
use Rattle.fnc_journal_reader.proofs.Reading.{onto}
use Rattle.fnc_journal_reader.proofs.read_lists.read_delays.Given as goal

-- the items so far and those of the rest are all items
abbrev pub invariant-loop-rest : goal.invariant-loop-rest
invariant-loop-rest l = onto l.delays (each delay_of (parts 59 l.rest)) ≡ each delay_of (parts 59 l.text)

abbrev pub decreases-loop-rest : goal.decreases-loop-rest
decreases-loop-rest l = length l.rest
