use Rattle.std.proofs.Common.{◌≡◌, length}
use Rattle.fnc_journal_reader.specs.Cuts.{parts}
use Rattle.fnc_journal_reader.specs.Reads.{each}
use Rattle.fnc_journal_reader.specs.Values.{parameter_of}
use Rattle.fnc_journal_reader.proofs.Reading.{onto}
use Rattle.fnc_journal_reader.proofs.read_lists.read_parameters.Given as goal

-- the items so far and those of the rest are all items
abbrev pub invariant-loop-rest : goal.invariant-loop-rest
invariant-loop-rest l = onto l.parameters (each parameter_of (parts 32 l.rest)) ≡ each parameter_of (parts 32 l.text)

abbrev pub decreases-loop-rest : goal.decreases-loop-rest
decreases-loop-rest l = length l.rest
