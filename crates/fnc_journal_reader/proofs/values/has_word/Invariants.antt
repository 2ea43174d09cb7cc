use Rattle.std.proofs.Common.{◌≡◌, length}
use Rattle.fnc_journal_reader.specs.Values.{has_word}
use Rattle.fnc_journal_reader.proofs.values.has_word.Given as goal

-- the word is in the list where it is in the rest
abbrev pub invariant-loop-rest : goal.invariant-loop-rest
invariant-loop-rest l = has_word l.rest l.word ≡ has_word l.text l.word

abbrev pub decreases-loop-rest : goal.decreases-loop-rest
decreases-loop-rest l = length l.rest
