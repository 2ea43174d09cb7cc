use Rattle.std.proofs.Common.{◌≡◌, ◌≤◌, length}
use Rattle.fnc_text.specs.Words.{words}
use Rattle.fnc_command.specs.Options.{pairs_of}
use Rattle.fnc_command.proofs.PairsSoFar.{onto}
use Rattle.fnc_command.proofs.option_word.read_pairs.Given as goal

-- the options so far, before those of the rest, are all options
abbrev pub invariant-loop-cut : goal.invariant-loop-cut
invariant-loop-cut l = record {
  same_size : l.out.size ≡ l.fn.out.size;
  room : length l.rest ≤ l.out.size;
  read : onto l.pairs (pairs_of (words l.rest)) ≡ pairs_of (words l.line);
}

abbrev pub decreases-loop-cut : goal.decreases-loop-cut
decreases-loop-cut l = length l.rest
