use Rattle.std.proofs.Common.{◌≡◌, ◌≤◌, length}
use Rattle.fnc_text.specs.Words.{words}
use Rattle.fnc_command.specs.Asks.{with_words, no_options}
use Rattle.fnc_command.proofs.ask.read_options.Given as goal

-- the options so far, with those of the rest, are all options
abbrev pub invariant-loop-cut : goal.invariant-loop-cut
invariant-loop-cut l = record {
  same_size : l.out.size ≡ l.fn.out.size;
  room : length l.rest ≤ l.out.size;
  read : with_words l.mode l.options (words l.rest) ≡ with_words l.mode no_options (words l.line);
}

abbrev pub decreases-loop-cut : goal.decreases-loop-cut
decreases-loop-cut l = length l.rest
