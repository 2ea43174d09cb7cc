use Rattle.std.proofs.Common.{◌≡◌, ◌≤◌, ◌++◌, length}
use Rattle.fnc_text.specs.Escapes.{spelled}
use Rattle.percent_encoding.specs.Iter.{decoded_bytes}
use Rattle.fnc_command.proofs.spelling.spell.Given as goal

-- the bytes so far and those that are left are all bytes that the word spells, and there is room for them
abbrev pub invariant-loop-byte : goal.invariant-loop-byte
invariant-loop-byte l = record {
  same_size : l.out.size ≡ l.fn.out.size;
  joined : l.out.bytes ++ decoded_bytes l.byte-iterator ≡ spelled l.word;
  room : length (spelled l.word) ≤ l.out.size;
}
