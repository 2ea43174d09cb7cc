use Rattle.std.proofs.Common.{◌≡◌, ◌+◌, drop}
use Rattle.fnc_outside.specs.Lines as Lines
use Rattle.fnc_outside.proofs.memory_source.line_length.Given as goal

-- no line feed was seen so far
abbrev pub invariant-loop-i : goal.invariant-loop-i
invariant-loop-i l = Lines.line_length l.text ≡ l.i + Lines.line_length (drop l.i l.text)
