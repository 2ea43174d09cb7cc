use Rattle.std.proofs.Common.{◌≡◌, drop}
use Rattle.fnc_outside.specs.Stored.{kept_of}
use Rattle.fnc_outside.proofs.memory_sink.kept.Given as goal

-- no item so far has the number
abbrev pub invariant-loop-item : goal.invariant-loop-item
invariant-loop-item l = kept_of l.torn l.write ≡ kept_of (drop l.item-index l.torn) l.write
