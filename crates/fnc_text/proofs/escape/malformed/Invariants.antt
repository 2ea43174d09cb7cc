use Rattle.std.proofs.Common.{◌≡◌, drop}
use Rattle.fnc_text.specs.Escapes.{malformed_from}
use Rattle.fnc_text.proofs.escape.malformed.Given as goal

abbrev pub invariant-loop-place : goal.invariant-loop-place
invariant-loop-place l = malformed_from l.place (drop l.place l.word) ≡ malformed_from 0 l.word
