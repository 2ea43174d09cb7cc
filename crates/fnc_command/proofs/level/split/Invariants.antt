use Rattle.std.proofs.Common.{◌≡◌, map}
use Rattle.fnc_command.proofs.level.split.Given as goal

-- the parts so far
abbrev pub invariant-loop-part : goal.invariant-loop-part
invariant-loop-part l = l.parts ≡ map (λ p. p.now) l.yielded
