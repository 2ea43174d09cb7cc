use Rattle.std.proofs.Common.{◌≡◌, drop}
use Rattle.fnc_config.specs.Causes.{repeats}
use Rattle.fnc_config.proofs.shape.repeats.Given as goal

-- no name so far stands again
abbrev pub invariant-loop-place : goal.invariant-loop-place
invariant-loop-place l = repeats l.devices ≡ repeats (drop l.place l.devices)
