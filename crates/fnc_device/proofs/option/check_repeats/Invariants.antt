use Rattle.std.proofs.Common.{◌≡◌, [], take, drop}
use Rattle.fnc_device.specs.Options.{distinct_after}
use Rattle.fnc_device.proofs.option.check_repeats.Given as goal

abbrev pub invariant-loop-place : goal.invariant-loop-place
invariant-loop-place l = distinct_after (take l.place l.options) (drop l.place l.options) ≡ distinct_after [] l.options
