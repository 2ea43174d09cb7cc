use Rattle.std.proofs.Common.{◌≡◌, drop}
use Rattle.fnc_device.specs.Schedules.{delays}
use Rattle.fnc_device.proofs.Reading.{onto}
use Rattle.fnc_device.proofs.schedule.delays.Given as goal

-- the bases so far and those of the rest are all bases
abbrev pub invariant-loop-pair : goal.invariant-loop-pair
invariant-loop-pair l = onto l.delays (delays (drop l.pair-index l.pairs)) ≡ delays l.pairs
