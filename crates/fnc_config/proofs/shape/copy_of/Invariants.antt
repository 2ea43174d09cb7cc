use Rattle.std.proofs.Common.{◌≡◌, take}
use Rattle.fnc_config.proofs.shape.copy_of.Given as goal

-- the names so far
abbrev pub invariant-loop-device : goal.invariant-loop-device
invariant-loop-device l = l.names ≡ take l.device-index l.fn.devices
