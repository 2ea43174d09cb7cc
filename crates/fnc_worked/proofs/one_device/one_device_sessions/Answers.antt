use Rattle.std.proofs.Common.{refl}
use Rattle.std.specs.Fmt.{digits}
use Rattle.fnc_worked.specs.OneDevice as OneDevice
use Rattle.fnc_worked.proofs.Verdicts.{replay}
use Rattle.fnc_worked.proofs.one_device.one_device_sessions.Goals as goal

pub returns : goal.returns
unfolding digits
returns c = record {
  first_try = replay OneDevice.first_try refl refl refl refl;
  second_try = replay OneDevice.second_try refl refl refl refl;
  both_fail = replay OneDevice.both_fail refl refl refl refl;
  merged = replay OneDevice.merged refl refl refl refl;
  none_capable = replay OneDevice.none_capable refl refl refl refl;
  without_reboot = replay OneDevice.without_reboot refl refl refl refl;
  by_priority = replay OneDevice.by_priority refl refl refl refl;
  next_candidate = replay OneDevice.next_candidate refl refl refl refl;
}
