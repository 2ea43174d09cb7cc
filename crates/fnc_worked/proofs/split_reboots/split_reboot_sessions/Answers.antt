use Rattle.std.proofs.Common.{refl}
use Rattle.std.specs.Fmt.{digits}
use Rattle.fnc_worked.specs.SplitReboots as SplitReboots
use Rattle.fnc_worked.proofs.Verdicts.{replay}
use Rattle.fnc_worked.proofs.split_reboots.split_reboot_sessions.Goals as goal

pub returns : goal.returns
unfolding digits
returns c = record {
  split_reboot = replay SplitReboots.split_reboot refl refl refl refl;
  on_fails = replay SplitReboots.on_fails refl refl refl refl;
  total_in_on_phase = replay SplitReboots.total_in_on_phase refl refl refl refl;
  total_in_off_phase = replay SplitReboots.total_in_off_phase refl refl refl refl;
  asked_in_on_phase = replay SplitReboots.asked_in_on_phase refl refl refl refl;
  ordinary_use = replay SplitReboots.ordinary_use refl refl refl refl;
}
