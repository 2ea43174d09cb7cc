use Rattle.std.proofs.Common.{refl}
use Rattle.fnc_worked.proofs.owed.entries_owed.Goals as goal

pub returns : goal.returns
returns c = record {
  first_try = refl;
  both_fail = refl;
  merged = refl;
  unfit = refl;
  split_reboot = refl;
  total_in_off_phase = refl;
  listed = refl;
  not_listed = refl;
  kept_yes = refl;
  confirmed = refl;
}
