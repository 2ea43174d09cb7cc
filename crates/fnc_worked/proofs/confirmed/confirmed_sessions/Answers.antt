use Rattle.std.proofs.Common.{refl}
use Rattle.std.specs.Fmt.{digits}
use Rattle.fnc_worked.specs.Confirmed as Confirmed
use Rattle.fnc_worked.proofs.Verdicts.{replay}
use Rattle.fnc_worked.proofs.confirmed.confirmed_sessions.Goals as goal

pub returns : goal.returns
unfolding digits
returns c = record {
  confirmed = replay Confirmed.confirmed refl refl refl refl;
  confirmed_before = replay Confirmed.confirmed_before refl refl refl refl;
  confirmed_in_on_phase = replay Confirmed.confirmed_in_on_phase refl refl refl refl;
}
