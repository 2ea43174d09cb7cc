use Rattle.std.proofs.Common.{refl}
use Rattle.std.specs.Fmt.{digits}
use Rattle.fnc_worked.specs.Delays as Delays
use Rattle.fnc_worked.proofs.Verdicts.{replay}
use Rattle.fnc_worked.proofs.delays.delay_sessions.Goals as goal

pub returns : goal.returns
unfolding digits
returns c = record {
  delay_over = replay Delays.delay_over refl refl refl refl;
  delay_not_over = replay Delays.delay_not_over refl refl refl refl;
  retry_at_once = replay Delays.retry_at_once refl refl refl refl;
  on_at_once = replay Delays.on_at_once refl refl refl refl;
}
