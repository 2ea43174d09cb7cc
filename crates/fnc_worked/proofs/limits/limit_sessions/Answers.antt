use Rattle.std.proofs.Common.{refl}
use Rattle.std.specs.Fmt.{digits}
use Rattle.fnc_worked.specs.Limits as Limits
use Rattle.fnc_worked.proofs.Verdicts.{replay}
use Rattle.fnc_worked.proofs.limits.limit_sessions.Goals as goal

pub returns : goal.returns
unfolding digits
returns c = record {
  limit_by_name = replay Limits.limit_by_name refl refl refl refl;
  no_limit = replay Limits.no_limit refl refl refl refl;
  own_limit = replay Limits.own_limit refl refl refl refl;
  two_places = replay Limits.two_places refl refl refl refl;
  retry_waits = replay Limits.retry_waits refl refl refl refl;
  place_held = replay Limits.place_held refl refl refl refl;
}
