use Rattle.std.proofs.Common.{refl}
use Rattle.std.specs.Fmt.{digits}
use Rattle.fnc_worked.specs.Refusals as Refusals
use Rattle.fnc_worked.proofs.Verdicts.{replay}
use Rattle.fnc_worked.proofs.refusals.refused_sessions.Goals as goal

pub returns : goal.returns
unfolding digits
returns c = record {
  refusals = replay Refusals.refusals refl refl refl refl;
  escaped_name = replay Refusals.escaped_name refl refl refl refl;
}
