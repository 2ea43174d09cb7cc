use Rattle.std.proofs.Common.{refl}
use Rattle.std.specs.Fmt.{digits}
use Rattle.fnc_worked.specs.Deadlines as Deadlines
use Rattle.fnc_worked.proofs.Verdicts.{replay}
use Rattle.fnc_worked.proofs.deadlines.deadline_sessions.Goals as goal

pub returns : goal.returns
unfolding digits
returns c = record {
  late_success = replay Deadlines.late_success refl refl refl refl;
  at_the_limit = replay Deadlines.at_the_limit refl refl refl refl;
  below_the_limit = replay Deadlines.below_the_limit refl refl refl refl;
  ready_at_the_end = replay Deadlines.ready_at_the_end refl refl refl refl;
  both_totals = replay Deadlines.both_totals refl refl refl refl;
  merged_total = replay Deadlines.merged_total refl refl refl refl;
  no_room = replay Deadlines.no_room refl refl refl refl;
}
