use Rattle.std.proofs.Common.{refl}
use Rattle.fnc_worked.specs.Unserved as Unserved
use Rattle.fnc_worked.proofs.Verdicts.{idle, restless}
use Rattle.fnc_worked.proofs.unserved.unserved_inputs.Goals as goal

pub returns : goal.returns
returns c = record {
  no_start = idle Unserved.no_start refl refl refl;
  start_passed_over = idle Unserved.start_passed_over refl refl refl;
  no_reply = idle Unserved.no_reply refl refl refl;
  late_start = idle Unserved.late_start refl refl refl;
  late_reply = idle Unserved.late_reply refl refl refl;
  advance_before_its_input = idle Unserved.advance_before_its_input refl refl refl;
  two_advances = idle Unserved.two_advances refl refl refl;
  start_before_reply = restless Unserved.start_before_reply refl refl refl;
}
