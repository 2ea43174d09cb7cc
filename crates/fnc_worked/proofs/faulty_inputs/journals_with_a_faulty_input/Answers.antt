use Rattle.std.proofs.Common.{refl}
use Rattle.fnc_journal.specs.declared.outcome.Rule.{Rule}
use Rattle.fnc_worked.specs.FaultyInputs as FaultyInputs
use Rattle.fnc_worked.proofs.Verdicts.{breaks}
use Rattle.fnc_worked.proofs.faulty_inputs.journals_with_a_faulty_input.Goals as goal

pub returns : goal.returns
returns c = record {
  wrong_lead = breaks 3 Rule.Prompt FaultyInputs.wrong_lead refl;
  other_kind = breaks 3 Rule.Prompt FaultyInputs.other_kind refl;
  joined_in_on_phase = breaks 9 Rule.Prompt FaultyInputs.joined_in_on_phase refl;
  second_exit = breaks 5 Rule.Exit FaultyInputs.second_exit refl;
  no_run = breaks 3 Rule.Order FaultyInputs.no_run refl;
  moment_falls = breaks 3 Rule.Order FaultyInputs.moment_falls refl;
  moment_past_the_end = breaks 5 Rule.Order FaultyInputs.moment_past_the_end refl;
  registration_left_out = breaks 0 Rule.Order FaultyInputs.registration_left_out refl;
  request_left_out = breaks 1 Rule.Order FaultyInputs.request_left_out refl;
  asks_for_list = breaks 1 Rule.Order FaultyInputs.asks_for_list refl;
  no_time = breaks 1 Rule.Order FaultyInputs.no_time refl;
  too_much_time = breaks 1 Rule.Order FaultyInputs.too_much_time refl;
  no_levels = breaks 1 Rule.Order FaultyInputs.no_levels refl;
  levels_passed_over = breaks 4 Rule.Order FaultyInputs.levels_passed_over refl;
  replaced_pattern = breaks 6 Rule.Order FaultyInputs.replaced_pattern refl;
  gone_twice = breaks 6 Rule.Order FaultyInputs.gone_twice refl;
  no_such_level = breaks 6 Rule.Order FaultyInputs.no_such_level refl;
}
