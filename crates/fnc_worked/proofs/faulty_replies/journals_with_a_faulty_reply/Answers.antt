use Rattle.std.proofs.Common.{refl}
use Rattle.fnc_journal.specs.declared.outcome.Rule.{Rule}
use Rattle.fnc_worked.specs.FaultyReplies as FaultyReplies
use Rattle.fnc_worked.proofs.Verdicts.{breaks}
use Rattle.fnc_worked.proofs.faulty_replies.journals_with_a_faulty_reply.Goals as goal

pub returns : goal.returns
returns c = record {
  failed_run = breaks 4 Rule.Reply FaultyReplies.failed_run refl;
  exit_at_the_limit = breaks 7 Rule.Reply FaultyReplies.exit_at_the_limit refl;
  reply_left_out = breaks 7 Rule.Prompt FaultyReplies.reply_left_out refl;
  advance_left_out = breaks 7 Rule.Prompt FaultyReplies.advance_left_out refl;
  swapped_requesters = breaks 5 Rule.Reply FaultyReplies.swapped_requesters refl;
  swapped_operations = breaks 4 Rule.Reply FaultyReplies.swapped_operations refl;
  second_answer = breaks 5 Rule.Once FaultyReplies.second_answer refl;
  other_answer = breaks 6 Rule.Once FaultyReplies.other_answer refl;
  later_answer = breaks 6 Rule.Once FaultyReplies.later_answer refl;
  input_between = breaks 6 Rule.Once FaultyReplies.input_between refl;
  borrowed_confirmation = breaks 11 Rule.Reply FaultyReplies.borrowed_confirmation refl;
  early_time = breaks 7 Rule.Reply FaultyReplies.early_time refl;
  early_pass = breaks 6 Rule.Reply FaultyReplies.early_pass refl;
  no_on_phase = breaks 8 Rule.Reply FaultyReplies.no_on_phase refl;
  time_in_on_phase = breaks 9 Rule.Reply FaultyReplies.time_in_on_phase refl;
  gives_up_early = breaks 4 Rule.Reply FaultyReplies.gives_up_early refl;
  other_level = breaks 4 Rule.Reply FaultyReplies.other_level refl;
  one_is_capable = breaks 6 Rule.Reply FaultyReplies.one_is_capable refl;
  confirmed_on = breaks 6 Rule.Reply FaultyReplies.confirmed_on refl;
  confirmed_too_early = breaks 3 Rule.Reply FaultyReplies.confirmed_too_early refl;
}
