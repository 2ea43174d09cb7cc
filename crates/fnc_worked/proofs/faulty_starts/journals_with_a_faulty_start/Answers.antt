use Rattle.std.proofs.Common.{refl}
use Rattle.fnc_journal.specs.declared.outcome.Rule.{Rule}
use Rattle.fnc_worked.specs.FaultyStarts as FaultyStarts
use Rattle.fnc_worked.proofs.Verdicts.{breaks}
use Rattle.fnc_worked.proofs.faulty_starts.journals_with_a_faulty_start.Goals as goal

pub returns : goal.returns
returns c = record {
  too_early = breaks 3 Rule.Start FaultyStarts.too_early refl;
  over_the_limit = breaks 5 Rule.Start FaultyStarts.over_the_limit refl;
  over_its_own_limit = breaks 7 Rule.Start FaultyStarts.over_its_own_limit refl;
  place_freed = breaks 9 Rule.Start FaultyStarts.place_freed refl;
  two_runs = breaks 3 Rule.Start FaultyStarts.two_runs refl;
  other_attempt = breaks 4 Rule.Start FaultyStarts.other_attempt refl;
  lacking_action = breaks 3 Rule.Start FaultyStarts.lacking_action refl;
  lower_priority = breaks 3 Rule.Start FaultyStarts.lower_priority refl;
  topology_now = breaks 8 Rule.Start FaultyStarts.topology_now refl;
  lost_level = breaks 4 Rule.Start FaultyStarts.lost_level refl;
  not_split = breaks 4 Rule.Start FaultyStarts.not_split refl;
  two_at_once = breaks 5 Rule.Start FaultyStarts.two_at_once refl;
  retry_first = breaks 5 Rule.Start FaultyStarts.retry_first refl;
  later_first = breaks 12 Rule.Start FaultyStarts.later_first refl;
  not_capable = breaks 6 Rule.Start FaultyStarts.not_capable refl;
  asked_again = breaks 9 Rule.Start FaultyStarts.asked_again refl;
  kept_too_long = breaks 13 Rule.Start FaultyStarts.kept_too_long refl;
}
