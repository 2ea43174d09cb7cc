use Rattle.std.proofs.Common.{refl}
use Rattle.std.specs.Fmt.{digits}
use Rattle.fnc_worked.specs.Queries as Queries
use Rattle.fnc_worked.proofs.Verdicts.{replay}
use Rattle.fnc_worked.proofs.queries.query_sessions.Goals as goal

pub returns : goal.returns
unfolding digits
returns c = record {
  listed = replay Queries.listed refl refl refl refl;
  not_listed = replay Queries.not_listed refl refl refl refl;
  status_off = replay Queries.status_off refl refl refl refl;
  status_fails = replay Queries.status_fails refl refl refl refl;
  kept_yes = replay Queries.kept_yes refl refl refl refl;
  kept_no = replay Queries.kept_no refl refl refl refl;
  listed_but_failed = replay Queries.listed_but_failed refl refl refl refl;
  query_ends = replay Queries.query_ends refl refl refl refl;
  query_total = replay Queries.query_total refl refl refl refl;
  kept_late = replay Queries.kept_late refl refl refl refl;
  later_no = replay Queries.later_no refl refl refl refl;
}
