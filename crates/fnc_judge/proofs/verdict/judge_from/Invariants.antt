use Rattle.std.proofs.Common.{◌≡◌, None}
use Rattle.fnc_journal.specs.Prefix.{prefix}
use Rattle.fnc_journal.specs.Lawful.{fault}
use Rattle.fnc_search.specs.Setup.{setup_end}
use Rattle.fnc_judge.proofs.verdict.judge_from.Given as goal

-- the entries so far break no rule, and it is known up to which of them they speak of devices and levels
abbrev pub invariant-loop-index : goal.invariant-loop-index
invariant-loop-index l = record {
  none : fault (prefix l.index l.journal.history) ≡ None;
  setup : setup_end (prefix l.index l.journal.history) ≡ l.setup;
}
