use Rattle.std.proofs.Common.{◌≡◌}
use Rattle.fnc_journal.specs.Acts.{acts}
use Rattle.fnc_journal.specs.Levels.{levels}
use Rattle.fnc_search.specs.Indices.{from}
use Rattle.fnc_search.specs.Pursued.{operation}
use Rattle.fnc_judge.specs.Surveys.{surveyed_all, ranks_for, none}
use Rattle.fnc_judge.proofs.survey.survey_target.Given as goal

-- what was gathered so far, with what is left
abbrev pub invariant-loop-index : goal.invariant-loop-index
invariant-loop-index l = record {
  before : l.before ≡ l.operation.asked.before;
  all : surveyed_all (operation l.operation) l.moment (acts l.operation.req l.past) none
      (ranks_for l.operation.asked.kind l.operation.asked.before (levels l.target l.operation.asked.before))
      ≡ surveyed_all (operation l.operation) l.moment (acts l.operation.req l.past) l.survey
      (ranks_for l.operation.asked.kind l.operation.asked.before
      (from l.index (levels l.target l.operation.asked.before)));
}
