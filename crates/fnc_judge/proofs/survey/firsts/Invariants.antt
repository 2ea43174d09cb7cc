use Rattle.std.proofs.Common.{◌≡◌, drop}
use Rattle.fnc_journal.specs.Acts.{acts}
use Rattle.fnc_judge.specs.Places.{firsts_over}
use Rattle.fnc_search.specs.Pursued.{operation}
use Rattle.fnc_judge.specs.Tours.{gathered_all, nothing}
use Rattle.fnc_judge.proofs.survey.firsts.Given as goal

-- what was gathered so far, with what is left
abbrev pub invariant-loop-place : goal.invariant-loop-place
invariant-loop-place l = record {
  before : l.before ≡ l.operation.asked.before;
  all : gathered_all (operation l.operation) l.moment (acts l.operation.req l.past) nothing
      (firsts_over l.split l.operation.asked.kind l.operation.asked.before l.level 0 l.names)
      ≡ gathered_all (operation l.operation) l.moment (acts l.operation.req l.past) l.found
      (firsts_over l.split l.operation.asked.kind l.operation.asked.before l.level l.place (drop l.place l.names));
}
