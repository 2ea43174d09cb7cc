use Rattle.std.proofs.Common.{List, ◌+◌, sym, ap, ◌∙◌, arith, Option}
use Rattle.std.specs.Prelude.{option_map}
use Rattle.fnc_journal.specs.History.{History}
use Rattle.fnc_journal.specs.Acts.{acts}
use Rattle.fnc_journal.specs.Levels.{Level, levels}
use Rattle.fnc_search.specs.Indices.{from, top}
use Rattle.fnc_search.specs.Pursued.{operation}
use Rattle.fnc_judge.specs.Surveys.{surveyed_all, surveyed_any, ranks_for, rank_over, none}
use Rattle.fnc_journal.proofs.RisingLevels.{levels-rising}
use Rattle.fnc_search.proofs.Rising.{of_index, from-none, from-past, from-more}
use Rattle.fnc_judge.proofs.Ranks.{survey-next}
use Rattle.fnc_judge.proofs.survey.survey_target.Goals as goal

pub loop-index-init : goal.loop-index-init
loop-index-init c =
    let o = c.args.operation.now in
    record {
      before = c.before-before.ensures;
      all =
          ap (λ ls. surveyed_all (operation o) c.args.moment (acts o.req c.args.past.now) none
          (ranks_for o.asked.kind o.asked.before ls)) (sym (from-none (levels c.args.target.now o.asked.before)))
          ∙ ap (λ s. surveyed_all (operation o) c.args.moment (acts o.req c.args.past.now) s
          (ranks_for o.asked.kind o.asked.before (from 0 (levels c.args.target.now o.asked.before))))
          (sym c.none-survey.ensures);
    }

pub loop-index-preserved : goal.loop-index-preserved
loop-index-preserved c =
    let o = c.args.operation.now in
    let xs = acts o.req c.args.past.now in
    let ls = levels c.args.target.now o.asked.before in
    let rest = from (c.loop-index.index + 1) ls in
    let found = c.level_of-level.ensures
    ∙ ap (λ (h : History). of_index c.loop-index.index
    (levels c.args.target.now h)) c.loop-index.invariant.before in
    record {
      before = c.loop-index.invariant.before;
      all =
          c.loop-index.invariant.all
          ∙ ap (λ (ks : List Level). surveyed_all (operation o) c.args.moment xs c.loop-index.survey
          (ranks_for o.asked.kind o.asked.before ks))
          (from-more c.loop-index.index ls (levels-rising c.args.target.now o.asked.before))
          ∙ survey-next (operation o) c.args.moment xs c.loop-index.survey o.asked.kind o.asked.before
          (of_index c.loop-index.index ls) rest
          ∙ ap (λ (x : Option Level). surveyed_all (operation o) c.args.moment xs
          (surveyed_any (operation o) c.args.moment xs c.loop-index.survey
          (option_map (rank_over o.asked.kind o.asked.before) x)) (ranks_for o.asked.kind o.asked.before rest))
          (sym found)
          ∙ ap (λ s. surveyed_all (operation o) c.args.moment xs s (ranks_for o.asked.kind o.asked.before rest))
          (sym c.with_any-survey.ensures);
    }

pub returns : goal.returns
returns c =
    let o = c.args.operation.now in
    let high = c.top_of-index-end.ensures
    ∙ ap (λ (h : History). top c.args.target.now h) c.loop-index.invariant.before in
    sym (c.loop-index.invariant.all
    ∙ ap (λ ks. surveyed_all (operation o) c.args.moment (acts o.req c.args.past.now) c.loop-index.survey
    (ranks_for o.asked.kind o.asked.before ks))
    (from-past c.loop-index.index c.args.target.now o.asked.before (omega (arith, high, c.loop-index-test.false))))
