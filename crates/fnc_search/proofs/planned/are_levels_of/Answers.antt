use Rattle.std.proofs.Common.{◌+◌, sym, ap, ◌∙◌, arith, map}
use Rattle.fnc_journal.specs.Levels.{levels}
use Rattle.fnc_journal.specs.Plan.{plan_level}
use Rattle.fnc_search.specs.Indices.{from}
use Rattle.fnc_search.specs.Written.{level_before}
use Rattle.fnc_journal.proofs.RisingLevels.{levels-rising}
use Rattle.fnc_search.proofs.Rising.{of_index, from-none, from-past, from-more}
use Rattle.fnc_search.proofs.Writing.{written-before, levels-over}
use Rattle.fnc_search.proofs.planned.are_levels_of.Goals as goal

pub loop-index-init : goal.loop-index-init
loop-index-init c =
    λ e. e ∙ ap (map (plan_level c.args.before.now)) (from-none (levels c.args.target.now c.args.before.now))

pub loop-index-preserved : goal.loop-index-preserved
loop-index-preserved c = λ e.
    let h = c.args.before.now in
    let ls = levels c.args.target.now h in
    let i = c.loop-index.index in
    c.loop-index.invariant
    (c.in-Some.ensures
    ∙ ap (level_before h c.level_of.result) e
    ∙ ap (λ l. level_before h l (map (plan_level h) (from (i + 1) ls))) c.level_of.ensures
    ∙ written-before h (of_index i ls) (from (i + 1) ls)
    ∙ ap (map (plan_level h)) (sym (from-more i ls (levels-rising c.args.target.now h))))

pub returns : goal.returns
returns c =
    let h = c.args.before.now in
    levels-over h c.loop-index.rest.now
    (from c.loop-index.index (levels c.args.target.now h)) c.is_empty.result c.is_empty.ensures
    (from-past c.loop-index.index c.args.target.now h
    (omega (arith, c.top_of-index-end.ensures, c.loop-index-test.false)))
    c.loop-index.invariant
