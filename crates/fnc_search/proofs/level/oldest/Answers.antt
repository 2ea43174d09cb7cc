use Rattle.std.proofs.Common.{ℕ, ◌≡◌, ◌+◌, sym, ap, ◌∙◌, arith, [], Option}
use Rattle.fnc_journal.specs.Missing.{least_of}
use Rattle.fnc_journal.specs.Levels.{Level, levels, oldest}
use Rattle.fnc_search.specs.Indices.{from, oldest_with}
use Rattle.fnc_journal.proofs.RisingLevels.{levels-rising}
use Rattle.fnc_search.proofs.Rising.{from-none, from-past, from-more}
use Rattle.fnc_search.proofs.OldestLevels.{oldest-more, oldest-last}
use Rattle.fnc_search.proofs.level.oldest.Goals as goal

pub loop-index-init : goal.loop-index-init
loop-index-init c = ap oldest (sym (from-none (levels c.args.target.now c.args.past.now)))

pub loop-index-preserved : goal.loop-index-preserved
loop-index-preserved c =
    let ls = levels c.args.target.now c.args.past.now in
    let rest = from (c.loop-index.index + 1) ls in
    c.loop-index.invariant
    ∙ ap (λ xs. least_of c.loop-index.least (oldest xs))
    (from-more c.loop-index.index ls (levels-rising c.args.target.now c.args.past.now))
    ∙ sym (oldest-more c.loop-index.least _ rest)
    ∙ ap (λ (x : Option Level). least_of (oldest_with c.loop-index.least x) (oldest rest)) (sym c.level_of.ensures)
    ∙ ap (λ (x : Option ℕ). least_of x (oldest rest)) (sym c.with_oldest-least.ensures)

pub returns : goal.returns
returns c =
    let ls = levels c.args.target.now c.args.past.now in
    let end : from c.loop-index.index ls ≡ [] =
    from-past c.loop-index.index c.args.target.now c.args.past.now
    (omega (arith, c.loop-index-test.false, c.top_of-index-end.ensures)) in
    sym (c.loop-index.invariant ∙ ap (λ xs. least_of c.loop-index.least (oldest xs)) end
    ∙ oldest-last c.loop-index.least)
