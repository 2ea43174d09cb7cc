use Rattle.std.proofs.Common.{sym, ap, ◌∙◌, arith}
use Rattle.fnc_journal.specs.History.{History}
use Rattle.fnc_journal.specs.Prefix.{prefix}
use Rattle.fnc_journal.proofs.Prefixes.{prefix-more, prefix-none}
use Rattle.fnc_journal.specs.Levels.{levels}
use Rattle.fnc_search.specs.Indices.{level_step}
use Rattle.fnc_search.proofs.Setups.{set-up, levels-set_up}
use Rattle.fnc_search.proofs.Prefixed.{prefix-length}
use Rattle.fnc_search.proofs.Rising.{of_index, level-more}
use Rattle.fnc_search.proofs.level.level_of.Goals as goal

pub loop-i-init : goal.loop-i-init
loop-i-init c =
    ap (λ (k : History). of_index c.args.index (levels c.args.target.now k)) (sym (prefix-none c.args.past.now))

pub loop-i-preserved : goal.loop-i-preserved
loop-i-preserved c =
    let h : History = c.args.past.now in
    let e = c.entry.result.now in
    c.level_after-found.ensures
    ∙ ap (λ a. level_step c.args.target.now c.args.index c.loop-i.i e.event a) c.loop-i.invariant
    ∙ ap (λ n. level_step c.args.target.now c.args.index n e.event
    (of_index c.args.index (levels c.args.target.now (prefix c.loop-i.i h))))
    (sym (prefix-length h c.loop-i.i (omega (arith, c.loop-i-test.true, c.setup-i-end.ensures.within))))
    ∙ level-more c.args.target.now c.args.index e.moment e.event (prefix c.loop-i.i h)
    ∙ ap (λ (k : History). of_index c.args.index (levels c.args.target.now k))
    (sym (prefix-more h c.loop-i.i e (omega (arith, c.loop-i-test.true, c.setup-i-end.ensures.within)) c.entry.ensures))

pub returns : goal.returns
returns c =
    c.loop-i.invariant
    ∙ ap (of_index c.args.index)
    (set-up (λ (k : History). levels c.args.target.now k) (levels-set_up c.args.target.now) c.args.past.now c.loop-i.i
    (omega (arith, c.loop-i-test.false, c.setup-i-end.ensures.end)))
