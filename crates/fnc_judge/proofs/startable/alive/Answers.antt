use Rattle.std.proofs.Common.{◌+◌, sym, ap, ◌∙◌, arith, cond}
use Rattle.fnc_journal.specs.History.{History}
use Rattle.fnc_journal.specs.Prefix.{prefix}
use Rattle.fnc_journal.proofs.Prefixes.{prefix-all, prefix-more, prefix-none}
use Rattle.fnc_journal.specs.Startable.{begun_runs}
use Rattle.fnc_judge.specs.Opened.{alive_in, counts_here}
use Rattle.fnc_search.proofs.Prefixed.{prefix-most}
use Rattle.fnc_judge.proofs.Opening.{alive-more, alive-most}
use Rattle.fnc_judge.proofs.startable.alive.Goals as goal

pub loop-i-init : goal.loop-i-init
loop-i-init c =
    ap (λ (k : History). alive_in c.args.past.now c.args.number (begun_runs k)) (sym (prefix-none c.args.past.now))

pub alive_after-count-requires : goal.alive_after-count-requires
alive_after-count-requires c =
    let h : History = c.args.past.now in
    let short = prefix-most h c.loop-i.i in
    let most = alive-most h c.args.number (prefix c.loop-i.i h) in
    omega (arith, c.loop-i.invariant, short, most, c.loop-i-test.true, c.len-i-end.type_inv)

pub loop-i-preserved : goal.loop-i-preserved
loop-i-preserved c =
    let h : History = c.args.past.now in
    let e = c.entry.result.now in
    c.alive_after-count.ensures ∙ ap (λ a. cond (counts_here h c.args.number e.event) (a + 1) a) c.loop-i.invariant
    ∙ alive-more h c.args.number e.moment e.event (prefix c.loop-i.i h)
    ∙ ap (λ (k : History). alive_in c.args.past.now c.args.number (begun_runs k))
    (sym (prefix-more h c.loop-i.i e (omega (arith, c.loop-i-test.true, c.len-i-end.ensures)) c.entry.ensures))

pub returns : goal.returns
returns c =
    c.loop-i.invariant ∙ ap (λ (k : History). alive_in c.args.past.now c.args.number (begun_runs k))
    (prefix-all c.args.past.now c.loop-i.i (omega (arith, c.loop-i-test.false, c.len-i-end.ensures)))
