use Rattle.std.proofs.Common.{◌+◌, sym, ap, ◌∙◌, arith, cond}
use Rattle.fnc_journal.specs.History.{History}
use Rattle.fnc_journal.specs.Prefix.{prefix}
use Rattle.fnc_journal.proofs.Prefixes.{prefix-all, prefix-more, prefix-none}
use Rattle.fnc_journal.specs.Acts.{acts, runs}
use Rattle.fnc_judge.specs.Testing.{runs_here}
use Rattle.fnc_search.proofs.Prefixed.{prefix-most}
use Rattle.fnc_judge.proofs.Testings.{runs-more, runs-most}
use Rattle.fnc_judge.proofs.rules.runs.Goals as goal

pub loop-i-init : goal.loop-i-init
loop-i-init c = ap (λ (k : History). runs c.args.slot (acts c.args.req k)) (sym (prefix-none c.args.past.now))

pub runs_after-count-requires : goal.runs_after-count-requires
runs_after-count-requires c =
    let h : History = c.args.past.now in
    let short = prefix-most h c.loop-i.i in
    let most = runs-most c.args.req c.args.slot (prefix c.loop-i.i h) in
    omega (arith, c.loop-i.invariant, short, most, c.loop-i-test.true, c.len-i-end.type_inv)

pub loop-i-preserved : goal.loop-i-preserved
loop-i-preserved c =
    let h : History = c.args.past.now in
    let e = c.entry.result.now in
    c.runs_after-count.ensures ∙ ap (λ a. cond (runs_here c.args.req c.args.slot e.event) (a + 1) a) c.loop-i.invariant
    ∙ runs-more c.args.req c.args.slot e.moment e.event (prefix c.loop-i.i h)
    ∙ ap (λ (k : History). runs c.args.slot (acts c.args.req k))
    (sym (prefix-more h c.loop-i.i e (omega (arith, c.loop-i-test.true, c.len-i-end.ensures)) c.entry.ensures))

pub returns : goal.returns
returns c =
    c.loop-i.invariant ∙ ap (λ (k : History). runs c.args.slot (acts c.args.req k))
    (prefix-all c.args.past.now c.loop-i.i (omega (arith, c.loop-i-test.false, c.len-i-end.ensures)))
