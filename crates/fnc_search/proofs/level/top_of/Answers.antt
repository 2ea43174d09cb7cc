use Rattle.std.proofs.Common.{sym, ap, ◌∙◌, arith, ℕ, max}
use Rattle.fnc_journal.specs.History.{History}
use Rattle.fnc_journal.proofs.Prefixes.{prefix-more, prefix-none}
use Rattle.fnc_search.specs.Indices.{top, top_here}
use Rattle.fnc_search.proofs.Setups.{set-up, top-set_up}
use Rattle.fnc_search.proofs.level.top_of.Goals as goal

pub loop-i-init : goal.loop-i-init
loop-i-init c = ap (λ (k : History). top c.args.target.now k) (sym (prefix-none c.args.past.now))

pub loop-i-preserved : goal.loop-i-preserved
loop-i-preserved c =
    let h : History = c.args.past.now in
    let e = c.entry.result.now in
    c.max-most.ensures ∙ ap (λ (n : ℕ). max n c.loop-i.most) c.top_here_of.ensures
    ∙ ap (λ a. max (top_here c.args.target.now e.event) a) c.loop-i.invariant
    ∙ ap (λ (k : History). top c.args.target.now k)
    (sym (prefix-more h c.loop-i.i e (omega (arith, c.loop-i-test.true, c.setup-i-end.ensures.within)) c.entry.ensures))

pub returns : goal.returns
returns c =
    c.loop-i.invariant
    ∙ set-up (λ (k : History). top c.args.target.now k) (top-set_up c.args.target.now) c.args.past.now c.loop-i.i
    (omega (arith, c.loop-i-test.false, c.setup-i-end.ensures.end))
