use Rattle.std.proofs.Common.{ℕ, sym, ap, ◌∙◌, ◌+◌, arith, cond}
use Rattle.fnc_journal.specs.History.{History}
use Rattle.fnc_journal.specs.Prefix.{prefix}
use Rattle.fnc_journal.proofs.Prefixes.{prefix-all, prefix-more, prefix-none}
use Rattle.fnc_search.specs.Setup.{is_setup, setup_end}
use Rattle.fnc_search.proofs.Prefixed.{prefix-length}
use Rattle.fnc_judge.proofs.setup.setup_to.Goals as goal

pub loop-i-init : goal.loop-i-init
loop-i-init c = ap (λ (k : History). setup_end k) (sym (prefix-none c.args.past.now))

pub loop-i-preserved : goal.loop-i-preserved
loop-i-preserved c =
    let h : History = c.args.past.now in
    let e = c.entry.result.now in
    c.setup_after-setup.ensures
    ∙ ap (λ (n : ℕ). cond (is_setup e.event) (c.loop-i.i + 1) n) c.loop-i.invariant
    ∙ ap (λ (n : ℕ). cond (is_setup e.event) (n + 1) (setup_end (prefix c.loop-i.i h)))
    (sym (prefix-length h c.loop-i.i (omega (arith, c.loop-i-test.true, c.len-i-end.ensures))))
    ∙ ap (λ (k : History). setup_end k)
    (sym (prefix-more h c.loop-i.i e (omega (arith, c.loop-i-test.true, c.len-i-end.ensures)) c.entry.ensures))

pub returns : goal.returns
returns c =
    c.loop-i.invariant ∙ ap (λ (k : History). setup_end k)
    (prefix-all c.args.past.now c.loop-i.i (omega (arith, c.loop-i-test.false, c.len-i-end.ensures)))
