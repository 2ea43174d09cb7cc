use Rattle.std.proofs.Common.{sym, ap, ◌∙◌, arith}
use Rattle.fnc_journal.specs.History.{History}
use Rattle.fnc_journal.proofs.Prefixes.{prefix-more, prefix-none}
use Rattle.fnc_journal.specs.Registered.{current, current_after}
use Rattle.fnc_search.proofs.Setups.{set-up, current-set_up}
use Rattle.fnc_search.proofs.registered.current.Goals as goal

pub loop-i-init : goal.loop-i-init
loop-i-init c = ap (λ (k : History). current c.args.name.now k) (sym (prefix-none c.args.past.now))

pub loop-i-preserved : goal.loop-i-preserved
loop-i-preserved c =
    let h : History = c.args.past.now in
    let e = c.entry.result.now in
    c.current_after-found.ensures ∙ ap (λ a. current_after c.args.name.now e.event a) c.loop-i.invariant
    ∙ ap (λ (k : History). current c.args.name.now k)
    (sym (prefix-more h c.loop-i.i e (omega (arith, c.loop-i-test.true, c.setup-i-end.ensures.within)) c.entry.ensures))

pub returns : goal.returns
returns c =
    c.loop-i.invariant
    ∙ set-up (λ (k : History). current c.args.name.now k) (current-set_up c.args.name.now) c.args.past.now c.loop-i.i
    (omega (arith, c.loop-i-test.false, c.setup-i-end.ensures.end))
