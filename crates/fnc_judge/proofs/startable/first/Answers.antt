use Rattle.std.proofs.Common.{sym, ap, ◌∙◌, arith}
use Rattle.fnc_journal.specs.History.{History}
use Rattle.fnc_journal.specs.Prefix.{prefix}
use Rattle.fnc_journal.proofs.Prefixes.{prefix-all, prefix-more, prefix-none}
use Rattle.std.specs.Prelude.{Option, map}
use Rattle.fnc_journal.specs.Startable.{Startable, first_among, soonest}
use Rattle.fnc_search.specs.Pursued.{Pursued, operation}
use Rattle.fnc_judge.specs.Opened.{opened, opens, startable_any}
use Rattle.fnc_judge.proofs.Opening.{first-more, opens-all}
use Rattle.fnc_judge.proofs.startable.first.Goals as goal

pub loop-i-init : goal.loop-i-init
loop-i-init c =
    ap (λ (k : History). first_among c.args.past.now c.args.moment (map operation (opens c.args.past.now k)))
    (sym (prefix-none c.args.past.now))

pub loop-i-preserved : goal.loop-i-preserved
loop-i-preserved c =
    let h : History = c.args.past.now in
    let e = c.entry.result.now in
    c.soonest_with-found.ensures
    ∙ ap (λ (p : Option Pursued). soonest c.loop-i.found (startable_any h c.args.moment p)) c.opened_by-here.ensures
    ∙ ap (λ (a : Option Startable). soonest a (startable_any h c.args.moment (opened h e.event))) c.loop-i.invariant
    ∙ first-more h c.args.moment (opens h (prefix c.loop-i.i h)) (opened h e.event)
    ∙ ap (λ (k : History). first_among c.args.past.now c.args.moment (map operation (opens c.args.past.now k)))
    (sym (prefix-more h c.loop-i.i e (omega (arith, c.loop-i-test.true, c.len-i-end.ensures)) c.entry.ensures))

pub returns : goal.returns
returns c =
    c.loop-i.invariant ∙ ap
    (λ (k : History). first_among c.args.past.now c.args.moment (map operation (opens c.args.past.now k)))
    (prefix-all c.args.past.now c.loop-i.i (omega (arith, c.loop-i-test.false, c.len-i-end.ensures)))
    ∙ ap (first_among c.args.past.now c.args.moment) (opens-all c.args.past.now)
