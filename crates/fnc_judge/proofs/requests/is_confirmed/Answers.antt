use Rattle.std.proofs.Common.{sym, ap, ◌∙◌, arith, ◌||◌, ℕ}
use Rattle.fnc_journal.specs.Found.{asked}
use Rattle.fnc_judge.proofs.Testings.{unasked-unconfirmed}
use Rattle.fnc_journal.specs.History.{History}
use Rattle.fnc_journal.specs.Prefix.{prefix}
use Rattle.fnc_journal.proofs.Prefixes.{prefix-all, prefix-more}
use Rattle.fnc_journal.specs.Due.{is_confirmed, confirms}
use Rattle.fnc_search.specs.Pursued.{operation}
use Rattle.fnc_judge.proofs.requests.is_confirmed.Goals as goal

pub loop-i-init : goal.loop-i-init
loop-i-init c =
    sym (unasked-unconfirmed (operation c.args.operation.now) (prefix c.begun_from-i.result c.args.past.now)
    (ap (λ (n : ℕ). asked n (prefix c.begun_from-i.result c.args.past.now)) (sym c.req.ensures)
    ∙ c.begun_from-i.ensures.asked))

pub loop-i-preserved : goal.loop-i-preserved
loop-i-preserved c =
    let h : History = c.args.past.now in
    let e = c.entry.result.now in
    c.confirmed_after-found.ensures
    ∙ ap (λ (b : History). confirms
    (operation c.args.operation.now) b e.event || c.loop-i.found) c.before-in-loop-i.ensures
    ∙ ap (λ a. confirms (operation c.args.operation.now) (prefix c.loop-i.i h) e.event || a) c.loop-i.invariant
    ∙ ap (λ (k : History). is_confirmed (operation c.args.operation.now) k)
    (sym (prefix-more h c.loop-i.i e (omega (arith, c.loop-i-test.true, c.len-i-end.ensures)) c.entry.ensures))

pub returns : goal.returns
returns c =
    c.loop-i.invariant ∙ ap (λ (k : History). is_confirmed (operation c.args.operation.now) k)
    (prefix-all c.args.past.now c.loop-i.i (omega (arith, c.loop-i-test.false, c.len-i-end.ensures)))
