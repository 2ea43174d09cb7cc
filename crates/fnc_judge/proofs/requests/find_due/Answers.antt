use Rattle.std.proofs.Common.{Bool, sym, ap, ◌≡◌, ◌∙◌, arith, None, Some}
use Rattle.fnc_journal.specs.History.{History}
use Rattle.fnc_journal.specs.Prefix.{prefix}
use Rattle.fnc_journal.proofs.Prefixes.{prefix-all, prefix-none}
use Rattle.std.specs.Prelude.{find}
use Rattle.fnc_journal.specs.Operations.{is_due}
use Rattle.fnc_search.specs.Pursued.{Pursued, operation}
use Rattle.fnc_judge.specs.Opened.{found_after, opened, opens}
use Rattle.fnc_search.proofs.Searches.{goes-on, stops}
use Rattle.fnc_judge.proofs.Waiting.{open-first, open-kept}
use Rattle.fnc_judge.proofs.requests.find_due.Goals as goal

pub loop-i-init : goal.loop-i-init
loop-i-init c =
    ap (λ (k : History). find (λ p. is_due c.args.past.now c.args.moment (operation p)) (opens c.args.past.now k))
    (prefix-none c.args.past.now)

pub returns-in-Some : goal.returns-in-Some
returns-in-Some c =
    let h : History = c.args.past.now in
    let due : Pursued → Bool = λ (p : Pursued). is_due h c.args.moment (operation p) in
    let e = c.entry.result.now in
    let f : Pursued = c.in-Some.operation in
    let here : found_after due None (opened h e.event) ≡ Some f =
    ap (found_after due None) (sym c.opened_by-here.ensures) ∙ sym c.due_among.ensures ∙ c.in-Some.is in
    sym (stops (λ (k : History). find due (opens h k)) (Some f) (open-kept due h f) h c.loop-i.i e
    (omega (arith, c.loop-i-test.true, c.len-i-end.ensures)) c.entry.ensures
    (open-first due h e (prefix c.loop-i.i h) (Some f) c.loop-i.invariant here))

pub loop-i-preserved : goal.loop-i-preserved
loop-i-preserved c =
    let h : History = c.args.past.now in
    let due : Pursued → Bool = λ (p : Pursued). is_due h c.args.moment (operation p) in
    let e = c.entry.result.now in
    let here : found_after due None (opened h e.event) ≡ None =
    ap (found_after due None) (sym c.opened_by-here.ensures) ∙ sym c.due_among.ensures ∙ c.in_default.is in
    goes-on (λ (k : History). find due (opens h k)) None h c.loop-i.i e
    (omega (arith, c.loop-i-test.true, c.len-i-end.ensures)) c.entry.ensures
    (open-first due h e (prefix c.loop-i.i h) None c.loop-i.invariant here)

pub returns : goal.returns
returns c =
    sym c.loop-i.invariant ∙ ap
    (λ (k : History). find (λ p. is_due c.args.past.now c.args.moment (operation p)) (opens c.args.past.now k))
    (prefix-all c.args.past.now c.loop-i.i (omega (arith, c.loop-i-test.false, c.len-i-end.ensures)))
