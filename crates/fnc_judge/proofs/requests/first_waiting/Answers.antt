use Rattle.std.proofs.Common.{sym, ap, ◌≡◌, ◌∙◌, arith, None, Some, not}
use Rattle.std.specs.Prelude.{filter}
use Rattle.fnc_journal.specs.Missing.{first_of}
use Rattle.fnc_journal.specs.Found.{is_answered}
use Rattle.fnc_journal.specs.History.{History}
use Rattle.fnc_journal.specs.Prefix.{prefix}
use Rattle.fnc_journal.proofs.Prefixes.{prefix-all}
use Rattle.fnc_judge.specs.Opened.{waiting, waiting_here}
use Rattle.fnc_search.proofs.Searches.{goes-on, stops}
use Rattle.fnc_judge.proofs.Waiting.{waiting-first, waiting-kept}
use Rattle.fnc_judge.proofs.requests.first_waiting.Goals as goal

pub loop-i-init : goal.loop-i-init
loop-i-init c =
    ap (λ rs. first_of (filter (λ r. not (is_answered r c.args.past.now)) rs)) c.begun_from-i.ensures.requests

pub returns-in-Some : goal.returns-in-Some
returns-in-Some c =
    let h : History = c.args.past.now in
    let o = c.args.req in
    let e = c.entry.result.now in
    let here : waiting_here h o e.event ≡ Some c.in-Some.number = sym c.waiting_by.ensures ∙ c.in-Some.is in
    sym (stops (waiting h o) (Some c.in-Some.number) (waiting-kept h o c.in-Some.number) h c.loop-i.i e
    (omega (arith, c.loop-i-test.true, c.len-i-end.ensures)) c.entry.ensures
    (waiting-first h o e (prefix c.loop-i.i h) (Some c.in-Some.number) c.loop-i.invariant here))

pub loop-i-preserved : goal.loop-i-preserved
loop-i-preserved c =
    let h : History = c.args.past.now in
    let o = c.args.req in
    let e = c.entry.result.now in
    let here : waiting_here h o e.event ≡ None = sym c.waiting_by.ensures ∙ c.in_default.is in
    goes-on (waiting h o) None h c.loop-i.i e (omega (arith, c.loop-i-test.true, c.len-i-end.ensures)) c.entry.ensures
    (waiting-first h o e (prefix c.loop-i.i h) None c.loop-i.invariant here)

pub returns : goal.returns
returns c =
    sym c.loop-i.invariant ∙ ap (waiting c.args.past.now c.args.req)
    (prefix-all c.args.past.now c.loop-i.i (omega (arith, c.loop-i-test.false, c.len-i-end.ensures)))
