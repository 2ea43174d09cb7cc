use Rattle.std.proofs.Common.{sym, ap, ◌∙◌, arith}
use Rattle.fnc_journal.specs.History.{History}
use Rattle.fnc_journal.specs.Prefix.{prefix}
use Rattle.fnc_journal.proofs.Prefixes.{prefix-all, prefix-more, prefix-none}
use Rattle.std.specs.Prelude.{Option}
use Rattle.std.specs.Option.{option_or}
use Rattle.fnc_journal.specs.Kept.{Listing, last_listing, listing_here}
use Rattle.fnc_search.proofs.kept.last_listing.Goals as goal

pub loop-i-init : goal.loop-i-init
loop-i-init c = ap (λ (k : History). last_listing c.args.reg c.args.target.now k) (sym (prefix-none c.args.past.now))

pub loop-i-preserved : goal.loop-i-preserved
loop-i-preserved c =
    let h : History = c.args.past.now in
    let e = c.entry.result.now in
    c.listing_after-found.ensures
    ∙ ap (λ (b : History). option_or
    (listing_here c.args.reg c.args.target.now e.moment b e.event) c.loop-i.found) c.before-in-loop-i.ensures
    ∙ ap (λ (a : Option Listing). option_or
    (listing_here c.args.reg c.args.target.now e.moment (prefix c.loop-i.i h) e.event) a) c.loop-i.invariant
    ∙ ap (λ (k : History). last_listing c.args.reg c.args.target.now k)
    (sym (prefix-more h c.loop-i.i e (omega (arith, c.loop-i-test.true, c.len-i-end.ensures)) c.entry.ensures))

pub returns : goal.returns
returns c =
    c.loop-i.invariant ∙ ap (λ (k : History). last_listing c.args.reg c.args.target.now k)
    (prefix-all c.args.past.now c.loop-i.i (omega (arith, c.loop-i-test.false, c.len-i-end.ensures)))
