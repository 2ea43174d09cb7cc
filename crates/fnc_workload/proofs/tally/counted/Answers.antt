use Rattle.std.proofs.Common.{sym, ap, ◌∙◌, subst, arith}
use Rattle.fnc_journal.specs.Prefix.{prefix}
use Rattle.fnc_journal.proofs.Prefixes.{prefix-all, prefix-more, prefix-none}
use Rattle.fnc_workload.specs.Summed.{IsBelow, tallied, tally_of}
use Rattle.fnc_workload.proofs.Counts.{prefix-most, tally-more, tally-most}
use Rattle.fnc_workload.proofs.tally.counted.Goals as goal

pub loop-index-init : goal.loop-index-init
loop-index-init c = ap tally_of (sym (prefix-none c.args.journal.now.history))

pub with-tally-requires : goal.with-tally-requires
with-tally-requires c =
    let h = c.args.journal.now.history in
    let short = prefix-most h c.loop-index.index in
    subst (IsBelow 4294967295) (sym c.loop-index.invariant)
    (tally-most (prefix c.loop-index.index h) 4294967295 (omega (arith, short, c.loop-index-test.true, c.len-index-end.type_inv)))

pub loop-index-preserved : goal.loop-index-preserved
loop-index-preserved c =
    let h = c.args.journal.now.history in
    let e = c.entry.result.now in
    c.with-tally.ensures ∙ ap (λ t. tallied t e.event) c.loop-index.invariant
    ∙ tally-more e.moment e.event (prefix c.loop-index.index h)
    ∙ ap tally_of (sym (prefix-more h c.loop-index.index e (omega (arith, c.loop-index-test.true, c.len-index-end.ensures)) c.entry.ensures))

pub returns : goal.returns
returns c =
    c.loop-index.invariant ∙ ap tally_of (prefix-all c.args.journal.now.history c.loop-index.index (omega (arith, c.loop-index-test.false, c.len-index-end.ensures)))
