use Rattle.std.proofs.Common.{sym, ap, ◌∙◌, arith, subst}
use Rattle.fnc_journal.specs.History.{History}
use Rattle.fnc_journal.specs.Prefix.{prefix}
use Rattle.fnc_journal.proofs.Prefixes.{prefix-all, prefix-more, prefix-none}
use Rattle.fnc_judge.specs.Numbers.{IsBelow, numbered, numbers_of}
use Rattle.fnc_search.proofs.Prefixed.{prefix-most}
use Rattle.fnc_judge.proofs.Counts.{numbers-more, numbers-most}
use Rattle.fnc_judge.proofs.numbers.counted.Goals as goal

pub loop-i-init : goal.loop-i-init
loop-i-init c = ap (λ (k : History). numbers_of k) (sym (prefix-none c.args.past.now))

pub with-found-requires : goal.with-found-requires
with-found-requires c =
    let h : History = c.args.past.now in
    let short = prefix-most h c.loop-i.i in
    subst (IsBelow 4294967295) (sym c.loop-i.invariant)
    (numbers-most (prefix c.loop-i.i h) 4294967295 (omega (arith, short, c.loop-i-test.true, c.len-i-end.type_inv)))

pub loop-i-preserved : goal.loop-i-preserved
loop-i-preserved c =
    let h : History = c.args.past.now in
    let e = c.entry.result.now in
    c.with-found.ensures ∙ ap (λ a. numbered a e.event) c.loop-i.invariant
    ∙ numbers-more e.moment e.event (prefix c.loop-i.i h)
    ∙ ap (λ (k : History). numbers_of k)
    (sym (prefix-more h c.loop-i.i e (omega (arith, c.loop-i-test.true, c.len-i-end.ensures)) c.entry.ensures))

pub returns : goal.returns
returns c =
    c.loop-i.invariant ∙ ap (λ (k : History). numbers_of k)
    (prefix-all c.args.past.now c.loop-i.i (omega (arith, c.loop-i-test.false, c.len-i-end.ensures)))
