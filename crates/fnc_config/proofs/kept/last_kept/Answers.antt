use Rattle.std.proofs.Common.{◌≡◌, ◌≤◌, ◌∙◌, ap, sym, length, arith}
use Rattle.fnc_journal.specs.Prefix.{prefix}
use Rattle.fnc_journal.proofs.Prefixes.{prefix-all, prefix-none}
use Rattle.fnc_config.specs.Planning.{kept_among}
use Rattle.fnc_config.proofs.kept.last_kept.Goals as goal
use Rattle.fnc_config.proofs.KeptAnswers.{none-left, said-earlier, said-here}

pub loop-index-init : goal.loop-index-init
loop-index-init c =
    let h = c.args.journal.now.history in
    let all : length h ≤ c.len-index.result = omega (arith, c.len-index.ensures) in
    ap (kept_among h c.args.reg.0 c.args.target.now c.args.keep c.args.moment) (prefix-all h _ all)

pub returns-then-is_past : goal.returns-then-is_past
returns-then-is_past c =
    let most : c.loop-index.index ≤ length c.args.journal.now.history =
    omega (arith, c.len-index.ensures, c.loop-index.auto.index) in
    none-left c.args.journal.now.history c.args.reg.0 c.args.target.now c.args.keep c.args.moment c.loop-index.index
    c.entry-entry.result.now c.loop-index-test.true most c.entry-entry.ensures
    (sym c.is_past.ensures ∙ c.if-is_past.true)
    ∙ c.loop-index.invariant

pub returns-then-is_some : goal.returns-then-is_some
returns-then-is_some c =
    let most : c.loop-index.index ≤ length c.args.journal.now.history =
    omega (arith, c.len-index.ensures, c.loop-index.auto.index) in
    said-here c.args.journal.now.history c.args.reg.0 c.args.target.now c.args.keep c.args.moment c.loop-index.index
    c.entry-entry.result.now c.loop-index-test.true most c.entry-entry.ensures
    (sym c.is_past.ensures ∙ c.if-is_past.false) c.listed_by-answer.result c.listed_by-answer.ensures
    (sym c.is_some.ensures ∙ c.if-is_some.true)
    ∙ c.loop-index.invariant

pub loop-index-preserved : goal.loop-index-preserved
loop-index-preserved c =
    let most : c.loop-index.index ≤ length c.args.journal.now.history =
    omega (arith, c.len-index.ensures, c.loop-index.auto.index) in
    said-earlier c.args.journal.now.history c.args.reg.0 c.args.target.now c.args.keep c.args.moment c.loop-index.index
    c.entry-entry.result.now c.loop-index-test.true most c.entry-entry.ensures
    (sym c.is_past.ensures ∙ c.if-is_past.false) c.listed_by-answer.result c.listed_by-answer.ensures
    (sym c.is_some.ensures ∙ c.if-is_some.false)
    ∙ c.loop-index.invariant

pub returns : goal.returns
returns c =
    let h = c.args.journal.now.history in
    let rest = kept_among h c.args.reg.0 c.args.target.now c.args.keep c.args.moment in
    let none : c.loop-index.index ≡ 0 = omega (arith, c.loop-index-test.false) in
    ap rest (sym (prefix-none h) ∙ ap (λ n. prefix n h) (sym none)) ∙ c.loop-index.invariant
