use Rattle.std.proofs.Common.{ℕ, cond, ◌+◌, ◌≡◌, sym, ap, ◌∙◌, arith, subst, Some, None}
use Rattle.fnc_journal.specs.History.{History}
use Rattle.fnc_journal.specs.Prefix.{prefix}
use Rattle.fnc_journal.specs.Lawful.{Lawful, fault, broken}
use Rattle.fnc_journal.proofs.Faults.{lawful-no_fault, no_fault-lawful}
use Rattle.fnc_journal.proofs.Prefixes.{prefix-all, prefix-more}
use Rattle.fnc_search.specs.Setup.{is_setup, setup_end}
use Rattle.fnc_search.proofs.Setups.{setup-most}
use Rattle.fnc_search.proofs.Prefixed.{prefix-length, prefix-most}
use Rattle.fnc_judge.specs.declared.verdict.Verdict.{Verdict}
use Rattle.fnc_judge.proofs.Firsts.{fault-next, fault-prefix, lawful-none}
use Rattle.fnc_judge.proofs.verdict.judge_from.Goals as goal

pub loop-index-init : goal.loop-index-init
loop-index-init c =
    let h : History = c.args.journal.now.history in
    record {
      none = no_fault-lawful (prefix c.args.from h) c.requires.begun;
      setup = sym (c.setup_to-setup.ensures ∙ ap (λ (k : History). setup_end k) c.of.ensures);
    }

pub set_up-requires-clause-fewer : goal.set_up-requires-clause-fewer
set_up-requires-clause-fewer c =
    let h : History = c.args.journal.now.history in
    let most = setup-most (prefix c.loop-index.index h) in
    let short = prefix-most h c.loop-index.index in
    omega (arith, most, short, c.loop-index.invariant.setup)

pub set_up-requires-clause-end : goal.set_up-requires-clause-end
set_up-requires-clause-end c = omega (arith, c.loop-index.invariant.setup)

pub broken-requires : goal.broken-requires
broken-requires c =
    let h : History = c.args.journal.now.history in
    subst (λ (k : History). Lawful k) (sym c.set_up.ensures)
    (lawful-no_fault (prefix c.loop-index.index h) c.loop-index.invariant.none)

pub returns-in-Some-clause-fault : goal.returns-in-Some-clause-fault
returns-in-Some-clause-fault c =
    let h : History = c.args.journal.now.history in
    let i = c.loop-index.index in
    let rule : broken c.entry-entry.result.now (prefix i h) ≡ Some c.in-Some.rule =
    ap (broken c.entry-entry.result.now) (sym c.set_up.ensures) ∙ sym c.broken.ensures ∙ c.in-Some.is in
    sym (fault-prefix h (i + 1) _
    (fault-next h i c.entry-entry.result.now (Some c.in-Some.rule)
    (omega (arith, c.loop-index-test.true, c.len-index-end.ensures)) c.entry-entry.ensures c.loop-index.invariant.none rule))

pub returns-in-Some-clause-lawful : goal.returns-in-Some-clause-lawful
returns-in-Some-clause-lawful c =
    let h : History = c.args.journal.now.history in
    let i = c.loop-index.index in
    let rule : broken c.entry-entry.result.now (prefix i h) ≡ Some c.in-Some.rule =
    ap (broken c.entry-entry.result.now) (sym c.set_up.ensures) ∙ sym c.broken.ensures ∙ c.in-Some.is in
    lawful-none (Verdict.Unlawful i c.in-Some.rule) h
    (sym (fault-prefix h (i + 1) _
    (fault-next h i c.entry-entry.result.now (Some c.in-Some.rule)
    (omega (arith, c.loop-index-test.true, c.len-index-end.ensures)) c.entry-entry.ensures c.loop-index.invariant.none rule)))

pub loop-index-preserved : goal.loop-index-preserved
loop-index-preserved c =
    let h : History = c.args.journal.now.history in
    let i = c.loop-index.index in
    let e = c.entry-entry.result.now in
    let less = c.loop-index-test.true in
    let none : broken e (prefix i h) ≡ None =
    ap (broken e) (sym c.set_up.ensures) ∙ sym c.broken.ensures ∙ c.in_default.is in
    record {
      none = fault-next h i e None (omega (arith, less, c.len-index-end.ensures)) c.entry-entry.ensures c.loop-index.invariant.none none;
      setup =
          ap (λ (k : History). setup_end k) (prefix-more h i e (omega (arith, less, c.len-index-end.ensures)) c.entry-entry.ensures)
          ∙ ap (λ (n : ℕ). cond (is_setup e.event) (n + 1) (setup_end (prefix i h)))
          (prefix-length h i (omega (arith, less, c.len-index-end.ensures)))
          ∙ ap (λ (n : ℕ). cond (is_setup e.event) (i + 1) n) c.loop-index.invariant.setup
          ∙ sym c.setup_after-setup.ensures;
    }

pub returns-clause-fault : goal.returns-clause-fault
returns-clause-fault c =
    let h : History = c.args.journal.now.history in
    sym (sym (ap fault (prefix-all h c.loop-index.index
    (omega (arith, c.loop-index-test.false, c.len-index-end.ensures)))) ∙ c.loop-index.invariant.none)

pub returns-clause-lawful : goal.returns-clause-lawful
returns-clause-lawful c =
    let h : History = c.args.journal.now.history in
    lawful-none Verdict.Lawful h
    (sym (sym (ap fault (prefix-all h c.loop-index.index
    (omega (arith, c.loop-index-test.false, c.len-index-end.ensures)))) ∙ c.loop-index.invariant.none))
