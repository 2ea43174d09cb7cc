use Rattle.std.proofs.Common.{◌≡◌, ◌<◌, Some, length, sym, ap, ◌∙◌, subst}
use Rattle.std.specs.Prelude.{IsTrue, option_copied, unwrap_or}
use Rattle.fnc_journal.specs.declared.definition.Description.{Description}
use Rattle.fnc_journal.specs.declared.event.Event.{Event}
use Rattle.fnc_journal.specs.EntryBounds.{is_described}
use Rattle.fnc_journal.specs.History.{History}
use Rattle.fnc_journal.specs.Found.{entry_at}
use Rattle.fnc_agent_api.specs.Descriptions.{plain}
use Rattle.fnc_core.specs.Cored.{Cored}
use Rattle.fnc_desk.specs.Agents.{description_of}
use Rattle.fnc_desk.proofs.Described.{IsLast, agent-within, described-at, not-last, undescribed}
use Rattle.fnc_desk.proofs.Within.{described-within}
use Rattle.fnc_desk.proofs.fencer.Fencer.described.Goals as goal

pub returns-in_err-at-clause-value : goal.returns-in_err-at-clause-value
returns-in_err-at-clause-value c =
    let h = c.self.inside.core.history in
    subst (λ (v : Cored). unwrap_or (option_copied c.from_residual.result) plain ≡ description_of c.args.agent.now v.history)
    c.self.view_is
    (rw c.from_residual.ensures
    (sym (undescribed c.args.agent.now h (sym (c.in_err-at.ensures.last h c.self.invariant.0)))))

pub entry-requires : goal.entry-requires
entry-requires c =
    let h = c.self.inside.core.history in
    subst (λ (k : History). c.in_ok-at.at < length k) (sym c.journal.ensures.history)
    (agent-within c.args.agent.now h c.in_ok-at.at (sym (c.in_ok-at.ensures.last h c.self.invariant.0)))

pub returns-in-Agent-clause-value : goal.returns-in-Agent-clause-value
returns-in-Agent-clause-value c =
    let h = c.self.inside.core.history in
    let found =
    subst (λ (k : History). entry_at c.in_ok-at.at k ≡ Some c.entry.result.now) c.journal.ensures.history
    c.entry.ensures in
    let last = subst (λ (event : Event). IsLast c.args.agent.now h event) c.in-Agent.is
    (described-at c.args.agent.now h c.in_ok-at.at c.entry.result.now
    (sym (c.in_ok-at.ensures.last h c.self.invariant.0)) found) in
    c.get.ensures ∙ sym last ∙ ap (λ (v : Cored). description_of c.args.agent.now v.history) c.self.view_is

pub returns-in-Agent-clause-bounded : goal.returns-in-Agent-clause-bounded
returns-in-Agent-clause-bounded c =
    let h = c.self.inside.core.history in
    let found =
    subst (λ (k : History). entry_at c.in_ok-at.at k ≡ Some c.entry.result.now) c.journal.ensures.history
    c.entry.ensures in
    subst (λ (d : Description). IsTrue (is_described d)) (sym c.get.ensures)
    (described-within h c.in_ok-at.at c.entry.result.now c.in-Agent.described c.self.invariant.1 found c.in-Agent.is)

pub returns-in_default-clause-value : goal.returns-in_default-clause-value
returns-in_default-clause-value c =
    let h = c.self.inside.core.history in
    let found =
    subst (λ (k : History). entry_at c.in_ok-at.at k ≡ Some c.entry.result.now) c.journal.ensures.history
    c.entry.ensures in
    let last =
    described-at c.args.agent.now h c.in_ok-at.at c.entry.result.now
    (sym (c.in_ok-at.ensures.last h c.self.invariant.0)) found in
    absurd (not-last c.args.agent.now h c.entry.result.now.event last c.in_default.not-Agent)
