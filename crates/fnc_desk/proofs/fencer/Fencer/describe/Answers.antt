use Rattle.std.proofs.Common.{◌≡◌, true, ap, sym, ◌∙◌, length, refl, subst}
use Rattle.fnc_journal.specs.declared.definition.Description.{Description}
use Rattle.fnc_journal.specs.declared.event.Event.{Event}
use Rattle.fnc_journal.specs.EntryBounds.{is_described}
use Rattle.fnc_journal.specs.History.{History}
use Rattle.fnc_config.specs.Configured.{with_agent}
use Rattle.fnc_desk.proofs.Keeping.{keeps-changed}
use Rattle.fnc_desk.proofs.fencer.Fencer.describe.Goals as goal

pub invariant_of-self-2 : goal.invariant_of-self-2
invariant_of-self-2 c =
    let at = c.len-at.ensures ∙ ap (λ (h : History). length h) c.journal.ensures.history in
    let follows = c.in_ok-set_agent.ensures.ok ∙ ap (λ n. with_agent c.args.name n c.self.inside.config) at in
    let bounded =
    subst (λ (d : Description). is_described d ≡ true) (sym c.in_ok-description.ensures)
    c.in_ok-read_description.ensures.bounded in
    keeps-changed c.self.inside.config c.set_agent.new.self c.self.inside.core c.note.new.core
    (Event.Agent (record { name = c.args.name; description = c.in_ok-description.description })) 1 follows
    (rw (c.requires.proper, bounded) refl) c.note.ensures c.self.invariant
