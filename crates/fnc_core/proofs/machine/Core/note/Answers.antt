-- The change enters after the advance.
use Rattle.std.proofs.Common.{◌≡◌, ◌∙◌, ap, ap₂, subst, sym}
use Rattle.fnc_journal.specs.declared.event.Event.{Event}
use Rattle.fnc_journal.specs.Found.{devices}
use Rattle.fnc_journal.specs.History.{History}
use Rattle.fnc_journal.specs.Lawful.{in_order}
use Rattle.fnc_core.specs.Cored.{Enters, event_of}
use Rattle.fnc_journal.specs.Known.{LeavesFewNames}
use Rattle.fnc_core.proofs.Following.{follows-enters, same-event}
use Rattle.fnc_core.proofs.KnownFew.{leaves-replied}
use Rattle.fnc_core.proofs.Replied.{devices-replied, in_order-replied}
use Rattle.fnc_core.proofs.machine.Core.note.Goals as goal

pub enter_change-requires-clause-ordered : goal.enter_change-requires-clause-ordered
enter_change-requires-clause-ordered c =
    let count : devices c.advance.new.self.history ≡ devices c.args.self.now.history =
    ap devices c.advance.ensures.history
    ∙ devices-replied c.args.moment c.advance.ensures.advance c.args.self.now.history c.advance.ensures.at_once in
    let same : event_of c.advance.new.self.history c.args.change ≡ event_of c.args.self.now.history c.args.change =
    same-event c.advance.new.self.history c.args.self.now.history c.args.change count in
    ap₂ in_order same c.advance.ensures.history
    ∙ in_order-replied c.args.moment c.advance.ensures.advance c.args.self.now.history c.advance.ensures.at_once
    (event_of c.args.self.now.history c.args.change)
    ∙ c.requires.ordered

pub enter_change-requires-clause-few_names : goal.enter_change-requires-clause-few_names
enter_change-requires-clause-few_names c =
    let count : devices c.advance.new.self.history ≡ devices c.args.self.now.history =
    ap devices c.advance.ensures.history
    ∙ devices-replied c.args.moment c.advance.ensures.advance c.args.self.now.history c.advance.ensures.at_once in
    let same : event_of c.advance.new.self.history c.args.change ≡ event_of c.args.self.now.history c.args.change =
    same-event c.advance.new.self.history c.args.self.now.history c.args.change count in
    subst (λ n. LeavesFewNames n (event_of c.advance.new.self.history c.args.change) c.advance.new.self.history)
    (sym c.advance.ensures.last)
    (subst (λ (e : Event). LeavesFewNames c.args.moment e c.advance.new.self.history) (sym same)
    (subst (λ (h : History). LeavesFewNames c.args.moment (event_of c.args.self.now.history c.args.change) h)
    (sym c.advance.ensures.history)
    (leaves-replied c.args.moment c.args.moment
    (event_of c.args.self.now.history c.args.change) c.advance.ensures.advance
    c.args.self.now.history c.advance.ensures.at_once c.requires.few_names)))

pub returns-clause-ok : goal.returns-clause-ok
returns-clause-ok c =
    let count : devices c.advance.new.self.history ≡ devices c.args.self.now.history =
    ap devices c.advance.ensures.history
    ∙ devices-replied c.args.moment c.advance.ensures.advance c.args.self.now.history c.advance.ensures.at_once in
    let same : event_of c.advance.new.self.history c.args.change ≡ event_of c.args.self.now.history c.args.change =
    same-event c.advance.new.self.history c.args.self.now.history c.args.change count in
    subst (λ (e : Event). Enters c.args.self.now c.enter_change.new.self c.args.moment e 1) same
    (follows-enters c.args.self.now c.advance.new.self c.enter_change.new.self c.args.moment
    (event_of c.advance.new.self.history c.args.change) 1 c.advance.ensures c.in_ok-room.ensures.ok
    c.enter_change.ensures)
