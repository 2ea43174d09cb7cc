use Rattle.std.proofs.Common.{ap, subst, ◌∙◌}
use Rattle.fnc_journal.specs.declared.definition.Registration.{Registration}
use Rattle.fnc_journal.specs.declared.event.Event.{Event}
use Rattle.fnc_journal.specs.Found.{devices}
use Rattle.fnc_journal.specs.History.{History}
use Rattle.fnc_config.specs.Configured.{with_device}
use Rattle.fnc_core.specs.Cored.{Cored}
use Rattle.fnc_retrace.specs.Agreeing.{GoesOn}
use Rattle.fnc_retrace.proofs.Configuring.{keeps-changed}
use Rattle.fnc_retrace.proofs.GoingOn.{goes-entered}
use Rattle.fnc_retrace.proofs.follower.Follower.register.Goals as goal

-- the entry of a device that is registered next
abbrev entered : History → Registration → Event
entered h g = Event.Device (record { reg = record { 0 = devices h }; registration = g })

pub invariant_of-self-2 : goal.invariant_of-self-2
invariant_of-self-2 c =
    let core = c.self.inside.core in
    let g = c.args.registration in
    let follows =
    c.in-Ok.ensures.ok
    ∙ ap (λ (k : Registration). with_device k.name c.next_reg-reg.result.0 c.self.inside.config) c.get.ensures
    ∙ ap (λ n. with_device g.name n c.self.inside.config) c.next_reg-reg.ensures in
    keeps-changed c.self.inside.config c.register.new.self core c.note.new.core (entered core.history g) 1 follows
    c.note.ensures c.self.invariant

pub returns : goal.returns
returns c =
    subst (λ (v : Cored). GoesOn v.history c.note.new.core.history) c.self.view_is
    (goes-entered c.self.inside.core c.note.new.core c.self.inside.core.last
    (entered c.self.inside.core.history c.args.registration) 1 c.note.ensures)
