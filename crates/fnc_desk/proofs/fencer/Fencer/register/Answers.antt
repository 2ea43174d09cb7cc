use Rattle.std.proofs.Common.{ap, sym, ◌∙◌, subst, eq-eqb, refl}
use Rattle.fnc_journal.specs.declared.definition.Registration.{Registration}
use Rattle.fnc_journal.specs.declared.event.Event.{Event}
use Rattle.fnc_journal.specs.Found.{devices}
use Rattle.fnc_journal.specs.Lawful.{Lawful}
use Rattle.fnc_config.specs.Configured.{with_device}
use Rattle.fnc_core.specs.Cored.{Cored}
use Rattle.fnc_desk.proofs.Devices.{device-within}
use Rattle.fnc_desk.proofs.Keeping.{keeps-changed}
use Rattle.fnc_desk.proofs.fencer.Fencer.register.Goals as goal

pub note-requires-clause-few_names : goal.note-requires-clause-few_names
note-requires-clause-few_names c =
    let h = c.self.inside.core.history in
    c.in_ok-register.ensures.few
    (record { reg = record { 0 = devices h }; registration = c.in_ok-registration.registration })
    (sym (ap (λ (g : Registration). g.name) c.get.ensures)) c.self.inside.core.last h
    (subst (λ (v : Cored). Lawful v.history) (sym c.self.view_is) c.requires.sound.lawful) c.self.invariant.0
    (eq-eqb (devices h) (devices h) refl)

pub invariant_of-self-2 : goal.invariant_of-self-2
invariant_of-self-2 c =
    let core = c.self.inside.core in
    let g = c.in_ok-registration.registration in
    let follows =
    c.in_ok-register.ensures.ok
    ∙ ap (λ (k : Registration). with_device k.name c.next_reg-reg.result.0 c.self.inside.config) c.get.ensures
    ∙ ap (λ n. with_device g.name n c.self.inside.config) c.next_reg-reg.ensures in
    keeps-changed c.self.inside.config c.register.new.self core c.note.new.core
    (Event.Device (record { reg = record { 0 = devices core.history }; registration = g })) 1 follows
    (device-within g c.args.name c.args.agent c.in_ok-agent.agent c.in_ok-definition.definition
    c.in_ok-registration.ensures c.in_ok-agent.ensures c.requires.proper.0 c.requires.proper.1
    c.in_ok-definition.ensures.bounded) c.note.ensures c.self.invariant
