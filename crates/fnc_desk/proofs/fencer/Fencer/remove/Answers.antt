use Rattle.std.proofs.Common.{◌≡◌, Some, None, ap, sym, ◌∙◌, refl, subst}
use Rattle.fnc_journal.specs.declared.event.Event.{Event}
use Rattle.fnc_journal.specs.Lawful.{Lawful}
use Rattle.fnc_journal.specs.Registered.{current}
use Rattle.fnc_command.specs.declared.command.Command.{Command}
use Rattle.fnc_config.specs.Configured.{without_device}
use Rattle.fnc_core.specs.Cored.{Cored}
use Rattle.fnc_desk.specs.Called.{CallsFor}
use Rattle.fnc_desk.specs.Obeyed.{Obeys}
use Rattle.fnc_desk.proofs.Changing.{few-still, obeys-removed}
use Rattle.fnc_desk.proofs.Denying.{denies-unregistered, registered-current}
use Rattle.fnc_desk.proofs.Keeping.{keeps-changed}
use Rattle.fnc_desk.proofs.fencer.Fencer.remove.Goals as goal

pub returns-in_err-reg-clause-err : goal.returns-in_err-reg-clause-err
returns-in_err-reg-clause-err c =
    let none =
    registered-current c.self.inside.config c.self.inside.core.history c.args.name c.as_str.result.now None
    c.self.invariant.0 (subst (λ (v : Cored). Lawful v.history) (sym c.self.view_is) c.requires.sound.lawful)
    c.as_str.ensures c.in_err-reg.ensures.refused in
    denies-unregistered c.args.self.now c.self.inside.core c.args.name c.from_residual.result c.self.view_is
    (subst (λ (v : Cored). current c.args.name v.history ≡ None) c.self.view_is none) c.from_residual.ensures.1

pub note-requires-clause-few_names : goal.note-requires-clause-few_names
note-requires-clause-few_names c =
    few-still c.self.inside.core c.args.self.now (Event.Gone c.in_ok-reg.reg) c.self.view_is c.requires.sound refl

pub invariant_of-self-2 : goal.invariant_of-self-2
invariant_of-self-2 c =
    let core = c.self.inside.core in
    let lawful = subst (λ (v : Cored). Lawful v.history) (sym c.self.view_is) c.requires.sound.lawful in
    let follows =
    c.in_ok-reg.ensures.enters 0 core.history lawful c.self.invariant.0
    ∙ ap (without_device c.in_ok-reg.reg.0) (sym c.self.invariant.0) in
    keeps-changed c.self.inside.config c.remove.new.self core c.note.new.core (Event.Gone c.in_ok-reg.reg) 1 follows refl
    c.note.ensures c.self.invariant

pub returns-clause-ok : goal.returns-clause-ok
returns-clause-ok c =
    let is =
    registered-current c.self.inside.config c.self.inside.core.history c.args.name c.as_str.result.now
    (Some c.in_ok-reg.reg.0) c.self.invariant.0
    (subst (λ (v : Cored). Lawful v.history) (sym c.self.view_is) c.requires.sound.lawful) c.as_str.ensures
    c.in_ok-reg.ensures.gone in
    subst (λ (v : Cored). Obeys (CallsFor v 0 (Command.Remove c.args.name)) v c.note.new.core) c.self.view_is
    (obeys-removed c.self.inside.core c.note.new.core c.args.name c.in_ok-reg.reg is c.note.ensures)
