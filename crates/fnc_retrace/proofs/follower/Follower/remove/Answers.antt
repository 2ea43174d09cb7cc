use Rattle.std.proofs.Common.{ap, refl, subst, sym, ◌∙◌}
use Rattle.fnc_journal.specs.declared.event.Event.{Event}
use Rattle.fnc_journal.specs.Known.{KnowsFew}
use Rattle.fnc_journal.specs.Lawful.{Lawful}
use Rattle.fnc_config.specs.Configured.{without_device}
use Rattle.fnc_core.proofs.KnownFew.{few-undevice}
use Rattle.fnc_core.specs.Cored.{Cored}
use Rattle.fnc_retrace.specs.Agreeing.{GoesOn}
use Rattle.fnc_retrace.proofs.Configuring.{keeps-changed}
use Rattle.fnc_retrace.proofs.GoingOn.{goes-entered}
use Rattle.fnc_retrace.proofs.follower.Follower.remove.Goals as goal

pub note-requires-clause-few_names : goal.note-requires-clause-few_names
note-requires-clause-few_names c =
    few-undevice c.self.inside.core.last (Event.Gone c.in-Ok.current) c.self.inside.core.history refl
    (subst (λ (v : Cored). KnowsFew v.history) (sym c.self.view_is) c.requires.sound.few)

pub invariant_of-self-2 : goal.invariant_of-self-2
invariant_of-self-2 c =
    let core = c.self.inside.core in
    let lawful = subst (λ (v : Cored). Lawful v.history) (sym c.self.view_is) c.requires.sound.lawful in
    let follows =
    c.in-Ok.ensures.enters 0 core.history lawful c.self.invariant
    ∙ ap (without_device c.in-Ok.current.0) (sym c.self.invariant) in
    keeps-changed c.self.inside.config c.remove.new.self core c.note.new.core (Event.Gone c.in-Ok.current) 1 follows
    c.note.ensures c.self.invariant

pub returns : goal.returns
returns c =
    subst (λ (v : Cored). GoesOn v.history c.note.new.core.history) c.self.view_is
    (goes-entered c.self.inside.core c.note.new.core c.self.inside.core.last (Event.Gone c.in-Ok.current) 1
    c.note.ensures)
