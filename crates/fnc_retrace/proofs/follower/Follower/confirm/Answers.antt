use Rattle.std.proofs.Common.{refl, subst, sym}
use Rattle.fnc_journal.specs.declared.event.Event.{Event}
use Rattle.fnc_journal.specs.Known.{KnowsFew}
use Rattle.fnc_core.proofs.KnownFew.{few-undevice}
use Rattle.fnc_core.specs.Cored.{Cored}
use Rattle.fnc_retrace.specs.Agreeing.{GoesOn}
use Rattle.fnc_retrace.proofs.Configuring.{keeps-still}
use Rattle.fnc_retrace.proofs.GoingOn.{goes-entered}
use Rattle.fnc_retrace.proofs.follower.Follower.confirm.Goals as goal

pub note-requires-clause-few_names : goal.note-requires-clause-few_names
note-requires-clause-few_names c =
    few-undevice c.self.inside.core.last (Event.Confirm c.args.word) c.self.inside.core.history refl
    (subst (λ (v : Cored). KnowsFew v.history) (sym c.self.view_is) c.requires.sound.few)

pub invariant_of-self : goal.invariant_of-self
invariant_of-self c =
    keeps-still c.self.inside.config c.self.inside.core c.note.new.core c.self.inside.core.last
    (Event.Confirm c.args.word) 1 (λ at d. refl) c.note.ensures c.self.invariant

pub returns : goal.returns
returns c =
    subst (λ (v : Cored). GoesOn v.history c.note.new.core.history) c.self.view_is
    (goes-entered c.self.inside.core c.note.new.core c.self.inside.core.last (Event.Confirm c.args.word) 1
    c.note.ensures)
