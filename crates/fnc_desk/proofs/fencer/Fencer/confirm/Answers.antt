use Rattle.std.proofs.Common.{refl}
use Rattle.fnc_journal.specs.declared.event.Event.{Event}
use Rattle.fnc_desk.proofs.Changing.{few-still}
use Rattle.fnc_desk.proofs.Keeping.{keeps-still}
use Rattle.fnc_desk.proofs.fencer.Fencer.confirm.Goals as goal

pub note-requires-clause-few_names : goal.note-requires-clause-few_names
note-requires-clause-few_names c =
    few-still c.self.inside.core c.args.self.now
    (Event.Confirm (record { client = c.args.client; target = c.args.target })) c.self.view_is c.requires.sound refl

pub invariant_of-self : goal.invariant_of-self
invariant_of-self c =
    keeps-still c.self.inside.config c.self.inside.core c.note.new.core c.self.inside.core.last
    (Event.Confirm (record { client = c.args.client; target = c.args.target })) 1 (λ at d. refl)
    (rw (c.requires.proper.0, c.requires.proper.1) refl) c.note.ensures c.self.invariant
