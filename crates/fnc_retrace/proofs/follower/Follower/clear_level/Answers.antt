use Rattle.std.proofs.Common.{ap, refl, subst, sym, ◌∙◌}
use Rattle.fnc_journal.specs.declared.event.Event.{Event}
use Rattle.fnc_journal.specs.Known.{KnowsFew}
use Rattle.fnc_config.specs.Configured.{without_target_level}
use Rattle.fnc_core.proofs.KnownFew.{few-undevice}
use Rattle.fnc_core.specs.Cored.{Cored}
use Rattle.fnc_retrace.specs.Agreeing.{GoesOn}
use Rattle.fnc_retrace.proofs.Configuring.{keeps-changed}
use Rattle.fnc_retrace.proofs.GoingOn.{goes-entered}
use Rattle.fnc_retrace.proofs.follower.Follower.clear_level.Goals as goal

pub note-requires-clause-few_names : goal.note-requires-clause-few_names
note-requires-clause-few_names c =
    few-undevice c.self.inside.core.last (Event.LevelGone c.args.level) c.self.inside.core.history refl
    (subst (λ (v : Cored). KnowsFew v.history) (sym c.self.view_is) c.requires.sound.few)

pub invariant_of-self-2 : goal.invariant_of-self-2
invariant_of-self-2 c =
    let follows =
    c.in-Ok.ensures.ok
    ∙ ap (λ k. without_target_level c.args.level.target k c.self.inside.config) c.from.ensures in
    keeps-changed c.self.inside.config c.clear_level.new.self c.self.inside.core c.note.new.core
    (Event.LevelGone c.args.level) 1 follows c.note.ensures c.self.invariant

pub returns : goal.returns
returns c =
    subst (λ (v : Cored). GoesOn v.history c.note.new.core.history) c.self.view_is
    (goes-entered c.self.inside.core c.note.new.core c.self.inside.core.last (Event.LevelGone c.args.level) 1
    c.note.ensures)
