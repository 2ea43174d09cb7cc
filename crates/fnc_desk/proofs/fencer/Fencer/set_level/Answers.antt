use Rattle.std.proofs.Common.{ap, ◌∙◌, length}
use Rattle.fnc_journal.specs.declared.event.Event.{Event}
use Rattle.fnc_journal.specs.History.{History}
use Rattle.fnc_config.specs.Configured.{with_target_level}
use Rattle.fnc_desk.proofs.Changing.{level-within}
use Rattle.fnc_desk.proofs.Keeping.{keeps-changed}
use Rattle.fnc_desk.proofs.fencer.Fencer.set_level.Goals as goal

pub invariant_of-self-2 : goal.invariant_of-self-2
invariant_of-self-2 c =
    let at = c.len-at.ensures ∙ ap (λ (h : History). length h) c.journal.ensures.history in
    let follows =
    c.in_ok-set_level.ensures.ok
    ∙ ap
    (λ n. with_target_level c.args.target (record { at = n; index = c.args.index; devices = c.args.devices })
    c.self.inside.config) at in
    keeps-changed c.self.inside.config c.set_level.new.self c.self.inside.core c.note.new.core
    (Event.Level (record { target = c.args.target; index = c.args.index; devices = c.args.devices })) 1 follows
    (level-within c.args.target c.args.index c.args.devices c.requires.proper.0 c.requires.proper.1
    c.in_ok-set_level.ensures.small) c.note.ensures c.self.invariant
