use Rattle.std.proofs.Common.{ap, length, subst, ◌∙◌}
use Rattle.fnc_journal.specs.declared.event.Event.{Event}
use Rattle.fnc_journal.specs.History.{History}
use Rattle.fnc_config.specs.Configured.{with_target_level}
use Rattle.fnc_core.specs.Cored.{Cored}
use Rattle.fnc_retrace.specs.Agreeing.{GoesOn}
use Rattle.fnc_retrace.proofs.Configuring.{keeps-changed}
use Rattle.fnc_retrace.proofs.GoingOn.{goes-entered}
use Rattle.fnc_retrace.proofs.follower.Follower.set_level.Goals as goal

pub invariant_of-self-2 : goal.invariant_of-self-2
invariant_of-self-2 c =
    let level = c.args.level in
    let at = c.len-at.ensures ∙ ap (λ (h : History). length h) c.journal.ensures.history in
    let follows =
    c.in-Ok.ensures.ok
    ∙ ap
    (λ k. with_target_level level.target (record { at = c.len-at.result; index = k; devices = level.devices })
    c.self.inside.config) c.from-index.ensures
    ∙ ap
    (λ n. with_target_level level.target (record { at = n; index = level.index; devices = level.devices })
    c.self.inside.config) at in
    keeps-changed c.self.inside.config c.set_level.new.self c.self.inside.core c.note.new.core (Event.Level level) 1
    follows c.note.ensures c.self.invariant

pub returns : goal.returns
returns c =
    subst (λ (v : Cored). GoesOn v.history c.note.new.core.history) c.self.view_is
    (goes-entered c.self.inside.core c.note.new.core c.self.inside.core.last (Event.Level c.args.level) 1
    c.note.ensures)
