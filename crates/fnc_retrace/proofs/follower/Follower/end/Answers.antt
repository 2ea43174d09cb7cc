use Rattle.std.proofs.Common.{refl, subst}
use Rattle.fnc_journal.specs.declared.event.Ended.{Ended}
use Rattle.fnc_journal.specs.declared.event.Event.{Event}
use Rattle.fnc_core.specs.Cored.{Cored}
use Rattle.fnc_retrace.specs.Agreeing.{GoesOn}
use Rattle.fnc_retrace.proofs.Configuring.{keeps-either}
use Rattle.fnc_retrace.proofs.GoingOn.{goes-either}
use Rattle.fnc_retrace.proofs.follower.Follower.end.Goals as goal

-- the entry of an exit
abbrev entered : Ended → Event
entered e = Event.Exit (record { run = e.run; exit = e.exit; listed = e.listed })

pub invariant_of-self : goal.invariant_of-self
invariant_of-self c =
    keeps-either c.self.inside.config c.self.inside.core c.exit-ended.new.self c.last-moment.result
    (entered c.args.ended) 0 c.exit-ended.result (λ at d. refl) c.exit-ended.ensures.ok c.exit-ended.ensures.err
    c.self.invariant

pub returns : goal.returns
returns c =
    subst (λ (v : Cored). GoesOn v.history c.exit-ended.new.self.history) c.self.view_is
    (goes-either c.self.inside.core c.exit-ended.new.self c.last-moment.result (entered c.args.ended) 0
    c.exit-ended.result c.exit-ended.ensures.ok c.exit-ended.ensures.err)
