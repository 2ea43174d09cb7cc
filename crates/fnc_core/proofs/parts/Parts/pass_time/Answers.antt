-- The records and the queue at the later moment are again those of the journal.
use Rattle.std.proofs.Common.{subst, sym}
use Rattle.fnc_core.specs.Between.{Rests}
use Rattle.fnc_core.proofs.Passing.{between-later}
use Rattle.fnc_core.proofs.parts.Parts.pass_time.Goals as goal

pub returns-clause-between : goal.returns-clause-between
returns-clause-between c =
    let rests = subst (Rests c.args.last) (sym c.self.view_is) c.requires.rests in
    between-later c.args.last c.args.moment _ c.expire_all.new.ops c.expire_all.new.queue rests c.requires.later
    c.requires.early
    c.expire_all.ensures.stands c.expire_all.ensures.at c.expire_all.ensures.waits c.expire_all.ensures.alive
    c.expire_all.ensures.has_places
