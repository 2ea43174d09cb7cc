-- Room that is taken in the queue, or that is not had, changes nothing else.
use Rattle.std.proofs.Common.{sym, subst}
use Rattle.fnc_core.specs.Between.{Rests, Stays}
use Rattle.fnc_core.specs.Parted.{Parted}
use Rattle.fnc_core.proofs.Reserved.{stays-either, places-either}
use Rattle.fnc_core.proofs.parts.Parts.reserve.Goals as goal

pub returns-clause-stays : goal.returns-clause-stays
returns-clause-stays c =
    let p : Parted = record {
      history = c.self.inside.journal.history;
      limit = c.self.inside.journal.limit;
      ops = c.self.inside.ops;
      queue = c.self.inside.queue;
    } in
    let q : Parted = record p { queue = c.reserve.new.self } in
    let rests : Rests c.args.moment p = subst (λ (v : Parted). Rests c.args.moment v)
    (sym c.self.view_is) c.requires.rests in
    subst (λ (v : Parted). Stays c.args.moment v q) c.self.view_is
    (stays-either c.args.moment c.args.places p c.reserve.new.self c.reserve.result rests c.reserve.ensures.ok
    c.reserve.ensures.err)

pub returns-clause-places : goal.returns-clause-places
returns-clause-places c =
    places-either c.args.places c.self.inside.queue c.reserve.new.self c.reserve.result c.reserve.ensures.ok
