-- The parts after an operator's word.
use Rattle.std.proofs.Common.{refl, subst, sym}
use Rattle.fnc_journal.specs.declared.event.Event.{Event}
use Rattle.fnc_core.specs.Between.{Rests, RoomFor}
use Rattle.fnc_core.specs.Parted.{Parted}
use Rattle.fnc_core.proofs.KnownFew.{few-undevice}
use Rattle.fnc_core.proofs.Entered.{between-entered}
use Rattle.fnc_core.proofs.parts.Parts.confirm.Goals as goal

pub returns-clause-between : goal.returns-clause-between
returns-clause-between c =
    let p : Parted = record {
      history = c.self.inside.journal.history;
      limit = c.self.inside.journal.limit;
      ops =
          c.self.inside.ops;
      queue = c.self.inside.queue;
    } in
    let q : Parted = record {
      history = c.push.new.self.history;
      limit = c.push.new.self.limit;
      ops =
          c.confirm.new.self;
      queue = c.self.inside.queue;
    } in
    let rests : Rests c.args.moment p = subst (λ (v : Parted). Rests c.args.moment v)
    (sym c.self.view_is) c.requires.rests in
    between-entered c.args.moment (Event.Confirm c.args.word) p rests refl refl refl q
    (record { history = c.push.ensures.history; limit = c.push.ensures.limit }) refl tt
    (few-undevice c.args.moment (Event.Confirm c.args.word) p.history refl rests.between.few)
    (subst (λ (v : Parted). RoomFor v 1) (sym c.self.view_is) c.requires.room)
    (c.confirm.ensures.stands c.args.moment c.args.word (sym c.as_str.ensures))
    (c.confirm.ensures.at c.args.moment rests.between.at) c.confirm.ensures.waits
