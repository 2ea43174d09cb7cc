-- The parts rest after an input that touches no operation.
use Rattle.std.proofs.Common.{refl, subst, sym, ◌≡◌, true}
use Rattle.fnc_core.specs.Between.{Rests, RoomFor}
use Rattle.fnc_journal.specs.Known.{LeavesFewNames}
use Rattle.fnc_core.specs.Parted.{Parted}
use Rattle.fnc_journal.specs.Lawful.{in_order}
use Rattle.fnc_core.proofs.Entered.{rests-entered}
use Rattle.fnc_core.proofs.parts.Parts.enter.Goals as goal

pub returns-clause-rests : goal.returns-clause-rests
returns-clause-rests c =
    let p : Parted = record {
      history = c.self.inside.journal.history;
      limit = c.self.inside.journal.limit;
      ops =
          c.self.inside.ops;
      queue = c.self.inside.queue;
    } in
    let q : Parted = record {
      history = c.push.new.self.history;
      limit = c.push.new.self.limit;
      ops =
          c.self.inside.ops;
      queue = c.self.inside.queue;
    } in
    rests-entered c.args.moment c.args.event p q
    (subst (λ (v : Parted). Rests c.args.moment v) (sym c.self.view_is) c.requires.rests) c.requires.quiet
    (subst (λ (v : Parted). in_order c.args.event v.history ≡ true) (sym c.self.view_is) c.requires.ordered)
    c.requires.bounded
    (subst (λ (v : Parted). LeavesFewNames c.args.moment c.args.event v.history)
    (sym c.self.view_is) c.requires.few_names)
    (subst (λ (v : Parted). RoomFor v 1) (sym c.self.view_is) c.requires.room)
    (record { history = c.push.ensures.history; limit = c.push.ensures.limit }) refl refl
