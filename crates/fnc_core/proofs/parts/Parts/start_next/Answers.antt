-- The start is made, and the parts rest again.
use Rattle.std.proofs.Common.{◌≡◌, ◌≤◌, ◌+◌, ap, sym, ◌∙◌, subst, refl, arith, length, Option, Some, None, IfSome}
use Rattle.std.specs.Prelude.{IsNone}
use Rattle.fnc_journal.specs.declared.entry.Run.{Run}
use Rattle.fnc_journal.specs.declared.event.Start.{Start}
use Rattle.fnc_journal.specs.Found.{starts}
use Rattle.fnc_journal.specs.Owed.{owed}
use Rattle.fnc_journal.specs.Startable.{first}
use Rattle.fnc_queue.specs.declared.waiting.Waiting.{Waiting}
use Rattle.fnc_queue.specs.Items.{Changes, item_of}
use Rattle.fnc_queue.specs.Lanes.{CountsOneMore}
use Rattle.fnc_queue.specs.Places.{first_of}
use Rattle.fnc_queue.specs.Queued.{Queued, started}
use Rattle.fnc_records.specs.SlotFacts.{BothOr}
use Rattle.fnc_core.specs.declared.change.Started.{Started}
use Rattle.fnc_core.specs.Between.{Rests, IsNextStart}
use Rattle.fnc_core.specs.Parted.{Parted}
use Rattle.fnc_core.proofs.FirstStarts.{IsStartOf}
use Rattle.fnc_core.proofs.NextStarts.{
  own-taken,
  rests-first,
  none-first_item,
  first-told,
  untaken,
  try_for,
  IsFirstTold,
}
use Rattle.fnc_core.proofs.StartSteps.{awaits-start, rests-after}
use Rattle.fnc_core.proofs.parts.Parts.start_next.Goals as goal

pub told-requires-clause-bounded : goal.told-requires-clause-bounded
told-requires-clause-bounded c = (subst (Rests c.args.moment) (sym c.self.view_is) c.requires.rests).between.bounded

pub returns-in_err-item-clause-none : goal.returns-in_err-item-clause-none
returns-in_err-item-clause-none c =
    let p : Parted = record {
      history = c.self.inside.journal.history;
      limit = c.self.inside.journal.limit;
      ops = c.self.inside.ops;
      queue = c.self.inside.queue;
    } in
    let rests : Rests c.args.moment p = subst (Rests c.args.moment) (sym c.self.view_is) c.requires.rests in
    let absent : first_of c.args.moment c.self.inside.queue ≡ None = sym c.take_first.ensures.item
    ∙ c.in_err-item.was in
    let b =
    rests-first c.args.moment _ rests
    (own-taken c.args.moment c.self.inside.queue c.take_first.result c.take_first.ensures.item
    c.take_first.ensures.own) in
    let none : first c.self.inside.journal.history c.args.moment ≡ None =
    none-first_item c.self.inside.journal.history c.args.moment (first c.self.inside.journal.history c.args.moment)
    (subst (λ x. BothOr (IsStartOf c.self.inside.journal.history c.args.moment) x
    (first c.self.inside.journal.history c.args.moment)) absent b) in (
      λ _. subst (λ (p : Parted). first p.history c.args.moment ≡ None) c.self.view_is none,
      λ _. subst (λ (x : Option Started). IsNone x) (sym c.from_residual.ensures) refl,
    )

pub returns-in_err-item-clause-rests : goal.returns-in_err-item-clause-rests
returns-in_err-item-clause-rests c =
    let p : Parted = record {
      history = c.self.inside.journal.history;
      limit = c.self.inside.journal.limit;
      ops = c.self.inside.ops;
      queue = c.self.inside.queue;
    } in
    let rests : Rests c.args.moment p = subst (Rests c.args.moment) (sym c.self.view_is) c.requires.rests in
    let absent : first_of c.args.moment c.self.inside.queue ≡ None = sym c.take_first.ensures.item
    ∙ c.in_err-item.was in
    subst
    (λ (q : Queued). Rests c.args.moment (record {
      history = c.self.inside.journal.history;
      limit = c.self.inside.journal.limit;
      ops = c.self.inside.ops;
      queue =
          q;
    }))
    (sym (untaken c.args.moment c.self.inside.queue c.take_first.new.self c.take_first.ensures.after absent)) rests

pub push-requires : goal.push-requires
push-requires c =
    let p : Parted = record {
      history = c.self.inside.journal.history;
      limit = c.self.inside.journal.limit;
      ops = c.self.inside.ops;
      queue = c.self.inside.queue;
    } in
    let rests : Rests c.args.moment p = subst (Rests c.args.moment) (sym c.self.view_is) c.requires.rests in
    let item : first_of c.args.moment c.self.inside.queue ≡ Some c.in_ok-item.item = sym c.take_first.ensures.item
    ∙ c.in_ok-item.was in
    let own =
    subst (λ (x : Option Waiting). IfSome x (λ i. item_of i.req.0 c.self.inside.queue.waiting ≡ Some i))
    c.in_ok-item.was
    c.take_first.ensures.own in
    let t = first-told c.args.moment p rests c.args.run c.in_ok-item.item item own c.told.result c.told.ensures in
    let told = subst (λ (y : Option Started). IfSome y (IsFirstTold c.args.moment p c.args.run c.in_ok-item.item))
    (sym t.1 ∙ c.in_ok-started.was) t.2 in
    let number : c.start-start.result.req.0 ≡ told.next.startable.operation.req =
    ap (λ (k : Start). k.req.0) c.start-start.ensures ∙ told.next.req in
    let slot : c.start-start.result.slot ≡ told.next.startable.task.slot =
    ap (λ (k : Start). k.slot) c.start-start.ensures ∙ told.next.slot in
    let awaits = awaits-start c.self.inside.journal.history c.args.moment c.in_ok-item.item told.next.startable
    told.is_start c.start-start.result.req.0 number in
    let owes = c.started.ensures.owes (try_for told.next.startable) awaits slot in
    let room : length c.self.inside.journal.history + owed c.self.inside.journal.history ≤ c.self.inside.journal.limit =
    rests.between.room in
    omega (arith, room, owes)

pub returns-clause-some : goal.returns-clause-some
returns-clause-some c =
    let p : Parted = record {
      history = c.self.inside.journal.history;
      limit = c.self.inside.journal.limit;
      ops = c.self.inside.ops;
      queue = c.self.inside.queue;
    } in
    let rests : Rests c.args.moment p = subst (Rests c.args.moment) (sym c.self.view_is) c.requires.rests in
    let item : first_of c.args.moment c.self.inside.queue ≡ Some c.in_ok-item.item = sym c.take_first.ensures.item
    ∙ c.in_ok-item.was in
    let own =
    subst (λ (x : Option Waiting). IfSome x (λ i. item_of i.req.0 c.self.inside.queue.waiting ≡ Some i))
    c.in_ok-item.was
    c.take_first.ensures.own in
    let t = first-told c.args.moment p rests c.args.run c.in_ok-item.item item own c.told.result c.told.ensures in
    let told = subst (λ (y : Option Started). IfSome y (IsFirstTold c.args.moment p c.args.run c.in_ok-item.item))
    (sym t.1 ∙ c.in_ok-started.was) t.2 in
    subst (λ (p : Parted). IsNextStart c.args.moment p c.args.run c.in_ok-started.started) c.self.view_is told.next

pub returns-clause-none : goal.returns-clause-none
returns-clause-none c =
    let p : Parted = record {
      history = c.self.inside.journal.history;
      limit = c.self.inside.journal.limit;
      ops = c.self.inside.ops;
      queue = c.self.inside.queue;
    } in
    let rests : Rests c.args.moment p = subst (Rests c.args.moment) (sym c.self.view_is) c.requires.rests in
    let item : first_of c.args.moment c.self.inside.queue ≡ Some c.in_ok-item.item = sym c.take_first.ensures.item
    ∙ c.in_ok-item.was in
    let own =
    subst (λ (x : Option Waiting). IfSome x (λ i. item_of i.req.0 c.self.inside.queue.waiting ≡ Some i))
    c.in_ok-item.was
    c.take_first.ensures.own in
    let t = first-told c.args.moment p rests c.args.run c.in_ok-item.item item own c.told.result c.told.ensures in
    let some : first c.args.self.now.history c.args.moment ≡ Some t.2.next.startable =
    subst (λ (p : Parted). first p.history c.args.moment ≡ Some t.2.next.startable) c.self.view_is t.2.next.is_first in
    (λ e. cc, λ e. cc)

pub returns-clause-rests : goal.returns-clause-rests
returns-clause-rests c =
    let p : Parted = record {
      history = c.self.inside.journal.history;
      limit = c.self.inside.journal.limit;
      ops = c.self.inside.ops;
      queue = c.self.inside.queue;
    } in
    let rests : Rests c.args.moment p = subst (Rests c.args.moment) (sym c.self.view_is) c.requires.rests in
    let item : first_of c.args.moment c.self.inside.queue ≡ Some c.in_ok-item.item = sym c.take_first.ensures.item
    ∙ c.in_ok-item.was in
    let own =
    subst (λ (x : Option Waiting). IfSome x (λ i. item_of i.req.0 c.self.inside.queue.waiting ≡ Some i))
    c.in_ok-item.was
    c.take_first.ensures.own in
    let t = first-told c.args.moment p rests c.args.run c.in_ok-item.item item own c.told.result c.told.ensures in
    let told = subst (λ (y : Option Started). IfSome y (IsFirstTold c.args.moment p c.args.run c.in_ok-item.item))
    (sym t.1 ∙ c.in_ok-started.was) t.2 in
    let next : c.args.run.0 ≡ starts c.self.inside.journal.history =
    subst (λ (p : Parted). c.args.run.0 ≡ starts p.history) (sym c.self.view_is) c.requires.number in
    let number : c.start-start.result.req.0 ≡ told.next.startable.operation.req =
    ap (λ (k : Start). k.req.0) c.start-start.ensures ∙ told.next.req in
    let slot : c.start-start.result.slot ≡ told.next.startable.task.slot =
    ap (λ (k : Start). k.slot) c.start-start.ensures ∙ told.next.slot in
    let awaits = awaits-start c.self.inside.journal.history c.args.moment c.in_ok-item.item told.next.startable
    told.is_start c.start-start.result.req.0 number in
    let after = rests-after c.args.moment _ c.start-start.result c.in_ok-item.item told.next.startable
    c.started.new.self c.take_first.new.self
    (record {
      rests = rests;
      number = ap (λ (k : Start). k.run.0) c.start-start.ensures ∙ ap (λ (r : Run). r.0) told.next.run_is ∙ next;
      is_first = told.next.is_first;
      is_start = told.is_start;
      req_is = number;
      slot_is = slot;
      reg_is = ap (λ (k : Start). k.reg.0) c.start-start.ensures ∙ told.next.reg;
      kind_is = ap (λ (k : Start). k.kind) c.start-start.ensures ∙ told.next.kind;
      attempt_is = ap (λ (k : Start). k.attempt) c.start-start.ensures ∙ told.next.attempt;
      stands = c.started.ensures.stands (try_for told.next.startable) awaits slot;
      at = c.started.ensures.at;
      settled_after = c.started.ensures.settled;
      waits = c.started.ensures.waits (try_for told.next.startable) awaits;
      others = c.started.ensures.others;
      owes = c.started.ensures.owes (try_for told.next.startable) awaits slot;
      changes = subst (λ (x : Option Waiting). IfSome x
          (λ i. Changes i.req.0 None c.self.inside.queue.waiting c.take_first.new.self.waiting)) c.in_ok-item.was
          c.take_first.ensures.changes;
      counts = subst (λ (x : Option Waiting). IfSome x
          (λ i. CountsOneMore i.lane.0 c.self.inside.queue.alive c.take_first.new.self.alive)) c.in_ok-item.was
          c.take_first.ensures.counts;
      spare = ap (λ (q : Queued). q.spare) (c.take_first.ensures.after ∙ ap (λ x. started x c.self.inside.queue) item);
    }) in
    rw (c.push.ensures.history, c.push.ensures.limit) after
