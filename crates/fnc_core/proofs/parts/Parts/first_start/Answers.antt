-- The queue's first item stands for the journal's first start.
use Rattle.std.proofs.Common.{◌≡◌, ap, sym, ◌∙◌, subst, refl, Option, Some, None, IfSome, Bor}
use Rattle.std.specs.Prelude.{IsNone}
use Rattle.std.specs.Option.{option_copied}
use Rattle.fnc_journal.specs.Startable.{first}
use Rattle.fnc_queue.specs.declared.waiting.Waiting.{Waiting}
use Rattle.fnc_queue.specs.Items.{item_of}
use Rattle.fnc_queue.specs.Places.{first_of}
use Rattle.fnc_records.specs.SlotFacts.{BothOr}
use Rattle.fnc_core.specs.declared.change.Started.{Started}
use Rattle.fnc_core.specs.Between.{Rests, IsNextStart}
use Rattle.fnc_core.specs.Parted.{Parted}
use Rattle.fnc_core.proofs.FirstStarts.{IsStartOf}
use Rattle.fnc_core.proofs.NextStarts.{own-seen, rests-first, none-first_item, first-told, neither-none}
use Rattle.fnc_core.proofs.parts.Parts.first_start.Goals as goal

pub told-requires-clause-bounded : goal.told-requires-clause-bounded
told-requires-clause-bounded c = (subst (Rests c.args.moment) (sym c.self.view_is) c.requires.rests).between.bounded

pub returns-in_err-item-clause-none : goal.returns-in_err-item-clause-none
returns-in_err-item-clause-none c =
    let p : Parted = record {
      history = c.self.inside.journal.history;
      limit = c.self.inside.journal.limit;
      ops = c.self.inside.ops;
      queue = c.self.inside.queue;
    } in
    let rests : Rests c.args.moment p = subst (Rests c.args.moment) (sym c.self.view_is) c.requires.rests in
    let b = rests-first c.args.moment _ rests
    (own-seen c.args.moment c.self.inside.queue c.first.result c.first.ensures.item c.first.ensures.own) in
    let absent : first_of c.args.moment c.self.inside.queue ≡ None = sym c.first.ensures.item
    ∙ ap option_copied (c.in_err-item.was) in
    let none : first c.self.inside.journal.history c.args.moment ≡ None =
    none-first_item c.self.inside.journal.history c.args.moment (first c.self.inside.journal.history c.args.moment)
    (subst (λ x. BothOr (IsStartOf c.self.inside.journal.history c.args.moment) x
    (first c.self.inside.journal.history c.args.moment)) absent b) in (
      λ _. subst (λ (p : Parted). first p.history c.args.moment ≡ None) c.self.view_is none,
      λ _. subst (λ (x : Option Started). IsNone x) (sym c.from_residual.ensures) refl,
    )

pub returns-clause-none : goal.returns-clause-none
returns-clause-none c =
    let p : Parted = record {
      history = c.self.inside.journal.history;
      limit = c.self.inside.journal.limit;
      ops = c.self.inside.ops;
      queue = c.self.inside.queue;
    } in
    let rests : Rests c.args.moment p = subst (Rests c.args.moment) (sym c.self.view_is) c.requires.rests in
    let item : first_of c.args.moment c.self.inside.queue ≡ Some c.in_ok-item.item.now =
    sym c.first.ensures.item ∙ ap option_copied c.in_ok-item.was in
    let own =
    subst (λ (x : Option (Bor Waiting)). IfSome x (λ i. item_of i.now.req.0 c.self.inside.queue.waiting ≡ Some i.now))
    c.in_ok-item.was
    c.first.ensures.own in
    let t = first-told c.args.moment p rests c.args.run c.in_ok-item.item.now item own c.told.result c.told.ensures in
    subst (λ (p : Parted). (IsNone c.told.result → first p.history c.args.moment ≡ None)
    × (first p.history c.args.moment ≡ None → IsNone c.told.result)) c.self.view_is
    (neither-none c.told.result (first c.self.inside.journal.history c.args.moment) t.0 t.2.next.startable t.1
    t.2.next.is_first)

pub returns-clause-some : goal.returns-clause-some
returns-clause-some c =
    let p : Parted = record {
      history = c.self.inside.journal.history;
      limit = c.self.inside.journal.limit;
      ops = c.self.inside.ops;
      queue = c.self.inside.queue;
    } in
    let rests : Rests c.args.moment p = subst (Rests c.args.moment) (sym c.self.view_is) c.requires.rests in
    let item : first_of c.args.moment c.self.inside.queue ≡ Some c.in_ok-item.item.now =
    sym c.first.ensures.item ∙ ap option_copied c.in_ok-item.was in
    let own =
    subst (λ (x : Option (Bor Waiting)). IfSome x (λ i. item_of i.now.req.0 c.self.inside.queue.waiting ≡ Some i.now))
    c.in_ok-item.was
    c.first.ensures.own in
    let t = first-told c.args.moment p rests c.args.run c.in_ok-item.item.now item own c.told.result c.told.ensures in
    subst (λ (p : Parted). IfSome c.told.result (IsNextStart c.args.moment p c.args.run)) c.self.view_is
    (subst (λ (y : Option Started). IfSome y (IsNextStart c.args.moment p c.args.run)) (sym t.1) t.2.next)
