-- The parts with a request that joined, and without memory for it.
use Rattle.std.proofs.Common.{refl, ◌∷◌, ◌≡◌, ◌≤◌, ◌+◌, ◌∙◌, ap, subst, sym, true, option_map, Some}
use Rattle.fnc_journal.specs.declared.event.Request.{Request}
use Rattle.fnc_journal.specs.declared.event.Event.{Event}
use Rattle.fnc_journal.specs.Lawful.{in_order}
use Rattle.fnc_journal.specs.Operations.{joined}
use Rattle.fnc_journal.specs.Owed.{owed}
use Rattle.fnc_journal.specs.Slots.{Operation}
use Rattle.fnc_core.specs.Between.{Rests, RoomFor, entry, request_of}
use Rattle.fnc_core.specs.Parted.{Parted}
use Rattle.fnc_core.proofs.AskedParts.{between-joined, ordered-next}
use Rattle.fnc_core.proofs.OwedAsks.{joined-open}
use Rattle.fnc_core.proofs.parts.Parts.join.Goals as goal

pub returns-clause-between : goal.returns-clause-between
returns-clause-between c =
    let p : Parted = record {
      history = c.self.inside.journal.history;
      limit = c.self.inside.journal.limit;
      ops = c.self.inside.ops;
      queue = c.self.inside.queue;
    } in
    let q : Parted = record {
      history = c.push.new.self.history;
      limit = c.push.new.self.limit;
      ops = c.join.new.self;
      queue = c.self.inside.queue;
    } in
    let request : Request = request_of c.args.req c.args.lead c.args.ask c.args.scope in
    let rests : Rests c.args.moment p = subst (λ (v : Parted). Rests c.args.moment v)
    (sym c.self.view_is) c.requires.rests in
    let ordered : in_order (Event.Ask request) p.history ≡ true =
    subst (λ (v : Parted). in_order (Event.Ask request) v.history ≡ true) (sym c.self.view_is) c.requires.ordered in
    let led : option_map (λ (o : Operation). o.req)
    (joined p.history c.args.moment c.args.ask.kind c.args.ask.target) ≡ Some c.args.lead.0 =
    subst
    (λ (v : Parted). option_map (λ (o : Operation). o.req)
    (joined v.history c.args.moment c.args.ask.kind c.args.ask.target) ≡ Some c.args.lead.0)
    (sym c.self.view_is) c.requires.leads in
    let room : RoomFor p 2 = subst (λ (v : Parted). RoomFor v 2) (sym c.self.view_is) c.requires.room in
    let places : owed p.history + 1 ≤ p.queue.spare =
    subst (λ (v : Parted). owed v.history + 1 ≤ v.queue.spare) (sym c.self.view_is) c.requires.places in
    let request_is : c.in_ok-request.request ≡ request = c.in_ok-request.ensures ∙ c.into_request.ensures in
    between-joined c.args.moment request p rests q
    (record {
      history = c.push.ensures.history ∙ ap (λ (r : Request). entry c.args.moment (Event.Ask r) ∷ p.history) request_is;
      limit = c.push.ensures.limit;
    })
    ordered led room
    (c.in_ok-join.ensures.ok p.history c.args.moment request refl refl rests.between.lawful rests.between.stands
    (ordered-next request p.history ordered)
    (joined-open p.history c.args.moment c.args.ask.kind c.args.ask.target c.args.lead.0 led))
    (c.join.ensures.at c.args.moment rests.between.at) c.join.ensures.waits refl places
