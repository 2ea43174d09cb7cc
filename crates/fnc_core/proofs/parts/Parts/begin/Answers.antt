-- The parts with a request that began an operation, and without memory for it.
use Rattle.std.proofs.Common.{◌∷◌, ◌≡◌, ◌≤◌, ◌+◌, ◌*◌, ◌∙◌, ap, subst, sym, arith, length, true, None}
use Rattle.fnc_journal.specs.declared.event.Request.{Request}
use Rattle.fnc_journal.specs.declared.event.Event.{Event}
use Rattle.fnc_journal.specs.History.{History}
use Rattle.fnc_journal.specs.Lawful.{in_order}
use Rattle.fnc_journal.specs.Operations.{joined}
use Rattle.fnc_journal.specs.Owed.{owed, tries_of}
use Rattle.fnc_journal.specs.Slots.{all_slots}
use Rattle.fnc_ops.specs.declared.ops.Operation.{Operation as Begun}
use Rattle.fnc_ops.specs.FreshRecords.{begun_by}
use Rattle.fnc_ops.specs.OpsRecords.{OthersWait}
use Rattle.fnc_ops.specs.Stands.{StandsFor, AreAt, ask_entry, begun_request}
use Rattle.fnc_queue.specs.Items.{Changes}
use Rattle.fnc_core.specs.Between.{Rests, RoomFor, IsPlanOf, need_of, tries_with, operation_asked, entry, request_of}
use Rattle.fnc_core.specs.Parted.{Parted}
use Rattle.fnc_core.specs.Wanted.{wanted, one_if_held}
use Rattle.fnc_core.proofs.AskedParts.{between-begun}
use Rattle.fnc_core.proofs.KnownFew.{planned-candidates, planned-devices}
use Rattle.fnc_core.proofs.parts.Parts.begin.Goals as goal

pub begin-requires-clause-bounded : goal.begin-requires-clause-bounded
begin-requires-clause-bounded c =
    (subst (λ (v : Parted). Rests c.args.moment v) (sym c.self.view_is) c.requires.rests).between.bounded

pub begin-requires-clause-few_candidates : goal.begin-requires-clause-few_candidates
begin-requires-clause-few_candidates c =
    planned-candidates c.args.self.now.history c.args.moment c.args.ask.kind c.args.ask.target c.args.plan
    c.requires.rests.between.few
    c.requires.planned

pub begin-requires-clause-few_devices : goal.begin-requires-clause-few_devices
begin-requires-clause-few_devices c =
    planned-devices c.args.self.now.history c.args.moment c.args.ask.kind c.args.ask.target c.args.plan
    c.requires.rests.between.few
    c.requires.planned

pub begin-requires-clause-tries : goal.begin-requires-clause-tries
begin-requires-clause-tries c =
    subst (λ (o : Begun). c.args.tries ≡ tries_of
    (all_slots (begun_by o c.args.plan c.self.inside.journal.history))) (sym c.in_ok-operation.ensures)
    (subst (λ (v : Parted). c.args.tries ≡ tries_with v.history c.args.moment c.args.req c.args.ask c.args.plan)
    (sym c.self.view_is) c.requires.tries)

pub returns-clause-between : goal.returns-clause-between
returns-clause-between c =
    let p : Parted = record {
      history = c.self.inside.journal.history;
      limit = c.self.inside.journal.limit;
      ops = c.self.inside.ops;
      queue = c.self.inside.queue;
    } in
    let q : Parted = record {
      history = c.push.new.self.history;
      limit = c.push.new.self.limit;
      ops = c.begin.new.self;
      queue = c.requeue.new.queue;
    } in
    let r : Begun = operation_asked c.args.moment c.args.req c.args.ask in
    let event : Event = Event.Ask (request_of c.args.req c.args.req c.args.ask c.args.plan.scope) in
    let own : c.in_ok-operation.operation ≡ r = c.in_ok-operation.ensures in
    let rests : Rests c.args.moment p = subst (λ (v : Parted). Rests c.args.moment v)
    (sym c.self.view_is) c.requires.rests in
    let ordered : in_order event p.history ≡ true =
    subst (λ (v : Parted). in_order event v.history ≡ true) (sym c.self.view_is) c.requires.ordered in
    let led : joined p.history r.moment r.kind r.target ≡ None =
    subst (λ (v : Parted). joined v.history r.moment r.kind r.target ≡ None) (sym c.self.view_is) c.requires.leads in
    let planned : IsPlanOf p.history r.moment r.kind r.target c.args.plan =
    subst (λ (v : Parted). IsPlanOf v.history r.moment r.kind r.target c.args.plan)
    (sym c.self.view_is) c.requires.planned in
    let left : length p.history + owed p.history + (2 + 2 * tries_of (all_slots (begun_by r c.args.plan p.history)))
    ≤ p.limit =
    subst (λ (v : Parted). RoomFor v (need_of v.history c.args.moment c.args.req c.args.ask c.args.plan))
    (sym c.self.view_is) c.requires.room in
    let spare : owed p.history + (2 + 2 * tries_of (all_slots (begun_by r c.args.plan p.history))) ≤ p.queue.spare =
    subst (λ (v : Parted). owed v.history + need_of v.history c.args.moment c.args.req c.args.ask c.args.plan
    ≤ v.queue.spare) (sym c.self.view_is) c.requires.places in
    let places : c.requeue.new.queue.spare + one_if_held r.req.0 c.requeue.new.queue.waiting ≡ p.queue.spare
    + one_if_held r.req.0 p.queue.waiting = c.requeue.ensures.places in
    let pushed : c.push.new.self.history ≡ entry r.moment event ∷ p.history =
    c.push.ensures.history ∙ ap (λ (q : Request). entry r.moment (Event.Ask q) ∷ p.history)
    (c.in_ok-request.ensures ∙ c.into_request.ensures) in
    between-begun r c.args.plan c.args.ask.client p rests q (record { history = pushed; limit = c.push.ensures.limit })
    ordered led planned (omega (arith, left))
    (subst (λ (o : Begun). StandsFor c.begin.new.self
    (ask_entry o.moment (begun_request o c.args.ask.client c.args.plan.scope) ∷ p.history)) own
    (c.in_ok-begin.ensures.ok c.args.ask.client))
    (subst (λ (o : Begun). AreAt o.moment c.begin.new.self.operations) own c.in_ok-begin.ensures.at)
    (subst (λ (o : Begun). OthersWait o.req.0 p.ops c.begin.new.self) own c.begin.ensures.others)
    (subst (λ (h : History). Changes r.req.0 (wanted h r.req.0 c.begin.new.self) p.queue.waiting
    c.requeue.new.queue.waiting) pushed c.requeue.ensures.changes)
    c.requeue.ensures.alive
    (omega (arith, spare, places))
