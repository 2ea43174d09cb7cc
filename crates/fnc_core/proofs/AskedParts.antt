-- The parts after a request, where the records stand for the journal with it and the queue holds what is then wanted.
use Rattle.std.proofs.Common.{ℕ, List, ◌∷◌, Bool, true, false, ◌≡◌, ◌≤◌, ◌+◌, ◌==◌, ◌||◌, refl, ap, sym, ◌∙◌, subst, arith, length, eq-eqb, eqb-true, ne_eqb, cond, ◌*◌, Option, Some, None}
use Rattle.std.specs.Prelude.{option_map, unwrap_or}
use Rattle.fnc_journal.specs.declared.limits.TheConstants.{GREATEST_JOURNAL}
use Rattle.fnc_journal.specs.declared.event.Request.{Request}
use Rattle.fnc_journal.specs.declared.event.Event.{Event}
use Rattle.fnc_journal.specs.declared.plan.Plan.{Plan}
use Rattle.fnc_journal.specs.History.{History}
use Rattle.fnc_journal.specs.Plan as Planned
use Rattle.fnc_journal.specs.Found.{asks}
use Rattle.fnc_journal.specs.Lawful.{in_order, leads}
use Rattle.fnc_journal.specs.Operations.{settled, joined}
use Rattle.fnc_journal.specs.Slots.{Operation, all_slots}
use Rattle.fnc_journal.specs.Owed.{owed, tries_of}
use Rattle.fnc_journal.proofs.Lawfulness.{and-left}
use Rattle.fnc_ops.specs.declared.ops.Operation.{Operation as Begun}
use Rattle.fnc_ops.specs.FreshRecords.{begun_by, wanted_by}
use Rattle.fnc_ops.specs.Kept.{Kept}
use Rattle.fnc_ops.specs.OpsRecords.{AllWait, OthersWait}
use Rattle.fnc_ops.specs.Stands.{StandsFor, AreAt, begun_request}
use Rattle.fnc_queue.specs.Lanes.{lane_count}
use Rattle.fnc_queue.specs.declared.waiting.Waiting.{Waiting}
use Rattle.fnc_queue.specs.Items.{item_of, is_waiting, Changes}
use Rattle.fnc_queue.specs.Queued.{Queued}
use Rattle.fnc_core.specs.Between.{Between, Rests, Adds, RoomFor, entry}
use Rattle.fnc_core.specs.Parted.{Parted}
use Rattle.fnc_core.proofs.KnownFew.{knows-undevice}
use Rattle.fnc_core.specs.Wanted.{Waits, item_for, wanted, one_if_held}
use Rattle.fnc_core.proofs.OwedAsks.{joined-open, owed-joined, owed-begun}
use Rattle.fnc_core.proofs.Resting.{lawful-entered}

-- a request in order has the next number
pub ordered-next : (q : Request) (h : History) → in_order (Event.Ask q) h ≡ true → q.req.0 ≡ asks h
ordered-next q h i = eqb-true q.req.0 (asks h) (and-left _ _ (and-left _ _ (and-left _ _ (and-left _ _ i))))

module _ (m : ℕ) (request : Request) (p : Parted) (rests : Rests m p) where
  abbrev event : Event
  event = Event.Ask request

  abbrev after : History
  after = entry m event ∷ p.history

  pub between-asked : (q : Parted) → Adds m event p q → in_order event p.history ≡ true →
      leads event m p.history ≡ true → StandsFor q.ops after → AreAt m q.ops.operations →
      Waits after q.ops q.queue → q.queue.alive ≡ p.queue.alive → owed after ≤ q.queue.spare →
      length p.history + owed after + 1 ≤ p.limit → Between m q
  between-asked q a ordered led s at w alive spare room =
      subst (λ (h : History). Between m (record { history = h; limit = q.limit; ops = q.ops; queue = q.queue }))
      (sym a.history) made
    where
      made : Between m (record { history = after; limit = q.limit; ops = q.ops; queue = q.queue })
      made = record {
        lawful = lawful-entered m p rests event refl ordered refl led;
        calm = (refl, rests.between.calm);
        small = let limit : q.limit ≡ p.limit = a.limit in let small : p.limit ≤ GREATEST_JOURNAL =
            rests.between.small in omega (arith, limit, small);
        came = omega arith;
        early = rests.between.early;
        bounded = rests.between.bounded;
        few = knows-undevice m event p.history refl rests.between.few tt;
        stands = s;
        at = at;
        waits = w;
        lanes = λ l. ap (lane_count l) alive ∙ rests.between.lanes l;
        has_places = omega (arith, spare);
        room = let limit : q.limit ≡ p.limit = a.limit in let now : length after + owed after ≤ q.limit =
            omega (arith, limit, room) in now;
        continues = tt;
        settled_then = ap (λ b. b || settled after m) (eq-eqb m m refl);
      }

  -- where it joins an operation, and the queue has a place for what is owed with it
  pub between-joined : (q : Parted) → Adds m event p q → in_order event p.history ≡ true →
      option_map (λ (o : Operation). o.req) (joined p.history m request.kind request.target) ≡ Some request.lead.0 →
      RoomFor p 2 → StandsFor q.ops after → AreAt m q.ops.operations → AllWait p.ops q.ops → q.queue ≡ p.queue →
      owed p.history + 1 ≤ p.queue.spare → Between m q
  between-joined q a ordered led room s at w same places =
      between-asked q a ordered (rw led (eq-eqb request.lead.0 request.lead.0 refl)) s at
      (λ n. ap (λ (u : Queued). item_of n u.waiting) same ∙ rests.between.waits n
      ∙ sym (ap (option_map (item_for after n)) (w n)))
      (ap (λ (u : Queued). u.alive) same)
      (let more : owed after ≤ owed p.history + 1 = owes in
      let spare : q.queue.spare ≡ p.queue.spare = ap (λ (u : Queued). u.spare) same in
      omega (arith, more, spare, places))
      (let more : owed after ≤ owed p.history + 1 = owes in
      let left : length p.history + owed p.history + 2 ≤ p.limit = room in
      omega (arith, more, left))
    where
      owes : owed after ≤ owed p.history + 1
      owes = owed-joined p.history rests.between.lawful m request (ordered-next request p.history ordered)
          (joined-open p.history m request.kind request.target request.lead.0 led)

one-most : (req : ℕ) (items : List Waiting) → one_if_held req items ≤ 1
one-most req items = go (is_waiting req items)
  where
    go : (b : Bool) → cond b 1 0 ≤ 1
    go true = omega arith
    go false = omega arith

-- an operation that begins has its item in a queue that had room for what is owed with it
module _ (r : Begun) (plan : Plan) (client : List ℕ) (p : Parted) (rests : Rests r.moment p) where
  abbrev event_begun : Event
  event_begun = Event.Ask (begun_request r client plan.scope)

  abbrev after_begun : History
  after_begun = entry r.moment event_begun ∷ p.history

  -- the queue before, with room
  abbrev room_begun : ℕ
  room_begun = owed p.history + (2 + 2 * tries_of (all_slots (begun_by r plan p.history)))

  waits-begun : (v : Kept) (q : Queued) → OthersWait r.req.0 p.ops v →
      Changes r.req.0 (wanted after_begun r.req.0 v) p.queue.waiting q.waiting → Waits after_begun v q
  waits-begun v q others changes n = changes n ∙ go (r.req.0 == n) refl
    where
      go : (b : Bool) → (r.req.0 == n) ≡ b → cond b (wanted after_begun r.req.0 v)
          (item_of n p.queue.waiting) ≡ wanted after_begun n v
      go true e = ap (λ k. wanted after_begun k v) (eqb-true r.req.0 n e)
      go false e = rests.between.waits n ∙ sym
          (ap (option_map (item_for after_begun n))
          (others n (ne_eqb n r.req.0 (λ g. other e (eq-eqb r.req.0 n (sym g))))))
        where
          other : (r.req.0 == n) ≡ false → (r.req.0 == n) ≡ true → ⊥
          other a b = cc

  pub between-begun : (q : Parted) → Adds r.moment event_begun p q → in_order event_begun p.history ≡ true →
      joined p.history r.moment r.kind r.target ≡ None → plan ≡ Planned.plan (wanted_by r plan.scope) p.history →
      length p.history + room_begun ≤ p.limit → StandsFor q.ops after_begun → AreAt r.moment q.ops.operations →
      OthersWait r.req.0 p.ops q.ops →
      Changes r.req.0 (wanted after_begun r.req.0 q.ops) p.queue.waiting q.queue.waiting →
      q.queue.alive ≡ p.queue.alive → room_begun ≤ q.queue.spare + one_if_held r.req.0 q.queue.waiting →
      Between r.moment q
  between-begun q a ordered led planned room s at others changes alive spare =
      between-asked r.moment (begun_request r client plan.scope) p rests q a ordered
      (ap (λ (x : Option Operation). r.req.0 == unwrap_or (option_map (λ (o : Operation). o.req) x) r.req.0) led
      ∙ eq-eqb r.req.0 r.req.0 refl)
      s at (waits-begun q.ops q.queue others changes) alive
      (let one : one_if_held r.req.0 q.queue.waiting ≤ 1 =
      one-most r.req.0 q.queue.waiting in omega (arith, owes, one, spare))
      (omega (arith, owes, room))
    where
      owes : owed after_begun ≡ owed p.history + 1 + 2 * tries_of (all_slots (begun_by r plan p.history))
      owes = owed-begun r plan p.history client rests.between.lawful
          (ordered-next (begun_request r client plan.scope) p.history ordered) planned rests.between.bounded
