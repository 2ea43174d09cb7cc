-- After the reply that is due first the records and the queue are again those of the journal, there is room for what
-- is still owed, and the replies that must follow go to the same operation.
use Rattle.std.proofs.Common.{
  ℕ,
  ◌∷◌,
  Bool,
  true,
  false,
  ◌≡◌,
  ◌==◌,
  ◌≤◌,
  ◌<◌,
  ◌+◌,
  refl,
  ap,
  sym,
  ◌∙◌,
  subst,
  arith,
  length,
  cond,
  Option,
  Some,
  None,
  is_some,
  eqb-true,
  eq-eqb,
  ne_eqb,
  false-eqb,
}
use Rattle.std.specs.Prelude.{filter, option_map}
use Rattle.fnc_journal.specs.declared.entry.Req.{Req}
use Rattle.fnc_journal.specs.declared.event.Event.{Event}
use Rattle.fnc_journal.specs.History.{History}
use Rattle.fnc_journal.specs.Missing.{first_of}
use Rattle.fnc_journal.specs.Slots.{Operation}
use Rattle.fnc_journal.specs.Operations.{first_due, due_to, is_open, open_operations, unanswered}
use Rattle.fnc_journal.specs.Owed.{owed}
use Rattle.fnc_journal.specs.Startable.{alive_runs}
use Rattle.fnc_journal.specs.Lawful.{Lawful}
use Rattle.fnc_journal.proofs.Each.{each-map}
use Rattle.fnc_journal.proofs.Closing.{is_open-reply}
use Rattle.fnc_journal.proofs.Requests.{IsLed}
use Rattle.fnc_ops.specs.declared.ops.Due.{Due}
use Rattle.fnc_ops.specs.Kept.{Kept}
use Rattle.fnc_ops.specs.OpsRecords.{OthersWait}
use Rattle.fnc_ops.specs.Stands.{AreAt, IsFirstDue, StandsFor, next_of, reply_entry}
use Rattle.fnc_ops.proofs.OpenOperations.{each-open, open-apart}
use Rattle.fnc_ops.proofs.StandsReplies.{open-reply}
use Rattle.fnc_queue.specs.Items.{Changes, is_waiting, item_of}
use Rattle.fnc_queue.specs.Lanes.{lane_count}
use Rattle.fnc_queue.specs.Queued.{Queued}
use Rattle.fnc_core.specs.Between.{Between}
use Rattle.fnc_core.specs.Parted.{Parted}
use Rattle.fnc_core.proofs.KnownFew.{knows-undevice}
use Rattle.fnc_core.specs.Wanted.{HasPlaces, Waits, held, item_for, one_if_held, wanted}
use Rattle.fnc_core.proofs.DueFirst.{
  due-open,
  next-due,
  later,
  first-is,
  has-first,
  waiting-led,
  lawful-due,
  continues-replied,
}
use Rattle.fnc_core.proofs.OwedFalls.{owed-reply}
use Rattle.fnc_core.proofs.HeldOpen.{held-stands, held-filter, held_of, OthersPass}
use Rattle.fnc_core.proofs.Places.{place-wanted, places-requeued, records-apart}

-- the operation to which this answer is due first
pub record IsDueFirst (h : History) (m : ℕ) (d : Due) : Type 0 where
  pub operation : Operation
  pub first : first_due h m ≡ Some operation
  pub req : operation.req ≡ d.req.0
  pub answer : due_to h m operation ≡ Some d.answer

pub due-first : (h : History) (m : ℕ) (d : Due) → IsFirstDue h m (Some d) (first_due h m) → IsDueFirst h m d
due-first h m d i = go (first_due h m) refl i
  where
    go : (x : Option Operation) → first_due h m ≡ x → IsFirstDue h m (Some d) x → IsDueFirst h m d
    go None e k = absurd k
    go (Some o) e k = record { operation = o; first = e; req = k.0; answer = k.1 }

-- a request waits for it
pub request-waits : (h : History) (m : ℕ) (d : Due) → IsDueFirst h m d → next_of h d.req.0 ≡ None → ⊥
request-waits h m d i e =
    let none : first_of (unanswered i.operation.req h) ≡ None = sym (next-due h m i.operation i.first)
    ∙ ap (next_of h) i.req ∙ e in
    has-first (unanswered i.operation.req h) (due-open h m i.operation i.first) none

-- the least of them, and the others
pub waits-first : (h : History) (m : ℕ) (d : Due) (req : Req) → IsDueFirst h m d → next_of h d.req.0 ≡ Some req.0 →
    unanswered d.req.0 h ≡ req.0 ∷ later (unanswered d.req.0 h)
waits-first h m d req i e =
    let least : first_of (unanswered i.operation.req h) ≡ Some req.0 = sym (next-due h m i.operation i.first)
    ∙ ap (next_of h) i.req ∙ e in
    first-is (unanswered d.req.0 h) req.0 (ap (λ n. first_of (unanswered n h)) (sym i.req) ∙ least)

-- the parts as they were, with that operation
pub record IsGiven (m : ℕ) (p : Parted) (d : Due) : Type 0 where
  pub between : Between m p
  pub due : IsDueFirst p.history m d

pub given : (m : ℕ) (p now : Parted) (d : Due) → p ≡ now → Between m now →
    IsFirstDue now.history m (Some d) (first_due now.history m) → IsGiven m p d
given m p now d e b f = subst (λ (w : Parted). IsGiven m w d) (sym e)
    (record { between = b; due = due-first now.history m d f })

module _ (m : ℕ) (p : Parted) (d : Due) (g : IsGiven m p d) (req : Req)
    (n : next_of p.history d.req.0 ≡ Some req.0) where
  abbrev pub replied : History
  replied = reply_entry m req d.answer ∷ p.history

  waiting : unanswered d.req.0 p.history ≡ req.0 ∷ later (unanswered d.req.0 p.history)
  waiting = waits-first p.history m d req g.due n

  waiting-here : unanswered g.due.operation.req p.history ≡ req.0 ∷ later (unanswered d.req.0 p.history)
  waiting-here = ap (λ r. unanswered r p.history) g.due.req ∙ waiting

  led : IsLed p.history d.req.0 req.0
  led = waiting-led p.history g.between.lawful d.req.0 req.0 (later (unanswered d.req.0 p.history)) waiting

  owes-less : owed replied + 1 ≤ owed p.history
  owes-less = owed-reply p.history g.between.lawful m req.0 d.answer g.due.operation
      (later (unanswered d.req.0 p.history)) g.due.first waiting-here

  -- the journal has room for it
  pub reply-fits : length p.history < p.limit
  reply-fits = let less = owes-less in omega (arith, less, g.between.room)

  room-replied : length replied + owed replied ≤ p.limit
  room-replied = let less = owes-less in omega (arith, less, g.between.room)

  -- the other operations stay open
  others-open : OthersPass d.req.0 (λ (o : Operation). is_open o.req replied) (open_operations p.history)
  others-open = each-map _ _ (open_operations p.history) same (each-open p.history)
    where
      same : (o : Operation) → is_open o.req p.history ≡ true → (o.req == d.req.0) ≡ false →
          is_open o.req replied ≡ true
      same o e other =
          is_open-reply p.history g.between.lawful d.req.0 m req d.answer led o.req
          ∙ ap (λ c. cond c (is_open d.req.0 replied) (is_open o.req p.history)) other ∙ e

  module _ (v : Kept) (s : StandsFor v replied) where
    -- there is a place for each entry that is still owed
    places-replied : HasPlaces replied v p.queue
    places-replied =
        let before : held p.ops.operations p.queue.waiting ≡ held_of (open_operations p.history) p.queue.waiting =
        held-stands p.history p.queue.waiting p.ops.operations (open_operations p.history) g.between.stands.each in
        let after : held v.operations p.queue.waiting ≡ held_of (open_operations replied) p.queue.waiting =
        held-stands replied p.queue.waiting v.operations (open_operations replied) s.each in
        let left : held_of (open_operations replied) p.queue.waiting ≡ held_of
        (filter (λ (o : Operation). is_open o.req replied) (open_operations p.history)) p.queue.waiting =
        ap (λ os. held_of os p.queue.waiting) (open-reply p.history m req d.answer) in
        let most : held_of (open_operations p.history) p.queue.waiting ≤ held_of
        (filter (λ (o : Operation). is_open o.req replied) (open_operations p.history)) p.queue.waiting + 1 =
        held-filter d.req.0 (λ (o : Operation). is_open o.req replied) p.queue.waiting (open_operations p.history)
        (open-apart p.history g.between.lawful) others-open in
        let places : owed p.history ≤ p.queue.spare + held p.ops.operations p.queue.waiting + length
        (alive_runs p.history) = g.between.has_places in
        let less = owes-less in
        let same : length (alive_runs replied) ≡ length (alive_runs p.history) = refl in
        omega (arith, before, after, left, most, places, less, same)

    -- the operation has a place for its item
    pub place-replied : is_some (wanted p.history d.req.0 v) ≡ true → is_waiting d.req.0 p.queue.waiting ≡ false →
        0 < p.queue.spare
    place-replied = place-wanted replied v p.queue d.req.0 s places-replied

    module _ (at : AreAt m v.operations) (others : OthersWait d.req.0 p.ops v) (q : Queued)
        (changes : Changes d.req.0 (wanted p.history d.req.0 v) p.queue.waiting q.waiting)
        (alive : q.alive ≡ p.queue.alive) (places : q.spare + one_if_held d.req.0 q.waiting ≡ p.queue.spare
        + one_if_held d.req.0 p.queue.waiting) where
      waits-replied : Waits replied v q
      waits-replied r = changes r ∙ go (d.req.0 == r) refl
        where
          go : (c : Bool) → (d.req.0 == r) ≡ c → cond c (wanted p.history d.req.0 v)
              (item_of r p.queue.waiting) ≡ wanted p.history r v
          go true e = ap (λ k. wanted p.history k v) (eqb-true d.req.0 r e)
          go false e = g.between.waits r ∙ ap (option_map (item_for p.history r))
              (sym (others r (ne_eqb r d.req.0 (λ f. false-eqb d.req.0 r (sym e) (sym f)))))

      pub between-replied : Between m (record { history = replied; limit = p.limit; ops = v; queue = q })
      between-replied =
          let lawful : Lawful replied = (
            lawful-due p.history m req.0 g.due.operation d.answer (later (unanswered d.req.0 p.history))
                g.between.lawful (record { most = g.between.early; later = g.between.came })
                g.due.first g.due.answer waiting-here
                g.between.continues,
            g.between.lawful,
          ) in
          record {
            lawful = lawful;
            calm = (refl, g.between.calm);
            small = g.between.small;
            came = omega arith;
            early = g.between.early;
            bounded = g.between.bounded;
            few = knows-undevice m (Event.Reply (record { req = req; answer = d.answer })) p.history refl g.between.few
                tt;
            stands = s;
            at = at;
            waits = waits-replied;
            lanes = λ l. ap (lane_count l) alive ∙ g.between.lanes l;
            has_places = places-requeued replied v p.queue q d.req.0
                (records-apart replied v lawful s) places-replied changes places;
            room = room-replied;
            continues = continues-replied p.history m req d.answer g.due.operation g.due.first g.due.answer
                (subst (λ k. IsLed p.history k req.0) (sym g.due.req) led);
            settled_then = rw (eq-eqb m m refl) refl;
          }
