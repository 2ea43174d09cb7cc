-- Room that is taken in the queue changes nothing else.
use Rattle.std.proofs.Common.{ℕ, ◌≡◌, ◌≤◌, ◌+◌, refl, ap, subst, sym, arith, length, max, Result, Ok, Err, OnErr}
use Rattle.std.specs.Prelude.{OnOk}
use Rattle.fnc_journal.specs.Owed.{owed}
use Rattle.fnc_journal.specs.Startable.{alive_runs}
use Rattle.fnc_queue.specs.Queued.{Queued, reserved}
use Rattle.fnc_core.specs.Between.{Between, Rests, Stays}
use Rattle.fnc_core.specs.Parted.{Parted}
use Rattle.fnc_core.specs.Wanted.{HasPlaces, held}

places-reserved : (n : ℕ) (p : Parted) → HasPlaces p.history p.ops p.queue →
    HasPlaces p.history p.ops (reserved n p.queue)
places-reserved n p h =
    let before : owed p.history ≤ p.queue.spare + held p.ops.operations p.queue.waiting + length
    (alive_runs p.history) = h in
    let now : owed p.history ≤ max p.queue.spare n + held p.ops.operations p.queue.waiting + length
    (alive_runs p.history) = omega (arith, before) in
    now

between-reserved : (m n : ℕ) (p : Parted) → Between m p → Between m (record p { queue = reserved n p.queue })
between-reserved m n p b = record {
  lawful = b.lawful;
  calm = b.calm;
  small = b.small;
  came = b.came;
  early = b.early;
  bounded = b.bounded;
  few = b.few;
  stands = b.stands;
  at = b.at;
  waits = b.waits;
  lanes = b.lanes;
  has_places = places-reserved n p b.has_places;
  room = b.room;
  continues = b.continues;
  settled_then = b.settled_then;
}

pub stays-reserved : (m n : ℕ) (p : Parted) (q : Queued) → Rests m p → q ≡ reserved n p.queue →
    Stays m p (record p { queue = q })
stays-reserved m n p q r e = subst (λ (u : Queued). Stays m p (record p { queue = u })) (sym e) (record {
  rests = record { between = between-reserved m n p r.between; settled_now = r.settled_now };
  history = refl;
  limit = refl;
  ops = refl;
})

-- where there was no room nothing changed either
pub stays-either : {T E : Type 0} (m n : ℕ) (p : Parted) (q : Queued) (r : Result T E) → Rests m p →
    OnOk r (q ≡ reserved n p.queue) → OnErr r (q ≡ p.queue) → Stays m p (record p { queue = q })
stays-either m n p q (Ok x) rests taken kept = stays-reserved m n p q rests taken
stays-either m n p q (Err e) rests taken kept =
    subst (λ (u : Queued). Stays m p (record p { queue = u })) (sym kept)
    (record { rests = rests; history = refl; limit = refl; ops = refl })

pub places-either : {T E : Type 0} (n : ℕ) (old q : Queued) (r : Result T E) → OnOk r (q ≡ reserved n old) →
    OnOk r (n ≤ q.spare)
places-either n old q (Ok x) taken =
    let spare : q.spare ≡ max old.spare n = ap (λ (u : Queued). u.spare) taken in
    omega (arith, spare)
places-either n old q (Err e) taken = tt
