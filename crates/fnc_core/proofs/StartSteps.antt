-- The parts after a start: they rest again.
use Rattle.std.proofs.Common.{
  ℕ,
  List,
  [],
  ◌∷◌,
  ◌++◌,
  Bool,
  true,
  false,
  ◌≡◌,
  ◌≤◌,
  ◌+◌,
  ◌==◌,
  ◌||◌,
  refl,
  ap,
  ap₂,
  sym,
  ◌∙◌,
  subst,
  Option,
  Some,
  None,
  cond,
  arith,
  length,
  is_some,
  eqb-true,
  eq-eqb,
  ne_eqb,
}
use Rattle.std.specs.Prelude.{find, filter, option_map, option_and_then}
use Rattle.std.specs.List.{list_any}
use Rattle.fnc_journal.specs.declared.event.Start.{Start}
use Rattle.fnc_journal.specs.declared.event.Event.{Event}
use Rattle.fnc_journal.specs.declared.entry.Kind.{Kind}
use Rattle.fnc_journal.specs.declared.entry.Run.{Run}
use Rattle.fnc_journal.specs.declared.entry.Slot.{Slot}
use Rattle.fnc_journal.specs.declared.definition.Registration.{Registration}
use Rattle.fnc_journal.specs.History.{History}
use Rattle.fnc_journal.specs.Found.{starts, registration}
use Rattle.fnc_journal.specs.Registered.{lane}
use Rattle.fnc_journal.specs.Slots.{Operation}
use Rattle.fnc_journal.specs.Acts.{acts, runs}
use Rattle.fnc_journal.specs.Operations.{open_operations, settled}
use Rattle.fnc_journal.specs.Startable.{Begun, Startable, alive_runs, first}
use Rattle.fnc_journal.specs.Owed.{owed}
use Rattle.fnc_journal.specs.Lawful.{LawfulEntry}
use Rattle.fnc_journal.proofs.LawfulSteps.{lawful-start}
use Rattle.fnc_journal.proofs.Running.{alive_runs-start}
use Rattle.fnc_queue.specs.declared.waiting.Waiting.{Waiting}
use Rattle.fnc_queue.specs.Items.{item_of, is_waiting, Changes}
use Rattle.fnc_queue.specs.Lanes.{CountsOneMore}
use Rattle.fnc_queue.specs.Queued.{Queued}
use Rattle.fnc_ops.specs.Kept.{Kept}
use Rattle.fnc_records.specs.KeptOperation.{KeptOperation}
use Rattle.fnc_ops.specs.OpsRecords.{waiting, is_of, OthersWait}
use Rattle.fnc_ops.specs.Stands.{StandsFor, AreAt, AwaitsTry, try_of, start_entry}
use Rattle.fnc_ops.proofs.AliveCounts.{alive-started}
use Rattle.fnc_ops.proofs.Apart.{AreApart}
use Rattle.fnc_core.specs.Between.{Rests}
use Rattle.fnc_core.specs.Parted.{Parted}
use Rattle.fnc_core.proofs.KnownFew.{knows-undevice}
use Rattle.fnc_core.specs.Wanted.{Waits, Lanes, HasPlaces, held, wanted, item_for}
use Rattle.fnc_core.proofs.KnownTasks.{IsKnown, defined}
use Rattle.fnc_core.proofs.HeldOpen.{held-stands}
use Rattle.fnc_core.proofs.Places.{number, held-all, held-others, records-apart}
use Rattle.fnc_core.proofs.Resting.{rests-pending, rests-come}
use Rattle.fnc_core.proofs.FirstStarts.{IsStartOf}
use Rattle.fnc_core.proofs.NextStarts.{try_for}

-- one more run of its lane is alive
length-end : {X : Type 0} (p : X → Bool) (xs : List X) (x : X) →
    length (filter p (xs ++ x ∷ [])) ≡ cond (p x) (length (filter p xs) + 1) (length (filter p xs))
length-end p [] x = go (p x)
  where
    go : (b : Bool) → length (cond b (x ∷ []) []) ≡ cond b (0 + 1) 0
    go true = omega arith
    go false = refl
length-end p (y ∷ ys) x = go (p y) (p x) (length-end p ys x)
  where
    go : (b c : Bool) → length (filter p (ys ++ x ∷ [])) ≡ cond c (length (filter p ys) + 1) (length (filter p ys)) →
        length (cond b (y ∷ filter p (ys ++ x ∷ [])) (filter p (ys ++ x ∷ []))) ≡ cond c
        (length (cond b (y ∷ filter p ys) (filter p ys)) + 1) (length (cond b (y ∷ filter p ys) (filter p ys)))
    go true true e = omega (arith, e)
    go true false e = omega (arith, e)
    go false c e = e

-- one less at most has an item where one operation's item went
held-gone : (n : ℕ) (before after : List Waiting) → Changes n None before after → (rs : List KeptOperation) →
    AreApart number rs → held rs before ≤ held rs after + 1
held-gone n before after c rs a = go (list_any (is_of n) rs) refl
  where
    at_most : (b d : Bool) → held rs after + cond b 1 0 ≡ held rs before + cond d 1 0 →
        held rs before ≤ held rs after + 1
    at_most true true e = omega (arith, e)
    at_most true false e = omega (arith, e)
    at_most false true e = omega (arith, e)
    at_most false false e = omega (arith, e)

    go : (b : Bool) → list_any (is_of n) rs ≡ b → held rs before ≤ held rs after + 1
    go true e = at_most (is_waiting n before) (is_waiting n after) (held-all n None before after c rs a e)
    go false e = let same : held rs after ≡ held rs before =
        held-others n None before after c rs e in omega (arith, same)

-- a start in other words
start-as : (h : History) (m : ℕ) (run : Run) (n k : ℕ) (a b : Slot) (i j : ℕ) (x y : Kind) (c d : ℕ) → n ≡ k → a ≡ b →
    i ≡ j → x ≡ y → c ≡ d →
    LawfulEntry (record {
      moment = m;
      event =
          Event.Start (record {
            run = run;
            req = record { 0 = n };
            slot = a;
            reg = record { 0 = i };
            kind = x;
            attempt =
                c;
          });
    }) h →
    LawfulEntry (record {
      moment = m;
      event =
          Event.Start (record {
            run = run;
            req = record { 0 = k };
            slot = b;
            reg = record { 0 = j };
            kind = y;
            attempt =
                d;
          });
    }) h
start-as h m run n k a b i j x y c d p q r s t l =
    subst (λ (z : ℕ). LawfulEntry (record {
      moment = m;
      event =
          Event.Start (record {
            run = run;
            req = record { 0 = k };
            slot = b;
            reg = record { 0 = j };
            kind = y;
            attempt =
                z;
          });
    }) h) t
    (subst (λ (z : Kind). LawfulEntry (record {
      moment = m;
      event = Event.Start (record
          { run = run; req = record { 0 = k }; slot = b; reg = record { 0 = j }; kind = z; attempt = c });
    }) h) s
    (subst (λ (z : ℕ). LawfulEntry (record {
      moment = m;
      event =
          Event.Start (record {
            run = run;
            req = record { 0 = k };
            slot = b;
            reg = record { 0 = z };
            kind = x;
            attempt =
                c;
          });
    }) h) r
    (subst (λ (z : Slot). LawfulEntry (record {
      moment = m;
      event = Event.Start (record
          { run = run; req = record { 0 = k }; slot = z; reg = record { 0 = i }; kind = x; attempt = c });
    }) h) q
    (subst (λ (z : ℕ). LawfulEntry (record {
      moment = m;
      event =
          Event.Start (record {
            run = run;
            req = record { 0 = z };
            slot = a;
            reg = record { 0 = i };
            kind = x;
            attempt =
                c;
          });
    }) h) p l))))

-- the operation of the first item waits for the try of the first start
pub awaits-start : (h : History) (m : ℕ) (item : Waiting) (s : Startable) → IsStartOf h m item s → (n : ℕ) →
    n ≡ s.operation.req → AwaitsTry h m n (try_for s)
awaits-start h m item s k n e =
    ap (λ i. option_and_then (try_of h m) (find (λ (o : Operation). o.req == i) (open_operations h))) (e ∙ sym k.number)
    ∙ ap (option_and_then (try_of h m)) k.found
    ∙ k.awaits

known-registered : (h : History) (s : Startable) → IsKnown h s.task → is_some (registration s.task.reg h) ≡ true
known-registered h s k = go (registration s.task.reg h) k
  where
    go : (x : Option Registration) → defined x ≡ Some s.task.definition → is_some x ≡ true
    go None f = cc
    go (Some r) f = refl

-- what is known of a start that was made: the queue and the records have it
pub record IsMade (m : ℕ) (p : Parted) (start : Start) (item : Waiting) (s : Startable) (v : Kept)
    (q : Queued) : Type 0 where
  pub rests : Rests m p
  pub number : start.run.0 ≡ starts p.history
  pub is_first : first p.history m ≡ Some s
  pub is_start : IsStartOf p.history m item s
  pub req_is : start.req.0 ≡ s.operation.req
  pub slot_is : start.slot ≡ s.task.slot
  pub reg_is : start.reg.0 ≡ s.task.reg
  pub kind_is : start.kind ≡ s.task.kind
  pub attempt_is : start.attempt ≡ runs s.task.slot (acts s.operation.req p.history) + 1
  pub stands : StandsFor v (start_entry m start ∷ p.history)
  pub at : AreAt m v.operations
  pub settled_after : settled (start_entry m start ∷ p.history) m ≡ true
  pub waits : waiting start.req.0 v.operations ≡ None
  pub others : OthersWait start.req.0 p.ops v
  pub owes : owed (start_entry m start ∷ p.history) + 1 ≡ owed p.history
  pub changes : Changes item.req.0 None p.queue.waiting q.waiting
  pub counts : CountsOneMore item.lane.0 p.queue.alive q.alive
  pub spare : q.spare ≡ p.queue.spare

module _ (m : ℕ) (p : Parted) (start : Start) (item : Waiting) (s : Startable) (v : Kept) (q : Queued)
    (made : IsMade m p start item s v q) where
  abbrev after : History
  after = start_entry m start ∷ p.history

  same-number : item.req.0 ≡ start.req.0
  same-number = made.is_start.number ∙ sym made.req_is

  lawful-after : LawfulEntry (start_entry m start) p.history
  lawful-after =
      start-as p.history m start.run s.operation.req start.req.0 s.task.slot start.slot s.task.reg start.reg.0
      s.task.kind start.kind (runs s.task.slot (acts s.operation.req p.history) + 1) start.attempt
      (sym made.req_is) (sym made.slot_is) (sym made.reg_is) (sym made.kind_is) (sym made.attempt_is)
      (lawful-start p.history m start.run s (rests-come m p made.rests) made.number made.is_first
      (ap is_some made.is_start.open_is) (known-registered p.history s made.is_start.known)
      (rests-pending m p made.rests))

  stands-after : StandsFor v after
  stands-after = made.stands

  owes-after : owed after + 1 ≡ owed p.history
  owes-after = made.owes

  waits-after : Waits after v q
  waits-after n = made.changes n ∙ go (item.req.0 == n) refl
    where
      go : (b : Bool) → (item.req.0 == n) ≡ b → cond b None (item_of n p.queue.waiting) ≡ wanted after n v
      go true e =
          let same : start.req.0 ≡ n = sym same-number ∙ eqb-true item.req.0 n e in
          sym (ap (option_map (item_for p.history n)) (ap (λ i. waiting i v.operations) (sym same) ∙ made.waits))
      go false e =
          let other : (n == start.req.0) ≡ false =
          ne_eqb n start.req.0 (λ g. differs (eq-eqb item.req.0 n (same-number ∙ sym g))) in
          made.rests.between.waits n ∙ sym (ap (option_map (item_for p.history n)) (made.others n other))
        where
          differs : (item.req.0 == n) ≡ true → ⊥
          differs g = let both : true ≡ false = sym g ∙ e in cc

  alive-after : alive_runs after ≡ alive_runs p.history ++ record { run = start.run.0; reg = start.reg.0 } ∷ []
  alive-after = alive_runs-start p.history made.rests.between.lawful m start made.number

  lanes-after : Lanes after q
  lanes-after l =
      made.counts l
      ∙ ap₂ (λ (i k : ℕ). cond (i == l) (k + 1) k)
      (made.is_start.lane_is ∙ ap (λ i. lane i p.history) (sym made.reg_is)) (made.rests.between.lanes l)
      ∙ sym (length-end (λ (b : Begun). lane b.reg p.history == l) (alive_runs p.history)
      (record { run = start.run.0; reg = start.reg.0 }))
      ∙ ap (λ bs. length (filter (λ (b : Begun). lane b.reg p.history == l) bs)) (sym alive-after)

  places-after : HasPlaces after v q
  places-after =
      let less = held-gone item.req.0 p.queue.waiting q.waiting made.changes p.ops.operations
      (records-apart p.history p.ops made.rests.between.lawful made.rests.between.stands) in
      let old = held-stands p.history q.waiting p.ops.operations
      (open_operations p.history) made.rests.between.stands.each in
      let new = held-stands after q.waiting v.operations (open_operations p.history) stands-after.each in
      let more = alive-started p.history made.rests.between.lawful m start made.number in
      let had : owed p.history ≤ p.queue.spare + held p.ops.operations p.queue.waiting + length (alive_runs p.history) =
      made.rests.between.has_places in
      let most : owed after ≤ q.spare + held v.operations q.waiting + length (alive_runs after) =
      omega (arith, less, old, new, more, had, owes-after, made.spare) in
      most

  pub rests-after : Rests m (record { history = after; limit = p.limit; ops = v; queue = q })
  rests-after = record {
    between = record {
      lawful = (lawful-after, made.rests.between.lawful);
      calm = (made.rests.settled_now, made.rests.between.calm);
      small = made.rests.between.small;
      came = omega arith;
      early = made.rests.between.early;
      bounded = made.rests.between.bounded;
      few = knows-undevice m (Event.Start start) p.history refl made.rests.between.few tt;
      stands = stands-after;
      at = made.at;
      waits = waits-after;
      lanes = lanes-after;
      has_places = places-after;
      room = let room = made.rests.between.room in omega (arith, room, owes-after);
      continues = tt;
      settled_then = ap (λ b. b || settled after m) (eq-eqb m m refl);
    };
    settled_now = made.settled_after;
  }
