-- A slot's record stays what the acts say when a run of its operation starts or ends.
use Rattle.std.proofs.Common.{
  ℕ,
  List,
  ◌∷◌,
  Bool,
  true,
  false,
  ◌≡◌,
  ◌<◌,
  ◌+◌,
  ◌^◌,
  ◌==◌,
  refl,
  ap,
  ◌∙◌,
  Option,
  Some,
  None,
  cond,
  ◌&&◌,
  ◌||◌,
  nat_lt,
  min,
  arith,
}
use Rattle.std.proofs.lemmas.Bool.Decides.{nat_tests}
use Rattle.std.specs.Prelude.{option_map}
use Rattle.fnc_journal.specs.declared.entry.Slot.{Slot}
use Rattle.fnc_journal.specs.declared.entry.Exit.{Exit}
use Rattle.fnc_journal.specs.Exits.{is_success}
use Rattle.fnc_journal.specs.Missing.{or_here}
use Rattle.fnc_journal.specs.Same.{same_slot}
use Rattle.fnc_journal.specs.Slots.{Task, Operation, time, tries}
use Rattle.fnc_journal.specs.Acts.{Act, begun_at, limit, is_below, failed, runs}
use Rattle.fnc_records.specs.declared.slot.SlotRecord.{SlotRecord}
use Rattle.fnc_records.specs.SlotRecords.{capped, earlier_or, is_in_time, started, started_same, ended, ended_same}
use Rattle.fnc_records.specs.SlotFacts.{IsSlot}

-- what fits is not cut
pub capped_32 : (n : ℕ) → n < 2 ^ 32 → capped 32 n ≡ n
capped_32 n h = omega arith

pub capped_64 : (n : ℕ) → n < 2 ^ 64 → capped 64 n ≡ n
capped_64 n h = omega arith

earlier_is : (x : Option ℕ) (m : ℕ) → earlier_or x m ≡ or_here x (Some m)
earlier_is None m = refl
earlier_is (Some k) m = refl

-- the end after a start is that of the first start
end_started : (at : Option ℕ) (m k : ℕ) → earlier_or (option_map (λ b. b + k) at) (m + k) ≡ option_map (λ b. b + k)
    (or_here at (Some m))
end_started None m k = refl
end_started (Some b) m k = refl

started-same : (o : Operation) (r : SlotRecord) (t : Task) (m run : ℕ) (s : Slot) (xs : List Act) → IsSlot o xs r t →
    runs t.slot xs + 1 < 2 ^ 32 → m + time t < 2 ^ 64 → same_slot t.slot s ≡ true →
    IsSlot o (Act.Begun m run s ∷ xs) (started_same m r) t
started-same o r t m run s xs h few short e = record {
  slot = h.slot;
  reg = h.reg;
  kind = h.kind;
  time_is = h.time_is;
  tries_is = h.tries_is;
  delay_is = h.delay_is;
  runs_are = rw (e, h.runs_are) (capped_32 (runs t.slot xs + 1) (omega arith));
  failed_are = h.failed_are;
  succeeded = h.succeeded;
  listed = h.listed;
  end_is = rw (e, h.end_is, h.time_is, capped_64 (m + time t) short) (end_started (begun_at t.slot xs) m (time t));
  last_is = rw e refl;
  succeeded_at = h.succeeded_at;
  failed_at = h.failed_at;
}

started-other : (o : Operation) (r : SlotRecord) (t : Task) (m run : ℕ) (s : Slot) (xs : List Act) → IsSlot o xs r t →
    same_slot t.slot s ≡ false → IsSlot o (Act.Begun m run s ∷ xs) r t
started-other o r t m run s xs h e = record {
  slot = h.slot;
  reg = h.reg;
  kind = h.kind;
  time_is = h.time_is;
  tries_is = h.tries_is;
  delay_is = h.delay_is;
  runs_are = rw e h.runs_are;
  failed_are = h.failed_are;
  succeeded = h.succeeded;
  listed = h.listed;
  end_is = rw e h.end_is;
  last_is = rw e h.last_is;
  succeeded_at = h.succeeded_at;
  failed_at = h.failed_at;
}

-- a start, where the slot has had fewer runs than can be counted
pub slot-started : (o : Operation) (r : SlotRecord) (t : Task) (m run : ℕ) (s : Slot) (xs : List Act) →
    IsSlot o xs r t → runs t.slot xs + 1 < 2 ^ 32 → m + time t < 2 ^ 64 →
    IsSlot o (Act.Begun m run s ∷ xs) (started s m r) t
slot-started o r t m run s xs h few short = go (same_slot t.slot s) refl
  where
    go : (b : Bool) → same_slot t.slot s ≡ b → IsSlot o (Act.Begun m run s ∷ xs) (started s m r) t
    go true e = let same : same_slot r.slot s ≡ true = ap (λ k. same_slot k s) h.slot ∙ e in
        rw same (started-same o r t m run s xs h few short e)
    go false e = let same : same_slot r.slot s ≡ false = ap (λ k. same_slot k s) h.slot ∙ e in
        rw same (started-other o r t m run s xs h e)

below_min : (a m k : ℕ) → (nat_lt m a && nat_lt m k) ≡ nat_lt m (min a k)
below_min a m k = grind (arith, nat_tests)

in_time_is : (over m : ℕ) (end : Option ℕ) → is_in_time over m end ≡ is_below m (option_map (min over) end)
in_time_is over m None = refl
in_time_is over m (Some k) = below_min over m k

failed_at_is : (b : Bool) (x : Option ℕ) (m : ℕ) → cond b (earlier_or x m) x ≡ or_here x (cond b (Some m) None)
failed_at_is true x m = earlier_is x m
failed_at_is false x m = refl

ended-same : (o : Operation) (r : SlotRecord) (t : Task) (m : ℕ) (s : Slot) (exit : Exit) (listed : Bool)
    (xs : List Act) → IsSlot o xs r t → failed t o.over xs + 1 < 2 ^ 32 → same_slot t.slot s ≡ true →
    IsSlot o (Act.Ended m s exit listed ∷ xs) (ended_same exit listed o.over m r) t
ended-same o r t m s exit listed xs h few e = go (is_below m (limit t o.over xs)) refl (is_success t.kind exit) refl
  where
    time_test : is_in_time o.over m r.end ≡ is_below m (limit t o.over xs)
    time_test = in_time_is o.over m r.end ∙ ap (λ k. is_below m (option_map (min o.over) k)) h.end_is

    more : capped 32 (failed t o.over xs + 1) ≡ failed t o.over xs + 1
    more = capped_32 (failed t o.over xs + 1) (omega arith)

    kind_test : is_success r.kind exit ≡ is_success t.kind exit
    kind_test = ap (λ k. is_success k exit) h.kind

    go : (b : Bool) → is_below m (limit t o.over xs) ≡ b → (g : Bool) → is_success t.kind exit ≡ g →
        IsSlot o (Act.Ended m s exit listed ∷ xs) (ended_same exit listed o.over m r) t
    go true b true g = rw (time_test, b, kind_test, g) (record {
      slot = h.slot;
      reg = h.reg;
      kind = h.kind;
      time_is = h.time_is;
      tries_is = h.tries_is;
      delay_is = h.delay_is;
      runs_are = h.runs_are;
      failed_are = rw (e, b, g) h.failed_are;
      succeeded = rw (e, b, g) refl;
      listed = rw (e, b, g) (ap (λ k. listed || k) h.listed);
      end_is = h.end_is;
      last_is = rw e refl;
      succeeded_at = rw (e, b, g) (earlier_is r.succeeded_at m ∙ ap (λ k. or_here k (Some m)) h.succeeded_at);
      failed_at = rw (e, b, g) h.failed_at;
    })
    go true b false g = rw (time_test, b, kind_test, g) (record {
      slot = h.slot;
      reg = h.reg;
      kind = h.kind;
      time_is = h.time_is;
      tries_is = h.tries_is;
      delay_is = h.delay_is;
      runs_are = h.runs_are;
      failed_are = rw (e, b, g, h.failed_are) more;
      succeeded = rw (e, b, g) h.succeeded;
      listed = rw (e, b, g) h.listed;
      end_is = h.end_is;
      last_is = rw e refl;
      succeeded_at = rw (e, b, g) h.succeeded_at;
      failed_at = rw (e, b, g, h.failed_are, h.tries_is, more) (failed_at_is (failed t o.over xs + 1 == tries t)
          r.failed_at m ∙ ap (λ k. or_here k (cond (failed t o.over xs + 1 == tries t) (Some m) None)) h.failed_at);
    })
    go false b g f = rw (time_test, b) (record {
      slot = h.slot;
      reg = h.reg;
      kind = h.kind;
      time_is = h.time_is;
      tries_is = h.tries_is;
      delay_is = h.delay_is;
      runs_are = h.runs_are;
      failed_are = rw (e, b) h.failed_are;
      succeeded = rw (e, b) h.succeeded;
      listed = rw (e, b) h.listed;
      end_is = h.end_is;
      last_is = rw e refl;
      succeeded_at = rw (e, b) h.succeeded_at;
      failed_at = rw (e, b) h.failed_at;
    })

ended-other : (o : Operation) (r : SlotRecord) (t : Task) (m : ℕ) (s : Slot) (exit : Exit) (listed : Bool)
    (xs : List Act) → IsSlot o xs r t → same_slot t.slot s ≡ false →
    IsSlot o (Act.Ended m s exit listed ∷ xs) r t
ended-other o r t m s exit listed xs h e = record {
  slot = h.slot;
  reg = h.reg;
  kind = h.kind;
  time_is = h.time_is;
  tries_is = h.tries_is;
  delay_is = h.delay_is;
  runs_are = h.runs_are;
  failed_are = rw e h.failed_are;
  succeeded = rw e h.succeeded;
  listed = rw e h.listed;
  end_is = h.end_is;
  last_is = rw e h.last_is;
  succeeded_at = rw e h.succeeded_at;
  failed_at = rw e h.failed_at;
}

-- an exit, where fewer tries have failed than can be counted
pub slot-ended : (o : Operation) (r : SlotRecord) (t : Task) (m : ℕ) (s : Slot) (exit : Exit) (listed : Bool)
    (xs : List Act) → IsSlot o xs r t → failed t o.over xs + 1 < 2 ^ 32 →
    IsSlot o (Act.Ended m s exit listed ∷ xs) (ended s exit listed o.over m r) t
slot-ended o r t m s exit listed xs h few = go (same_slot t.slot s) refl
  where
    go : (b : Bool) → same_slot t.slot s ≡ b → IsSlot o (Act.Ended m s exit listed ∷ xs)
        (ended s exit listed o.over m r) t
    go true e = let same : same_slot r.slot s ≡ true = ap (λ k. same_slot k s) h.slot ∙ e in
        rw same (ended-same o r t m s exit listed xs h few e)
    go false e = let same : same_slot r.slot s ≡ false = ap (λ k. same_slot k s) h.slot ∙ e in
        rw same (ended-other o r t m s exit listed xs h e)
