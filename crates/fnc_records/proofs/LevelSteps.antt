-- A level's record stays what the acts say when a run of its operation starts or ends.
use Rattle.std.proofs.Common.{
  ℕ,
  List,
  ◌∷◌,
  Bool,
  ◌≤◌,
  ◌<◌,
  ◌+◌,
  ◌^◌,
  Option,
  Some,
  None,
  arith,
  length,
  ◌≡◌,
  true,
  false,
  refl,
  ap,
  sym,
  ◌∙◌,
  subst,
  cond,
  not,
  ◌==◌,
  false-eqb,
}
use Rattle.std.proofs.lemmas.Bool.{or_parts}
use Rattle.std.specs.Prelude.{option_map}
use Rattle.std.specs.List.{AllByRecursion}
use Rattle.fnc_journal.specs.declared.entry.Exit.{Exit}
use Rattle.fnc_journal.specs.declared.entry.Slot.{Slot}
use Rattle.fnc_journal.specs.Slots.{Task, Operation, Rank, time}
use Rattle.fnc_journal.specs.Acts.{Act, runs, failed, concluded}
use Rattle.fnc_records.specs.declared.slot.SlotRecord.{SlotRecord}
use Rattle.fnc_records.specs.KeptLevel.{KeptLevel}
use Rattle.fnc_records.specs.SlotRecords.{
  capped,
  started,
  ended,
  started_same,
  ended_same,
  succeeded_now,
  failed_now,
  is_in_time,
  is_concluded,
  is_spent,
}
use Rattle.fnc_records.specs.SlotFacts.{IsSlot, last_of}
use Rattle.fnc_records.specs.LevelRecords.{level_started, level_ended}
use Rattle.fnc_records.specs.LevelFacts.{IsShort, IsLevelSlot, IsQuerySlot, IsQuery, IsLevel, AreFew, IsTrying}
use Rattle.fnc_records.proofs.SlotSteps.{slot-started, slot-ended}
use Rattle.fnc_records.proofs.Counts.{runs-few, failed-few}
use Rattle.fnc_records.proofs.Zip.{zip_map, zip_map_each}
use Rattle.fnc_journal.proofs.AliveRuns.{slot_same}
use Rattle.fnc_journal.specs.Same.{same_slot}
use Rattle.fnc_journal.specs.Missing.{has_come}
use Rattle.fnc_journal.specs.Exits.{is_success}
use Rattle.fnc_records.specs.declared.slot.LastRun.{LastRun}
use Rattle.fnc_records.proofs.SlotAnswers.{concluded_is}

-- a slot that is started is not concluded
abbrev pub IsFree : Operation → ℕ → Slot → List Act → Task → Type 0
IsFree o m s xs t = same_slot t.slot s ≡ true → concluded t o.over m xs ≡ false

-- so of a level's slots
abbrev pub AreFree : Operation → ℕ → Slot → List Act → Rank → Type 0
AreFree o m s xs l = AllByRecursion (IsFree o m s xs) l.firsts × AllByRecursion (IsFree o m s xs) l.ons

-- of a value that may be missing
abbrev pub ForSome : {A : Type 0} → (A → Type 0) → Option A → Type 0
ForSome P None = Unit {0}
ForSome P (Some x) = P x

-- a start
module _ (o : Operation) (m run : ℕ) (s : Slot) (xs : List Act) (few : AreFew xs) (early : m < 2 ^ 63) where
  is-started : (r : SlotRecord) (t : Task) → IsShort o t → IsSlot o xs r t → IsSlot o (Act.Begun m run s ∷ xs)
      (started s m r) t
  is-started r t short h =
      let n : runs t.slot xs ≤ length xs = runs-few t.slot xs in
      let few_of : length xs + 1 < 2 ^ 32 = few in
      let lasts : time t < 2 ^ 62 = short.lasts in
      slot-started o r t m run s xs h (omega (arith, n, few_of)) (omega (arith, lasts, early))

  -- a slot that is started was not concluded
  trying-started : (r : SlotRecord) (t : Task) → IsSlot o xs r t → IsFree o m s xs t → IsTrying r →
      IsTrying (started s m r)
  trying-started r t h free k = go (same_slot t.slot s) refl
    where
      go : (b : Bool) → same_slot t.slot s ≡ b → IsTrying (started s m r)
      go true e =
          let same : same_slot r.slot s ≡ true = ap (λ w. same_slot w s) h.slot ∙ e in
          let open_now : is_concluded m r ≡ false = concluded_is o m xs r t h ∙ free e in
          subst IsTrying (sym (ap (λ b. cond b (started_same m r) r) same)) (record {
            few = k.few;
            running = λ at f. let now = or_parts r.succeeded (is_spent m r) open_now in
                (now.0, (or_parts (r.failed == r.tries) (has_come r.end m) now.1).0);
          })
      go false e = let same : same_slot r.slot s ≡ false = ap (λ w. same_slot w s) h.slot ∙ e in
          subst IsTrying (sym (ap (λ b. cond b (started_same m r) r) same)) k

  pub level_slot-started : (r : SlotRecord) (t : Task) → IsFree o m s xs t → IsLevelSlot o xs r t →
      IsLevelSlot o (Act.Begun m run s ∷ xs) (started s m r) t
  level_slot-started r t free h = record {
    is = is-started r t h.short h.is;
    acting = h.acting;
    short =
        h.short;
    trying = trying-started r t h.is free h.trying;
  }

  pub query_slot-started : (r : SlotRecord) (t : Task) → IsFree o m s xs t → IsQuerySlot o xs r t →
      IsQuerySlot o (Act.Begun m run s ∷ xs) (started s m r) t
  query_slot-started r t free h = record {
    is = is-started r t h.short h.is;
    asking = h.asking;
    short =
        h.short;
    trying = trying-started r t h.is free h.trying;
  }

  pub query-started : (q : Option SlotRecord) (t : Option Task) → ForSome (IsFree o m s xs) t → IsQuery o xs q t →
      IsQuery o (Act.Begun m run s ∷ xs) (option_map (started s m) q) t
  query-started None None free h = tt
  query-started None (Some t) free h = h
  query-started (Some q) None free h = h
  query-started (Some q) (Some t) free h = query_slot-started q t free h

  pub level-started : (r : KeptLevel) (l : Rank) → AreFree o m s xs l → IsLevel o xs r l →
      IsLevel o (Act.Begun m run s ∷ xs) (level_started s m r) l
  level-started r l free h = record {
    index = h.index;
    unfit = h.unfit;
    firsts = zip_map_each _ _ (IsFree o m s xs) (started s m) level_slot-started r.firsts l.firsts free.0 h.firsts;
    ons = zip_map_each _ _ (IsFree o m s xs) (started s m) level_slot-started r.ons l.ons free.1 h.ons;
  }

-- an exit of a run that is alive
module _ (o : Operation) (m : ℕ) (s : Slot) (exit : Exit) (listed : Bool) (xs : List Act) (few : AreFew xs) (begun : ℕ)
    (alive : last_of s xs ≡ LastRun.Alive begun) where
  is-ended : (r : SlotRecord) (t : Task) → IsSlot o xs r t → IsSlot o (Act.Ended m s exit listed ∷ xs)
      (ended s exit listed o.over m r) t
  is-ended r t h =
      let n : failed t o.over xs ≤ length xs = failed-few t o.over xs in
      let few_of : length xs + 1 < 2 ^ 32 = few in
      slot-ended o r t m s exit listed xs h (omega (arith, n, few_of))

  never_alive : (n at : ℕ) → LastRun.EndedAt n ≡ LastRun.Alive at → ⊥
  never_alive n at f = cc

  more_failed : (n k : ℕ) → n ≤ k → (n == k) ≡ false → capped 32 (n + 1) ≤ k
  more_failed n k le e = let other : n ≡ k → ⊥ = false-eqb n k (sym e) in omega (arith, le, other)

  -- while it was alive not all of the allowed tries had failed
  trying-ended : (r : SlotRecord) (t : Task) → IsSlot o xs r t → IsTrying r → IsTrying (ended s exit listed o.over m r)
  trying-ended r t h k = go (same_slot t.slot s) refl
    where
      good : r.last ≡ LastRun.Alive begun → (b : Bool) → IsTrying (cond b (succeeded_now listed m r) (failed_now m r))
      good e true = record { few = k.few; running = λ at f. absurd (never_alive m at f) }
      good e false = record {
        few = more_failed r.failed r.tries k.few (k.running begun e).1;
        running =
            λ at f. absurd (never_alive m at f);
      }

      late : r.last ≡ LastRun.Alive begun → (b : Bool) → IsTrying (cond b (record r { last = LastRun.EndedAt m })
          (cond (is_success r.kind exit) (succeeded_now listed m r) (failed_now m r)))
      late e true = record { few = k.few; running = λ at f. absurd (never_alive m at f) }
      late e false = good e (is_success r.kind exit)

      go : (b : Bool) → same_slot t.slot s ≡ b → IsTrying (ended s exit listed o.over m r)
      go true e =
          let same : same_slot r.slot s ≡ true = ap (λ w. same_slot w s) h.slot ∙ e in
          let last : r.last ≡ LastRun.Alive begun = h.last_is ∙ ap (λ w. last_of w xs) (slot_same t.slot s e) ∙ alive in
          subst IsTrying (sym (ap (λ b. cond b (ended_same exit listed o.over m r) r) same))
          (late last (not (is_in_time o.over m r.end)))
      go false e = let same : same_slot r.slot s ≡ false = ap (λ w. same_slot w s) h.slot ∙ e in
          subst IsTrying (sym (ap (λ b. cond b (ended_same exit listed o.over m r) r) same)) k

  pub level_slot-ended : (r : SlotRecord) (t : Task) → IsLevelSlot o xs r t →
      IsLevelSlot o (Act.Ended m s exit listed ∷ xs) (ended s exit listed o.over m r) t
  level_slot-ended r t h = record {
    is = is-ended r t h.is;
    acting = h.acting;
    short = h.short;
    trying =
        trying-ended r t h.is h.trying;
  }

  pub query_slot-ended : (r : SlotRecord) (t : Task) → IsQuerySlot o xs r t →
      IsQuerySlot o (Act.Ended m s exit listed ∷ xs) (ended s exit listed o.over m r) t
  query_slot-ended r t h = record {
    is = is-ended r t h.is;
    asking = h.asking;
    short = h.short;
    trying =
        trying-ended r t h.is h.trying;
  }

  pub query-ended : (q : Option SlotRecord) (t : Option Task) → IsQuery o xs q t →
      IsQuery o (Act.Ended m s exit listed ∷ xs) (option_map (ended s exit listed o.over m) q) t
  query-ended None None h = tt
  query-ended None (Some t) h = h
  query-ended (Some q) None h = h
  query-ended (Some q) (Some t) h = query_slot-ended q t h

  pub level-ended : (r : KeptLevel) (l : Rank) → IsLevel o xs r l → IsLevel o (Act.Ended m s exit listed ∷ xs)
      (level_ended s exit listed o.over m r) l
  level-ended r l h = record {
    index = h.index;
    unfit = h.unfit;
    firsts = zip_map _ _ (ended s exit listed o.over m) level_slot-ended r.firsts l.firsts h.firsts;
    ons = zip_map _ _ (ended s exit listed o.over m) level_slot-ended r.ons l.ons h.ons;
  }
