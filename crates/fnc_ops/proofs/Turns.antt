-- While a slot has neither succeeded nor come to its end or the total, each of its runs has failed or is alive.
use Rattle.std.proofs.Common.{
  ℕ,
  List,
  [],
  ◌∷◌,
  Bool,
  true,
  false,
  ◌≡◌,
  ◌≤◌,
  ◌<◌,
  ◌+◌,
  ◌&&◌,
  refl,
  ap,
  ◌∙◌,
  Option,
  Some,
  None,
  cond,
  not,
  is_some,
  min,
  arith,
}
use Rattle.std.proofs.lemmas.Bool.{or_parts}
use Rattle.std.proofs.lemmas.Bool.Decides.{nat_tests}
use Rattle.std.specs.Prelude.{option_map, unwrap_or}
use Rattle.fnc_journal.specs.declared.entry.Slot.{Slot}
use Rattle.fnc_journal.specs.Exits.{is_success}
use Rattle.fnc_journal.specs.Missing.{or_here, has_come}
use Rattle.fnc_journal.specs.Same.{same_slot}
use Rattle.fnc_journal.specs.Slots.{Task, time}
use Rattle.fnc_journal.specs.Acts.{Act, begun_at, end, limit, is_below, runs, failed, has_succeeded}
use Rattle.fnc_journal.proofs.AliveRuns.{slot_same}
use Rattle.fnc_records.specs.declared.slot.LastRun.{LastRun}
use Rattle.fnc_records.specs.SlotFacts.{last_of}
use Rattle.fnc_records.specs.OperationRecords.{is_idle}
use Rattle.fnc_records.specs.OperationFacts.{ArePast, AreInTurn}
use Rattle.fnc_ops.proofs.AliveCounts.{one_if}

some-earlier : (x y : Option ℕ) → is_some x ≡ true → is_some (or_here x y) ≡ true
some-earlier None y e = cc
some-earlier (Some k) None e = refl
some-earlier (Some k) (Some n) e = refl

some-here : (x : Option ℕ) (n : ℕ) → is_some (or_here x (Some n)) ≡ true
some-here None n = refl
some-here (Some k) n = refl

-- a slot of which a run is alive was begun
begun-alive : (s : Slot) (xs : List Act) → is_idle (last_of s xs) ≡ false → is_some (begun_at s xs) ≡ true
begun-alive s [] e = cc
begun-alive s (Act.Begun m run slot ∷ xs) e = go (same_slot s slot) e (λ k. begun-alive s xs k)
  where
    go : (b : Bool) → is_idle (unwrap_or (cond b (Some (LastRun.Alive m)) None) (last_of s xs)) ≡ false →
        (is_idle (last_of s xs) ≡ false → is_some (begun_at s xs) ≡ true) →
        is_some (or_here (begun_at s xs) (cond b (Some m) None)) ≡ true
    go true f ih = some-here (begun_at s xs) m
    go false f ih = some-earlier (begun_at s xs) None (ih f)
begun-alive s (Act.Ended m slot exit listed ∷ xs) e = go (same_slot s slot) e (λ k. begun-alive s xs k)
  where
    go : (b : Bool) → is_idle (unwrap_or (cond b (Some (LastRun.EndedAt m)) None) (last_of s xs)) ≡ false →
        (is_idle (last_of s xs) ≡ false → is_some (begun_at s xs) ≡ true) →
        is_some (or_here (begun_at s xs) None) ≡ true
    go true f ih = cc
    go false f ih = some-earlier (begun_at s xs) None (ih f)

module _ (t : Task) (over m : ℕ) (early : m < over) where
  -- an end that has not come had not come before
  not-before : (x y : Option ℕ) → has_come (option_map (λ k. k + time t) (or_here x y)) m ≡ false →
      has_come (option_map (λ k. k + time t) x) m ≡ false
  not-before None y e = refl
  not-before (Some k) None e = e
  not-before (Some k) (Some n) e = e

  -- an exit by then is in time
  below-limit : (n : ℕ) → n ≤ m → (x : Option ℕ) → is_some x ≡ true → has_come (option_map (λ k. k + time t) x) m ≡
      false → is_below n (option_map (min over) (option_map (λ k. k + time t) x)) ≡ true
  below-limit n le None s e = cc
  below-limit n le (Some k) s e = grind (arith, nat_tests, le, early, e)

  pub counted : (xs : List Act) → ArePast m xs → AreInTurn xs → has_come (end t xs) m ≡ false →
      has_succeeded t over xs ≡ false →
      runs t.slot xs ≡ failed t over xs + one_if (not (is_idle (last_of t.slot xs)))
  counted [] past turns e f = refl
  counted (Act.Begun n run s ∷ xs) past turns e f =
      go (same_slot t.slot s) (λ k. ap (λ w. is_idle (last_of w xs)) (slot_same t.slot s k) ∙ turns.0)
      (counted xs past.1 turns.1 (not-before (begun_at t.slot xs) (cond (same_slot t.slot s) (Some n) None) e) f)
    where
      go : (b : Bool) → (b ≡ true → is_idle (last_of t.slot xs) ≡ true) → runs t.slot xs ≡ failed t over xs + one_if
          (not (is_idle (last_of t.slot xs))) →
          cond b (runs t.slot xs + 1) (runs t.slot xs) ≡ failed t over xs + one_if
          (not (is_idle (unwrap_or (cond b (Some (LastRun.Alive n)) None) (last_of t.slot xs))))
      go true idle ih =
          let none : one_if (not (is_idle (last_of t.slot xs))) ≡ 0 = ap (λ w. one_if (not w)) (idle refl) in
          omega (arith, none, ih)
      go false idle ih = ih
  counted (Act.Ended n s exit listed ∷ xs) past turns e f =
      let before : has_come (end t xs) m ≡ false = not-before (begun_at t.slot xs) None e in
      let alive : same_slot t.slot s ≡ true → is_idle (last_of t.slot xs) ≡ false =
      (λ k. ap (λ w. is_idle (last_of w xs)) (slot_same t.slot s k) ∙ turns.0) in
      go (same_slot t.slot s) (is_below n (limit t over xs)) (is_success t.kind exit) (or_parts _ _ f).0
      (λ k. below-limit n past.0 (begun_at t.slot xs) (begun-alive t.slot xs (alive k)) before) alive
      (counted xs past.1 turns.1 before (or_parts _ _ f).1)
    where
      go : (b c g : Bool) → (b && c && g) ≡ false → (b ≡ true → c ≡ true) →
          (b ≡ true → is_idle (last_of t.slot xs) ≡ false) → runs t.slot xs ≡ failed t over xs + one_if
          (not (is_idle (last_of t.slot xs))) →
          runs t.slot xs ≡ cond (b && c && not g) (failed t over xs + 1) (failed t over xs) + one_if
          (not (is_idle (unwrap_or (cond b (Some (LastRun.EndedAt n)) None) (last_of t.slot xs))))
      go true true true f below alive ih = cc
      go true true false f below alive ih =
          let one : one_if (not (is_idle (last_of t.slot xs))) ≡ 1 = ap (λ w. one_if (not w)) (alive refl) in
          omega (arith, one, ih)
      go true false g f below alive ih = let wrong : false ≡ true = below refl in cc
      go false c g f below alive ih = ih
