-- The greatest moment at which a concluded slot was concluded, by its records and by the acts.
use Rattle.std.proofs.Common.{
  ℕ,
  List,
  [],
  ◌∷◌,
  ◌++◌,
  Bool,
  true,
  false,
  ◌≡◌,
  ◌≤◌,
  refl,
  ap,
  sym,
  ◌∙◌,
  Option,
  Some,
  None,
  cond,
  max,
  arith,
}
use Rattle.std.specs.List.{AllZip, cons_option}
use Rattle.fnc_journal.specs.Slots.{Task, Operation, Rank, queries, slots_of}
use Rattle.fnc_journal.specs.Acts as Acts
use Rattle.fnc_journal.specs.Acts.{Act, concluded}
use Rattle.fnc_journal.specs.Standing as Standing
use Rattle.fnc_journal.specs.Standing.{greatest_concluded, ranks, slots}
use Rattle.fnc_records.specs.declared.slot.SlotRecord.{SlotRecord}
use Rattle.fnc_records.specs.KeptLevel.{KeptLevel}
use Rattle.fnc_records.specs.KeptOperation.{KeptOperation}
use Rattle.fnc_records.specs.SlotRecords.{later}
use Rattle.fnc_records.specs.SlotFacts.{IsSlot}
use Rattle.fnc_records.specs.LevelRecords.{latest, latest_in, later_query}
use Rattle.fnc_records.specs.LevelFacts.{IsLevelSlot, IsQuerySlot, IsLevel}
use Rattle.fnc_records.specs.OperationRecords.{latest_queries, latest_levels, since}
use Rattle.fnc_records.specs.OperationFacts.{IsOperation, kept_queries, tried_levels}
use Rattle.fnc_records.proofs.SlotAnswers.{concluded_is, concluded_at_is}
use Rattle.fnc_records.proofs.Zip.{zip_weaken, zip_append}

-- the slots of levels
abbrev kept_slots : List KeptLevel → List SlotRecord
kept_slots [] = []
kept_slots (l ∷ ls) = l.firsts ++ l.ons ++ kept_slots ls

module _ (begin m : ℕ) where
  latest-append : (at : ℕ) (rs ss : List SlotRecord) → latest begin m at (rs ++ ss) ≡ latest begin m
      (latest begin m at rs) ss
  latest-append at [] ss = refl
  latest-append at (r ∷ rs) ss = latest-append (later begin m at r) rs ss

  latest_queries_is : (at : ℕ) (ls : List KeptLevel) → latest_queries begin m at ls ≡ latest begin m at
      (kept_queries ls)
  latest_queries_is at [] = refl
  latest_queries_is at (l ∷ ls) = go l.query (λ k. latest_queries_is k ls)
    where
      go : (x : Option SlotRecord) → ((k : ℕ) → latest_queries begin m k ls ≡ latest begin m k (kept_queries ls)) →
          latest_queries begin m (later_query begin m at x) ls ≡ latest begin m at (cons_option x (kept_queries ls))
      go None e = e at
      go (Some q) e = e (later begin m at q)

  latest_levels_is : (at : ℕ) (ls : List KeptLevel) → latest_levels begin m at ls ≡ latest begin m at
      (kept_slots (tried_levels ls))
  latest_levels_is at [] = refl
  latest_levels_is at (l ∷ ls) = go l.tried (λ k. latest_levels_is k ls)
    where
      go : (b : Bool) → ((k : ℕ) → latest_levels begin m k ls ≡ latest begin m k (kept_slots (tried_levels ls))) →
          latest_levels begin m (cond b (latest_in begin m at l) at) ls ≡ latest begin m at
          (kept_slots (cond b (l ∷ tried_levels ls) (tried_levels ls)))
      go true e =
          e (latest_in begin m at l)
          ∙ sym (latest-append at (l.firsts ++ l.ons) (kept_slots (tried_levels ls))
          ∙ ap (λ k. latest begin m k (kept_slots (tried_levels ls))) (latest-append at l.firsts l.ons))
      go false e = e at

module _ (o : Operation) (m : ℕ) (xs : List Act) where
  greatest-least : (ts : List Task) → o.begin ≤ greatest_concluded o m xs ts
  greatest-least [] = omega arith
  greatest-least (t ∷ ts) = go (concluded t o.over m xs) (greatest-least ts)
    where
      go : (b : Bool) → o.begin ≤ greatest_concluded o m xs ts →
          o.begin ≤ cond b (max (Acts.concluded_at t o.begin o.over xs) (greatest_concluded o m xs ts))
          (greatest_concluded o m xs ts)
      go true e = omega (arith, e)
      go false e = e

  latest_is : (at : ℕ) (rs : List SlotRecord) (ts : List Task) → AllZip (IsSlot o xs) rs ts → o.begin ≤ at →
      latest o.begin m at rs ≡ max at (greatest_concluded o m xs ts)
  latest_is at [] [] z e = omega arith
  latest_is at [] (t ∷ ts) z e = absurd z
  latest_is at (r ∷ rs) [] z e = absurd z
  latest_is at (r ∷ rs) (t ∷ ts) z e =
      rw (concluded_is o m xs r t z.0, concluded_at_is o m xs r t z.0)
      (go (concluded t o.over m xs) (Acts.concluded_at t o.begin o.over xs) (λ k g. latest_is k rs ts z.1 g))
    where
      go : (b : Bool) (k : ℕ) →
          ((a : ℕ) → o.begin ≤ a → latest o.begin m a rs ≡ max a (greatest_concluded o m xs ts)) →
          latest o.begin m (cond b (max at k) at) rs ≡ max at (cond b (max k (greatest_concluded o m xs ts))
          (greatest_concluded o m xs ts))
      go true k ih = ih (max at k) (omega arith) ∙ omega arith
      go false k ih = ih at e

  level_slots : (rs : List KeptLevel) (ls : List Rank) → AllZip (IsLevel o xs) rs ls →
      AllZip (IsSlot o xs) (kept_slots rs) (slots_of ls)
  level_slots [] [] z = tt
  level_slots [] (l ∷ ls) z = absurd z
  level_slots (r ∷ rs) [] z = absurd z
  level_slots (r ∷ rs) (l ∷ ls) z =
      zip_append (IsSlot o xs) (r.firsts ++ r.ons) (kept_slots rs) (l.firsts ++ l.ons) (slots_of ls)
      (zip_weaken (IsLevelSlot o xs) (IsSlot o xs) (λ a b h. h.is) (r.firsts ++ r.ons) (l.firsts ++ l.ons)
      (zip_append (IsLevelSlot o xs) r.firsts r.ons l.firsts l.ons z.0.firsts z.0.ons)) (level_slots rs ls z.1)

  since-same : (r : KeptOperation) → IsOperation m xs r o →
      latest_levels o.begin m (latest_queries o.begin m o.begin r.levels) r.levels ≡ Standing.since o m xs
  since-same r h =
      latest_levels_is o.begin m (latest_queries o.begin m o.begin r.levels) r.levels
      ∙ ap (λ k. latest o.begin m k (kept_slots (tried_levels r.levels))) (latest_queries_is o.begin m o.begin r.levels)
      ∙ sym (latest-append o.begin m o.begin (kept_queries r.levels) (kept_slots (tried_levels r.levels)))
      ∙ latest_is o.begin (kept_queries r.levels ++ kept_slots (tried_levels r.levels)) (slots o m xs)
      (zip_append (IsSlot o xs) _ _ (queries o) (slots_of (ranks o m xs)) (zip_weaken (IsQuerySlot o xs) (IsSlot o xs)
      (λ a b k. k.is) (kept_queries r.levels) (queries o) h.queries_are)
      (level_slots (tried_levels r.levels) (ranks o m xs) h.ranks_are))
      (omega arith)
      ∙ (let least : o.begin ≤ greatest_concluded o m xs (slots o m xs) = greatest-least (slots o m xs) in
      omega (arith, least))

  pub since_is : (r : KeptOperation) → IsOperation m xs r o → since m r ≡ Standing.since o m xs
  since_is r h = rw h.begin (since-same r h)
