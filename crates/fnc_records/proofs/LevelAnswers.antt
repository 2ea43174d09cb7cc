-- What a level's record says is what the acts say.
use Rattle.std.proofs.Common.{ℕ, List, ◌≡◌, refl, ap, ap₂, Option, Some, None, not, ◌&&◌, ◌||◌, nat_le}
use Rattle.std.specs.Option.{option_or}
use Rattle.fnc_journal.specs.Slots.{Task, Operation, Rank}
use Rattle.fnc_journal.specs.Acts.{Act, confirmed, answered, concluded}
use Rattle.fnc_journal.specs.Standing as Standing
use Rattle.fnc_journal.specs.Standing.{capable_by}
use Rattle.fnc_journal.specs.Due as Due
use Rattle.fnc_records.specs.declared.slot.SlotRecord.{SlotRecord}
use Rattle.fnc_records.specs.KeptLevel.{KeptLevel}
use Rattle.fnc_records.specs.SlotRecords.{is_concluded}
use Rattle.fnc_records.specs.LevelRecords as LevelRecords
use Rattle.fnc_records.specs.LevelRecords.{is_lost_by, capable_query}
use Rattle.fnc_records.specs.LevelFacts.{IsLevelSlot, IsQuery, IsLevel}
use Rattle.fnc_records.proofs.SlotAnswers.{spent_is, concluded_is, confirmed_is, answered_is}
use Rattle.fnc_records.specs.SlotFacts.{BothOr}
use Rattle.fnc_records.proofs.Zip.{zip_all, zip_any, zip_find}

module _ (o : Operation) (m : ℕ) (xs : List Act) where
  lost_by_is : (r : SlotRecord) (t : Task) → IsLevelSlot o xs r t → is_lost_by m r ≡ Standing.is_lost_by o m xs t
  lost_by_is r t h = ap₂ (λ a b. a && not b) (spent_is o m xs r t h.is) (confirmed_is o m xs r t h.is h.acting)

  pub lost_is : (r : KeptLevel) (l : Rank) → IsLevel o xs r l → LevelRecords.is_lost m r ≡ Standing.lost o m xs l
  lost_is r l h = ap₂ ◌||◌ h.unfit (zip_any (IsLevelSlot o xs) _ _ lost_by_is r.firsts l.firsts h.firsts)

  slot_confirmed_is : (r : SlotRecord) (t : Task) → IsLevelSlot o xs r t → r.succeeded ≡ confirmed t o.over xs
  slot_confirmed_is r t h = confirmed_is o m xs r t h.is h.acting

  slot_concluded_is : (r : SlotRecord) (t : Task) → IsLevelSlot o xs r t → is_concluded m r ≡ concluded t o.over m xs
  slot_concluded_is r t h = concluded_is o m xs r t h.is

  pub done_is : (r : KeptLevel) (l : Rank) → IsLevel o xs r l → LevelRecords.is_done o.over m r ≡ Due.is_done o m xs l
  done_is r l h =
      ap₂ ◌&&◌ (zip_all (IsLevelSlot o xs) _ _ slot_confirmed_is r.firsts l.firsts h.firsts)
      (ap (λ b. b || nat_le o.over m) (zip_all (IsLevelSlot o xs) _ _ slot_concluded_is r.ons l.ons h.ons))

  pub both_or : {A B : Type 0} (R : A → B → Type 0) (a b : Option A) (c d : Option B) → BothOr R a c → BothOr R b d →
      BothOr R (option_or a b) (option_or c d)
  both_or R None b None d s t = t
  both_or R None b (Some c) d s t = absurd s
  both_or R (Some a) b None d s t = absurd s
  both_or R (Some a) b (Some c) d s t = s

  -- where an operation stands in the level
  pub standing_in_is : (r : KeptLevel) (l : Rank) → IsLevel o xs r l → BothOr (IsLevelSlot o xs)
      (LevelRecords.standing_in m r) (Standing.standing_in o m xs l)
  standing_in_is r l h =
      both_or (IsLevelSlot o xs) _ _ _ _
      (zip_find (IsLevelSlot o xs) _ _ (λ a b e. ap not (slot_confirmed_is a b e)) r.firsts l.firsts h.firsts)
      (zip_find (IsLevelSlot o xs) _ _ (λ a b e. ap not (slot_concluded_is a b e)) r.ons l.ons h.ons)

  -- whether its candidate is capable
  pub capable_query_is : (q : Option SlotRecord) (t : Option Task) → IsQuery o xs q t →
      capable_query q ≡ Standing.capable_query o xs t
  capable_query_is None None h = refl
  capable_query_is None (Some t) h = absurd h
  capable_query_is (Some q) None h = absurd h
  capable_query_is (Some q) (Some t) h = let a : q.succeeded ≡ answered t o.over xs =
      answered_is o m xs q t h.is h.asking in rw (h.is.kind, h.is.listed, a) refl
