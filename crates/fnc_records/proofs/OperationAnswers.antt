-- What an operation's record says is what the acts say.
use Rattle.std.proofs.Common.{
  ℕ,
  List,
  [],
  ◌∷◌,
  Bool,
  true,
  false,
  ◌≡◌,
  ◌<◌,
  ◌^◌,
  refl,
  ap,
  ap₂,
  sym,
  ◌∙◌,
  subst,
  Option,
  Some,
  None,
  cond,
  not,
  ◌&&◌,
  arith,
}
use Rattle.std.specs.Prelude.{find, option_map, option_and_then}
use Rattle.std.specs.List.{list_all, AllZip}
use Rattle.std.specs.Option.{option_or}
use Rattle.fnc_journal.specs.declared.entry.Answer.{Answer}
use Rattle.fnc_journal.specs.Device.{delay, cuts_power}
use Rattle.fnc_journal.specs.Missing.{has_any}
use Rattle.fnc_journal.specs.Slots.{Task, Operation, Rank, queries}
use Rattle.fnc_journal.specs.Acts.{Act, concluded, runs}
use Rattle.fnc_journal.specs.Standing as Standing
use Rattle.fnc_journal.specs.Standing.{ranks, queries_concluded}
use Rattle.fnc_journal.specs.Due as Due
use Rattle.fnc_records.specs.declared.slot.SlotRecord.{SlotRecord}
use Rattle.fnc_records.specs.KeptLevel.{KeptLevel}
use Rattle.fnc_records.specs.KeptOperation.{KeptOperation}
use Rattle.fnc_records.specs.SlotRecords.{is_concluded}
use Rattle.fnc_records.specs.SlotFacts.{IsSlot, BothOr}
use Rattle.fnc_records.specs.LevelRecords.{is_queried, is_lost, is_done, standing_in}
use Rattle.fnc_records.specs.LevelFacts.{IsShort, IsTrying, IsLevelSlot, IsQuerySlot, IsLevel}
use Rattle.fnc_records.specs.OperationRecords as OperationRecords
use Rattle.fnc_records.specs.OperationRecords.{first_query, is_kept, passed, standing_slot, standing_at}
use Rattle.fnc_records.specs.OperationFacts.{IsOperation, IsStandingAt, IsStanding, kept_queries, tried_levels}
use Rattle.fnc_records.proofs.Zip.{zip_all, zip_find}
use Rattle.fnc_records.proofs.SlotAnswers.{concluded_is, limit_is, ready_is, attempt_is}
use Rattle.fnc_records.proofs.LevelAnswers.{lost_is, done_is, standing_in_is, both_or}
use Rattle.fnc_records.proofs.LevelLists.{first_query_is, all_queried_is, first_kept_is, all_lost_is, any_tried_is}
use Rattle.fnc_records.proofs.Latest.{since_is}

-- the record of a slot of either kind
pub record IsShortSlot (o : Operation) (xs : List Act) (r : SlotRecord) (t : Task) : Type 0 where
  pub is : IsSlot o xs r t
  pub short : IsShort o t
  pub trying : IsTrying r

both_weaken : {A B : Type 0} (R S : A → B → Type 0) → ((x : A) (y : B) → R x y → S x y) →
    (a : Option A) (b : Option B) → BothOr R a b → BothOr S a b
both_weaken R S h None None z = z
both_weaken R S h None (Some y) z = z
both_weaken R S h (Some x) None z = z
both_weaken R S h (Some x) (Some y) z = h x y z

module _ (o : Operation) (m : ℕ) (xs : List Act) where
  query_concluded_is : (r : SlotRecord) (t : Task) → IsQuerySlot o xs r t → is_concluded m r ≡ concluded t o.over m xs
  query_concluded_is r t h = concluded_is o m xs r t h.is

  first_query_found : (ls : List KeptLevel) → AllZip (IsQuerySlot o xs) (kept_queries ls) (queries o) →
      BothOr (IsShortSlot o xs) (first_query m ls) (find (λ q. not (concluded q o.over m xs)) (queries o))
  first_query_found ls z =
      subst (λ x. BothOr (IsShortSlot o xs) x (find (λ q. not (concluded q o.over m xs)) (queries o)))
      (sym (first_query_is m ls))
      (both_weaken (IsQuerySlot o xs) (IsShortSlot o xs) (λ a b h. record {
        is = h.is;
        short = h.short;
        trying =
            h.trying;
      }) _ _
      (zip_find (IsQuerySlot o xs) _ _ (λ a b h. ap not (query_concluded_is a b h)) (kept_queries ls) (queries o) z))

  in_first_kept : (rs : List KeptLevel) (ls : List Rank) → AllZip (IsLevel o xs) rs ls →
      BothOr (IsShortSlot o xs) (option_and_then (standing_in m) (find (λ l. not (is_lost m l)) rs))
      (option_and_then (Standing.standing_in o m xs) (Standing.first_kept o m xs ls))
  in_first_kept [] [] z = tt
  in_first_kept [] (l ∷ ls) z = absurd z
  in_first_kept (r ∷ rs) [] z = absurd z
  in_first_kept (r ∷ rs) (l ∷ ls) z = rw (lost_is o m xs r l z.0) (go (not (Standing.lost o m xs l))
      (in_first_kept rs ls z.1))
    where
      go : (b : Bool) →
          BothOr (IsShortSlot o xs) (option_and_then (standing_in m) (find (λ l. not (is_lost m l)) rs))
          (option_and_then (Standing.standing_in o m xs) (Standing.first_kept o m xs ls)) →
          BothOr (IsShortSlot o xs) (option_and_then (standing_in m)
          (cond b (Some r) (find (λ l. not (is_lost m l)) rs)))
          (option_and_then (Standing.standing_in o m xs) (cond b (Some l) (Standing.first_kept o m xs ls)))
      go true e = both_weaken (IsLevelSlot o xs) (IsShortSlot o xs) (λ a b h. record {
        is = h.is;
        short =
            h.short;
        trying = h.trying;
      }) _ _ (standing_in_is o m xs r l z.0)
      go false e = e

  -- the slot at which the operation stands
  pub standing_slot_is : (r : KeptOperation) → IsOperation m xs r o → BothOr (IsShortSlot o xs) (standing_slot m r)
      (Standing.standing o m xs)
  standing_slot_is r h =
      both_or o m xs (IsShortSlot o xs) _ _ _ _ (first_query_found r.levels h.queries_are)
      (subst (λ x. BothOr (IsShortSlot o xs) (option_and_then (standing_in m) x)
      (option_and_then (Standing.standing_in o m xs) (Standing.first_kept o m xs (ranks o m xs))))
      (sym (first_kept_is m r.levels)) (in_first_kept (tried_levels r.levels) (ranks o m xs) h.ranks_are))

  pub standing_at_is : (r : KeptOperation) → IsOperation m xs r o → Standing.since o m xs < 2 ^ 63 →
      (s : SlotRecord) (t : Task) → IsShortSlot o xs s t → runs t.slot xs < 255 →
      IsStandingAt o m xs (standing_at (OperationRecords.since m r) r.over s) t
  standing_at_is r h early s t k few = record {
    slot = k.is.slot;
    reg = k.is.reg;
    kind = k.is.kind;
    attempt = attempt_is o xs s t k.is few;
    ready = rw (since_is o m xs r h) (ready_is o m xs s t k.is (let waits : delay t.definition t.kind o.target o.coin <
        2 ^ 62 = k.short.waits in omega (arith, early, waits)));
    limit = rw h.over (limit_is o m xs s t k.is);
  }

  pub standing_is : (r : KeptOperation) → IsOperation m xs r o → Standing.since o m xs < 2 ^ 63 →
      ((t : Task) → Standing.standing o m xs ≡ Some t → runs t.slot xs < 255) →
      IsStanding o m xs (OperationRecords.standing m r) (Standing.standing o m xs)
  standing_is r h early few = go (standing_slot m r) (Standing.standing o m xs) few (standing_slot_is r h)
    where
      go : (x : Option SlotRecord) (y : Option Task) → ((t : Task) → y ≡ Some t → runs t.slot xs < 255) →
          BothOr (IsShortSlot o xs) x y →
          IsStanding o m xs (option_map (standing_at (OperationRecords.since m r) r.over) x) y
      go None None f z = z
      go None (Some t) f z = z
      go (Some s) None f z = z
      go (Some s) (Some t) f z = standing_at_is r h early s t z (f t refl)

  -- the level that passes
  passed_is : (rs : List KeptLevel) (ls : List Rank) → AllZip (IsLevel o xs) (tried_levels rs) ls →
      option_map (λ l. Answer.Passed l) (passed o.over m rs) ≡ option_map Due.answer_passed (Due.passed_among o m xs ls)
  passed_is [] [] z = refl
  passed_is [] (l ∷ ls) z = absurd z
  passed_is (r ∷ rs) ls z = go r.tried ls (λ ks. passed_is rs ks) z
    where
      here : (l : Rank) (ks : List Rank) → IsLevel o xs r l → option_map (λ l. Answer.Passed l) (passed o.over m rs) ≡
          option_map Due.answer_passed (Due.passed_among o m xs ks) → (b c : Bool) →
          option_map (λ l. Answer.Passed l) (cond b (Some r.index) (cond c (passed o.over m rs) None)) ≡ option_map
          Due.answer_passed (cond b (Some l) (cond c (Due.passed_among o m xs ks) None))
      here l ks h e true c = ap (λ n. Some (Answer.Passed n)) h.index
      here l ks h e false true = e
      here l ks h e false false = refl

      go : (b : Bool) (ls : List Rank) →
          ((ks : List Rank) → AllZip (IsLevel o xs) (tried_levels rs) ks → option_map (λ l. Answer.Passed l)
          (passed o.over m rs) ≡ option_map Due.answer_passed (Due.passed_among o m xs ks)) →
          AllZip (IsLevel o xs) (cond b (r ∷ tried_levels rs) (tried_levels rs)) ls →
          option_map (λ l. Answer.Passed l) (cond b (cond (not r.unfit && is_done o.over m r) (Some r.index)
          (cond (is_lost m r) (passed o.over m rs) None)) (passed o.over m rs))
          ≡ option_map Due.answer_passed (Due.passed_among o m xs ls)
      go true [] ih z = absurd z
      go true (l ∷ ks) ih z =
          rw (done_is o m xs r l z.0, lost_is o m xs r l z.0, z.0.unfit)
          (here l ks z.0 (ih ks z.1) (not l.unfit && Due.is_done o m xs l) (Standing.lost o m xs l))
      go false ls ih z = ih ls z

  pub queries_is : (ls : List KeptLevel) → AllZip (IsQuerySlot o xs) (kept_queries ls) (queries o) →
      list_all (is_queried m) ls ≡ queries_concluded o m xs
  queries_is ls z = all_queried_is m ls ∙ zip_all (IsQuerySlot o xs) _ _ query_concluded_is (kept_queries ls)
      (queries o) z

  failure_among : (rs : List KeptLevel) (ls : List Rank) → AllZip (IsLevel o xs) rs ls → (q : Bool) →
      queries_concluded o m xs ≡ q →
      cond (q && list_all (is_lost m) rs) (cond (has_any rs) (Some Answer.Levels) (Some Answer.NoDevice))
      (Due.time_due o m) ≡ Due.failure_due o m xs ls
  failure_among [] [] z true e = rw e refl
  failure_among [] [] z false e = rw e refl
  failure_among [] (l ∷ ls) z q e = absurd z
  failure_among (r ∷ rs) [] z q e = absurd z
  failure_among (r ∷ rs) (l ∷ ls) z q e =
      rw (zip_all (IsLevel o xs) (is_lost m) (Standing.lost o m xs) (lost_is o m xs) (r ∷ rs) (l ∷ ls) z, e) refl

  failure_is : (r : KeptOperation) → IsOperation m xs r o → OperationRecords.failure_due m r ≡ Due.failure_due o m xs
      (ranks o m xs)
  failure_is r h =
      rw (queries_is r.levels h.queries_are, all_lost_is m r.levels, any_tried_is r.levels, h.over)
      (failure_among (tried_levels r.levels) (ranks o m xs) h.ranks_are (queries_concluded o m xs) refl)

  -- the answer that is due
  by_acts_is : (r : KeptOperation) → IsOperation m xs r o →
      option_or (option_map (λ l. Answer.Passed l) (passed r.over m r.levels)) (OperationRecords.failure_due m r) ≡
      Due.due_by_acts o m xs
  by_acts_is r h = ap₂ option_or (ap (λ over. option_map (λ l. Answer.Passed l) (passed over m r.levels)) h.over
      ∙ passed_is r.levels (ranks o m xs) h.ranks_are) (failure_is r h)

  pub due_is : (r : KeptOperation) → IsOperation m xs r o → OperationRecords.due m r ≡ Due.due o m r.confirmed xs
  due_is r h = ap₂ (λ k a. cond (r.confirmed && cuts_power k) (Some Answer.Confirmed) a) h.kind (by_acts_is r h)
