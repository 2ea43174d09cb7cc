-- What is known of the slot at which an operation stands, and of the slot of a run that is alive.
use Rattle.std.proofs.Common.{
  ℕ,
  List,
  [],
  ◌∷◌,
  Bool,
  true,
  false,
  ◌≡◌,
  refl,
  ap,
  ap₂,
  sym,
  ◌∙◌,
  subst,
  Option,
  Some,
  None,
  cond,
  not,
  ◌&&◌,
  ◌||◌,
  ◌==◌,
  min,
  arith,
}
use Rattle.std.proofs.lemmas.Bool.{or_parts, not-true, both_ways}
use Rattle.std.proofs.lemmas.Bool.Decides.{nat_tests}
use Rattle.std.specs.Prelude.{find, option_map, option_and_then}
use Rattle.std.specs.List.{list_any, list_all, AllByRecursion}
use Rattle.std.specs.Option.{option_or}
use Rattle.fnc_journal.specs.declared.entry.Slot.{Slot}
use Rattle.fnc_journal.specs.Missing.{has_come, or_here}
use Rattle.fnc_journal.specs.Same.{same_slot}
use Rattle.fnc_journal.specs.Slots.{Task, Operation, Rank, queries, ranked_from, slots_of, tries}
use Rattle.fnc_journal.specs.Acts.{
  Act,
  Last,
  slot_of_run,
  last_run,
  is_query,
  is_query_phase,
  concluded,
  spent,
  failed,
  has_succeeded,
  end,
  is_below,
  confirmed,
}
use Rattle.fnc_journal.specs.Standing as Standing
use Rattle.fnc_journal.specs.Standing.{ranks, capable, queries_concluded, lost, is_lost_by, first_kept, standing_in}
use Rattle.fnc_journal.proofs.Each.{found-each, each-map}
use Rattle.fnc_journal.proofs.AliveRuns.{slot_same}
use Rattle.fnc_journal.proofs.LawfulSteps.{same_slot-self}
use Rattle.fnc_stands.specs.Distinct.{AreDistinct}
use Rattle.fnc_records.specs.declared.slot.LastRun.{LastRun}
use Rattle.fnc_records.specs.declared.slot.SlotRecord.{SlotRecord}
use Rattle.fnc_records.specs.KeptOperation.{KeptOperation}
use Rattle.fnc_records.specs.SlotFacts.{last_of}
use Rattle.fnc_records.specs.LevelFacts.{IsLevelSlot, IsQuerySlot, IsLevel}
use Rattle.fnc_records.specs.OperationFacts.{
  IsOperation,
  AreQueries,
  last_begun,
  kept_queries,
  tried_levels,
}
use Rattle.fnc_stands.proofs.Distinct.{ranked-distinct}
use Rattle.fnc_records.proofs.Searches.{found-passes, none-each, each-both, each-slots}
use Rattle.fnc_records.proofs.Zip.{zip_each}
use Rattle.fnc_records.proofs.SlotAnswers.{Agrees, last-agrees}
use Rattle.fnc_records.proofs.LevelSteps.{IsFree, AreFree}
use Rattle.fnc_records.proofs.OperationSteps.{IsLate}

-- of two distinct slots that pass as the same each is the other
alike : (ts : List Task) → AreDistinct ts → AllByRecursion (λ t. AllByRecursion (λ u. same_slot t.slot u.slot ≡ true →
    t ≡ u) ts) ts
alike [] d = tt
alike (t ∷ ts) d = (
  (
    λ p. refl,
    each-map (λ u. same_slot u.slot t.slot ≡ false) (λ u. same_slot t.slot u.slot ≡ true → t ≡ u) ts
        (λ u k p. absurd (apart u k p)) d.0,
  ),
  each-both (λ u. same_slot u.slot t.slot ≡ true → u ≡ t) (λ u. AllByRecursion (λ v. same_slot u.slot v.slot ≡ true →
      u ≡ v) ts) ts
      (each-map (λ u. same_slot u.slot t.slot ≡ false) (λ u. same_slot u.slot t.slot ≡ true → u ≡ t) ts
      (λ u k p. absurd (both_ways (same_slot u.slot t.slot) k p)) d.0) (alike ts d.1),
)
  where
    apart : (u : Task) → same_slot u.slot t.slot ≡ false → same_slot t.slot u.slot ≡ true → ⊥
    apart u k p = let same : t.slot ≡ u.slot = slot_same t.slot u.slot p in both_ways (same_slot u.slot t.slot) k
        (ap (λ w. same_slot u.slot w) same ∙ same_slot-self u.slot)

-- an Act or Off slot that is not confirmed, of a level that is not lost, is not concluded
open-by : (query succeeded spent : Bool) → query ≡ false → not (not query && succeeded) ≡ true →
    (spent && not (not query && succeeded)) ≡ false → (succeeded || spent) ≡ false
open-by true succeeded spent e f g = cc
open-by false true spent e f g = cc
open-by false false true e f g = cc
open-by false false false e f g = refl

module _ (o : Operation) (m : ℕ) (xs : List Act) where
  abbrev first_open : List Task → Option Task
  first_open ts = find (λ q. not (concluded q o.over m xs)) ts

  -- one of distinct slots that is not concluded is the only one of its slot
  distinct-free : (ts : List Task) (t0 : Task) → AreDistinct ts → concluded t0 o.over m xs ≡ false →
      ((P : Task → Type 0) → AllByRecursion P ts → P t0) → AllByRecursion (IsFree o m t0.slot xs) ts
  distinct-free ts t0 d open_now is_one =
      each-map (λ t. AllByRecursion (λ u. same_slot t.slot u.slot ≡ true → t ≡ u) ts) (IsFree o m t0.slot xs) ts
      (λ t a p. let same : t ≡ t0 = is_one (λ u. same_slot t.slot u.slot ≡ true → t ≡ u) a p in
      ap (λ w. concluded w o.over m xs) same ∙ open_now) (alike ts d)

  none-open : (ts : List Task) → first_open ts ≡ None → list_all (λ q. concluded q o.over m xs) ts ≡ true
  none-open [] e = refl
  none-open (t ∷ ts) e = go (concluded t o.over m xs) e (λ k. none-open ts k)
    where
      go : (b : Bool) → cond (not b) (Some t) (first_open ts) ≡ None →
          (first_open ts ≡ None → list_all (λ q. concluded q o.over m xs) ts ≡ true) →
          (b && list_all (λ q. concluded q o.over m xs) ts) ≡ true
      go true f ih = ih f
      go false f ih = cc

  -- a slot of a level is no query
  abbrev IsActing : Task → Type 0
  IsActing t = is_query t ≡ false

  abbrev AreActing : Rank → Type 0
  AreActing l = AllByRecursion IsActing l.firsts × AllByRecursion IsActing l.ons

  ranks-acting : (r : KeptOperation) → IsOperation m xs r o → AllByRecursion AreActing (ranks o m xs)
  ranks-acting r h =
      zip_each (IsLevel o xs) AreActing
      (λ a l k. (
        zip_each (IsLevelSlot o xs) IsActing (λ x y w. w.acting) a.firsts l.firsts k.firsts,
        zip_each
            (IsLevelSlot o xs) IsActing (λ x y w. w.acting) a.ons l.ons k.ons,
      ))
      (tried_levels r.levels) (ranks o m xs) h.ranks_are

  -- what each slot of the levels has, that at which it stands in one has
  in-level : (P : Task → Type 0) (l : Rank) (t : Task) → AllByRecursion P l.firsts × AllByRecursion P l.ons →
      standing_in o m xs l ≡ Some t → P t
  in-level P l t a e = go (find (λ t. not (confirmed t o.over xs)) l.firsts) refl e
    where
      go : (x : Option Task) → find (λ t. not (confirmed t o.over xs)) l.firsts ≡ x →
          option_or x (first_open l.ons) ≡ Some t → P t
      go None k f = found-each P _ l.ons t a.1 f
      go (Some u) k f = found-each P _ l.firsts t a.0 (k ∙ f)

  in-levels : (P : Task → Type 0) (ls : List Rank) (t : Task) →
      AllByRecursion (λ l. AllByRecursion P l.firsts × AllByRecursion P l.ons) ls →
      option_and_then (standing_in o m xs) (first_kept o m xs ls) ≡ Some t → P t
  in-levels P ls t a e = go (first_kept o m xs ls) refl e
    where
      go : (x : Option Rank) → first_kept o m xs ls ≡ x → option_and_then (standing_in o m xs) x ≡ Some t → P t
      go None k f = cc
      go (Some l) k f = in-level P l t (found-each (λ l. AllByRecursion P l.firsts × AllByRecursion P l.ons) _ ls l a
          k) f

  -- that slot is not concluded
  level-open : (l : Rank) (t : Task) → AreActing l → lost o m xs l ≡ false → standing_in o m xs l ≡ Some t →
      concluded t o.over m xs ≡ false
  level-open l t a unlost e = go (find (λ t. not (confirmed t o.over xs)) l.firsts) refl e
    where
      go : (x : Option Task) → find (λ t. not (confirmed t o.over xs)) l.firsts ≡ x →
          option_or x (first_open l.ons) ≡ Some t → concluded t o.over m xs ≡ false
      go None k f = not-true (concluded t o.over m xs) (found-passes (λ t. not (concluded t o.over m xs)) l.ons t f)
      go (Some u) k f =
          open-by (is_query t) (has_succeeded t o.over xs) (spent t o.over m xs) (found-each IsActing _ l.firsts t a.0
          (k ∙ f))
          (found-passes (λ t. not (confirmed t o.over xs)) l.firsts t (k ∙ f))
          (found-each (λ t. is_lost_by o m xs t ≡ false) _ l.firsts t (none-each (is_lost_by o m xs) l.firsts
          (or_parts l.unfit (list_any (is_lost_by o m xs) l.firsts) unlost).1) (k ∙ f))

  levels-open : (ls : List Rank) (t : Task) → AllByRecursion AreActing ls → option_and_then (standing_in o m xs)
      (first_kept o m xs ls) ≡ Some t → concluded t o.over m xs ≡ false
  levels-open ls t a e = go (first_kept o m xs ls) refl e
    where
      go : (x : Option Rank) → first_kept o m xs ls ≡ x → option_and_then (standing_in o m xs) x ≡ Some t →
          concluded t o.over m xs ≡ false
      go None k f = cc
      go (Some l) k f = level-open l t (found-each AreActing _ ls l a k)
          (not-true (lost o m xs l) (found-passes (λ l. not (lost o m xs l)) ls l k)) f

  pub standing-open : (r : KeptOperation) → IsOperation m xs r o → (t : Task) → Standing.standing o m xs ≡ Some t →
      concluded t o.over m xs ≡ false
  standing-open r h t e = go (first_open (queries o)) refl e
    where
      go : (x : Option Task) → first_open (queries o) ≡ x →
          option_or x (option_and_then (standing_in o m xs) (first_kept o m xs (ranks o m xs))) ≡ Some t →
          concluded t o.over m xs ≡ false
      go None k f = levels-open (ranks o m xs) t (ranks-acting r h) f
      go (Some u) k f = not-true (concluded t o.over m xs) (found-passes (λ q. not (concluded q o.over m xs))
          (queries o) t (k ∙ f))

  -- the slots of the levels that the operation tries are distinct
  ranks-apart : (r : KeptOperation) → IsOperation m xs r o → AreDistinct (slots_of (ranks o m xs))
  ranks-apart r h = go o.levelled (queries_concluded o m xs)
    where
      go : (a b : Bool) → AreDistinct (slots_of (cond a o.levels (cond b (ranked_from o.kind 1 (capable o xs)) [])))
      go true b = h.levels_distinct
      go false true = ranked-distinct o.kind 1 (capable o xs)
      go false false = tt

  abbrev IsAsking : Task → Type 0
  IsAsking t = is_query t ≡ true

  queries-asking : (r : KeptOperation) → IsOperation m xs r o → AllByRecursion IsAsking (queries o)
  queries-asking r h = zip_each (IsQuerySlot o xs) IsAsking (λ x y w. w.asking) (kept_queries r.levels) (queries o)
      h.queries_are

  -- the slot at which the operation stands is no concluded query
  pub standing-free : (r : KeptOperation) → IsOperation m xs r o → (t : Task) → Standing.standing o m xs ≡ Some t →
      AllByRecursion (IsFree o m t.slot xs) (queries o)
  standing-free r h t e = go (first_open (queries o)) refl e
    where
      go : (x : Option Task) → first_open (queries o) ≡ x →
          option_or x (option_and_then (standing_in o m xs) (first_kept o m xs (ranks o m xs))) ≡ Some t →
          AllByRecursion (IsFree o m t.slot xs) (queries o)
      go None k f =
          let acting : is_query t ≡ false = in-levels IsActing (ranks o m xs) t (ranks-acting r h) f in
          each-map IsAsking (IsFree o m t.slot xs) (queries o)
          (λ q a p. absurd (both_ways (is_query t) acting (ap (λ (w : Slot). is_query_phase w.phase)
          (sym (slot_same q.slot t.slot p)) ∙ a))) (queries-asking r h)
      go (Some u) k f = distinct-free (queries o) t h.distinct (standing-open r h t e)
          (λ P a. found-each P _ (queries o) t a (k ∙ f))

  -- and no concluded slot of a level
  pub levels-free : (r : KeptOperation) → IsOperation m xs r o → (t : Task) → Standing.standing o m xs ≡ Some t →
      AllByRecursion (AreFree o m t.slot xs) (ranks o m xs)
  levels-free r h t e = go (first_open (queries o)) refl e
    where
      go : (x : Option Task) → first_open (queries o) ≡ x →
          option_or x (option_and_then (standing_in o m xs) (first_kept o m xs (ranks o m xs))) ≡ Some t →
          AllByRecursion (AreFree o m t.slot xs) (ranks o m xs)
      go None k f =
          each-slots (IsFree o m t.slot xs) (ranks o m xs)
          (distinct-free (slots_of (ranks o m xs)) t (ranks-apart r h) (standing-open r h t e)
          (λ P a. in-levels P (ranks o m xs) t (each-slots P (ranks o m xs) a) f))
      go (Some u) k f =
          let asking : is_query t ≡ true = found-each IsAsking _ (queries o) t (queries-asking r h) (k ∙ f) in
          let other : (v : Task) → IsActing v → IsFree o m t.slot xs v =
          (λ v a p. absurd (both_ways (is_query v) a (ap (λ (w : Slot). is_query_phase w.phase)
          (slot_same v.slot t.slot p) ∙ asking))) in
          each-map AreActing (AreFree o m t.slot xs) (ranks o m xs)
          (λ l a. (
            each-map IsActing (IsFree o m t.slot xs) l.firsts other a.0,
            each-map IsActing
                (IsFree o m t.slot xs) l.ons other a.1,
          )) (ranks-acting r h)

  -- while it is not known which levels are tried, the operation stands at a query
  pub standing-query : (r : KeptOperation) → IsOperation m xs r o → (t : Task) → Standing.standing o m xs ≡ Some t →
      r.ranked ≡ false → is_query_phase t.slot.phase ≡ true
  standing-query r h t e f = go (first_open (queries o)) refl e
    where
      go : (x : Option Task) → first_open (queries o) ≡ x →
          option_or x (option_and_then (standing_in o m xs) (first_kept o m xs (ranks o m xs))) ≡ Some t →
          is_query_phase t.slot.phase ≡ true
      go None k g =
          let all : queries_concluded o m xs ≡ true = none-open (queries o) k in
          let u = h.unranked f in
          absurd (both_ways (o.levelled || queries_concluded o m xs) (sym h.ranked_is ∙ f) (ap₂ ◌||◌ u.unlevelled all))
      go (Some u) k g = found-each IsAsking _ (queries o) t (queries-asking r h) (k ∙ g)

-- while only queries were run, each run is one of a query
pub run-query : (n : ℕ) (xs : List Act) (s : Slot) → AreQueries xs → slot_of_run n xs ≡ Some s →
    is_query_phase s.phase ≡ true
run-query n [] s a e = cc
run-query n (Act.Begun m run slot ∷ xs) s a e = go (slot_of_run n xs) (n == run) e (λ k. run-query n xs s a.1 k)
  where
    some_slot : (u w : Slot) → ◌≡◌ {A = Option Slot} (Some u) (Some w) → u ≡ w
    some_slot u w e = cc

    go : (x : Option Slot) (b : Bool) → or_here x (cond b (Some slot) None) ≡ Some s →
        (x ≡ Some s → is_query_phase s.phase ≡ true) → is_query_phase s.phase ≡ true
    go None true f ih = subst (λ (w : Slot). is_query_phase w.phase ≡ true) (some_slot slot s f) a.0
    go None false f ih = cc
    go (Some w) true f ih = ih f
    go (Some w) false f ih = ih f
run-query n (Act.Ended m slot exit listed ∷ xs) s a e = run-query n xs s a.1 e

-- the last run of a slot that is alive is alive by its record too
pub alive-last : (xs : List Act) (s : Slot) (run : ℕ) → last_run s xs ≡ Last.Alive run → last_of s xs ≡ LastRun.Alive
    (last_begun s xs)
alive-last xs s run e = go (last_of s xs) refl (subst (Agrees (last_begun s xs) (last_of s xs)) e (last-agrees s xs))
  where
    go : (l : LastRun) → last_of s xs ≡ l → Agrees (last_begun s xs) l (Last.Alive run) → last_of s xs ≡ LastRun.Alive
        (last_begun s xs)
    go LastRun.NoRun k a = absurd a
    go (LastRun.Alive at) k a = k ∙ ap LastRun.Alive a
    go (LastRun.EndedAt at) k a = absurd a

-- a query that is concluded while its run is alive has come to its action's end
module _ (o : Operation) (m : ℕ) (xs : List Act) where
  late-end : (over : ℕ) (x : Option ℕ) → has_come x m ≡ true → is_below m (option_map (min over) x) ≡ false
  late-end over None e = cc
  late-end over (Some k) e = grind (arith, nat_tests, e)

  late-one : (s : Slot) (run : ℕ) → last_run s xs ≡ Last.Alive run → (r : SlotRecord) (t : Task) →
      IsQuerySlot o xs r t → IsLate o m s xs t
  late-one s run e r t h c p =
      let alive : last_of t.slot xs ≡ LastRun.Alive (last_begun t.slot xs) =
      alive-last xs t.slot run (ap (λ w. last_run w xs) (slot_same t.slot s p) ∙ e) in
      let k = h.trying.running (last_begun t.slot xs) (h.is.last_is ∙ alive) in
      let unsuccessful : has_succeeded t o.over xs ≡ false = sym h.is.succeeded ∙ k.0 in
      let unfailed : (failed t o.over xs == tries t) ≡ false = sym (ap₂ ◌==◌ h.is.failed_are h.is.tries_is) ∙ k.1 in
      late-end o.over (end t xs) (sym (ap₂ (λ a b. a || (b || has_come (end t xs) m)) unsuccessful unfailed) ∙ c)

  pub alive-late : (r : KeptOperation) → IsOperation m xs r o → (s : Slot) (run : ℕ) → last_run s xs ≡ Last.Alive run →
      AllByRecursion (IsLate o m s xs) (queries o)
  alive-late r h s run e = zip_each (IsQuerySlot o xs) (IsLate o m s xs) (late-one s run e) (kept_queries r.levels)
      (queries o) h.queries_are
