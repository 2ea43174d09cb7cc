-- Of an operation's slots only that at which it stands is under way: what makes this stay so.
use Rattle.std.proofs.Common.{
  ℕ,
  List,
  [],
  ◌∷◌,
  Bool,
  true,
  false,
  ◌≡◌,
  ◌==◌,
  refl,
  ap,
  ap₂,
  sym,
  ◌∙◌,
  subst,
  Option,
  Some,
  None,
  not,
  is_some,
  ◌&&◌,
}
use Rattle.std.proofs.lemmas.Bool.{and_parts, not-true, both_ways}
use Rattle.std.specs.List.{list_all, AllByRecursion}
use Rattle.fnc_journal.specs.declared.entry.Slot.{Slot}
use Rattle.fnc_journal.specs.Same.{same_slot}
use Rattle.fnc_journal.specs.Slots.{Task, Operation, queries, slots_of, tries}
use Rattle.fnc_journal.specs.Acts.{
  Act,
  Last,
  is_query,
  is_query_phase,
  begun_at,
  concluded,
  failed,
  has_succeeded,
  last_run,
}
use Rattle.fnc_journal.specs.Standing.{queries_concluded, ranks, slots, standing}
use Rattle.fnc_journal.proofs.Each.{each-left, each-right, each-map}
use Rattle.fnc_journal.proofs.AliveRuns.{slot_same}
use Rattle.fnc_stands.specs.Still.{is_under_way}
use Rattle.fnc_stands.proofs.Lists.{IsIn, each-in, each-joined}
use Rattle.fnc_stands.proofs.Alike.{Alike, queries_concluded-alike, ranks-alike, slots-alike, standing-alike}
use Rattle.fnc_stands.proofs.Sound.{IsSound, ranks-acting, each-both}
use Rattle.fnc_stands.proofs.Standing.{ranks_by, standing-open}

-- a slot has neither succeeded nor failed as often as it may
pub record IsTrying (over : ℕ) (xs : List Act) (t : Task) : Type 0 where
  pub unsuccessful : has_succeeded t over xs ≡ false
  pub unfailed : (failed t over xs == tries t) ≡ false

-- a slot is under way only where the operation stands at it, and while a run of it is alive it is tried
pub record IsKept (o : Operation) (m : ℕ) (xs : List Act) (t : Task) : Type 0 where
  pub only : is_under_way o m xs t ≡ true → standing o m xs ≡ Some t
  pub trying : (run : ℕ) → last_run t.slot xs ≡ Last.Alive run → IsTrying o.over xs t

-- the slot of which an act speaks
abbrev pub slot_in : Act → Slot
slot_in (Act.Begun moment run slot) = slot
slot_in (Act.Ended moment slot exit listed) = slot

-- only queries were run so far
abbrev pub AreQueries : List Act → Type 0
AreQueries xs = AllByRecursion (λ a. is_query_phase (slot_in a).phase ≡ true) xs

-- each slot is so, and while it is not known which levels are tried only queries were run
pub record IsOneByOne (o : Operation) (m : ℕ) (xs : List Act) : Type 0 where
  pub each : AllByRecursion (IsKept o m xs) (slots o m xs)
  pub queried : o.levelled ≡ false → queries_concluded o m xs ≡ false → AreQueries xs

-- what becomes of a slot: it stays as it is, but where the operation stands at it and it is concluded now; it begins
-- only where the operation stands at it
pub record IsStep (o : Operation) (m : ℕ) (xs : List Act) (n : ℕ) (ys : List Act) (t : Task) : Type 0 where
  pub alike : (standing o m xs ≡ Some t → concluded t o.over n ys ≡ true → ⊥) → Alike o.over m xs n ys t
  pub begun : is_some (begun_at t.slot ys) ≡ true → is_some (begun_at t.slot xs) ≡ false → standing o m xs ≡ Some t
  pub trying : (run : ℕ) → last_run t.slot ys ≡ Last.Alive run → IsTrying o.over ys t

-- a query's slot is no slot of a level
other-kind : (t : Task) (s : Slot) → is_query t ≡ false → is_query_phase s.phase ≡ true → same_slot t.slot s ≡ false
other-kind t s k q = go (same_slot t.slot s) refl
  where
    go : (b : Bool) → same_slot t.slot s ≡ b → b ≡ false
    go false e = refl
    go true e =
        absurd (both_ways (is_query t) k (ap (λ (w : Slot). is_query_phase w.phase) (slot_same t.slot s e) ∙ q))

-- while only queries were run, no slot of a level was
never-begun : (t : Task) → is_query t ≡ false → (xs : List Act) → AreQueries xs → begun_at t.slot xs ≡ None
never-begun t k [] a = refl
never-begun t k (Act.Begun m run s ∷ xs) a = rw (never-begun t k xs a.1, other-kind t s k a.0) refl
never-begun t k (Act.Ended m s exit listed ∷ xs) a = rw (never-begun t k xs a.1) refl

never-ran : (t : Task) → is_query t ≡ false → (xs : List Act) → AreQueries xs → last_run t.slot xs ≡ Last.NoRun
never-ran t k [] a = refl
never-ran t k (Act.Begun m run s ∷ xs) a = rw (other-kind t s k a.0) (never-ran t k xs a.1)
never-ran t k (Act.Ended m s exit listed ∷ xs) a = rw (other-kind t s k a.0) (never-ran t k xs a.1)

never_alive : (run : ℕ) → Last.NoRun ≡ Last.Alive run → ⊥
never_alive run e = cc

-- so it is not under way
kept-unrun : (o : Operation) (m : ℕ) (xs : List Act) (t : Task) → is_query t ≡ false → AreQueries xs → IsKept o m xs t
kept-unrun o m xs t k a = record {
  only = λ u. absurd (both_ways (is_under_way o m xs t)
      (ap (λ x. is_some x && not (concluded t o.over m xs)) (never-begun t k xs a)) u);
  trying = λ run e. absurd (never_alive run (sym (never-ran t k xs a) ∙ e));
}

some_task : (s t : Task) → ◌≡◌ {A = Option Task} (Some s) (Some t) → s ≡ t
some_task s t e = cc

module _ (o : Operation) (sound : IsSound o) (m : ℕ) (xs : List Act) (n : ℕ) (ys : List Act)
    (before : IsOneByOne o m xs) (steps : AllByRecursion (IsStep o m xs n ys) (slots o m xs))
    (asks : o.levelled ≡ false → queries_concluded o m xs ≡ false → AreQueries xs → AreQueries ys) where
  -- a slot that is under way now was so before or begins
  was : (t : Task) → IsIn t (slots o m xs) → is_under_way o n ys t ≡ true →
      (standing o m xs ≡ Some t → concluded t o.over n ys ≡ true → ⊥) → standing o m xs ≡ Some t
  was t i u stays = go (is_some (begun_at t.slot xs)) refl
    where
      now : (is_some (begun_at t.slot ys) ≡ true) × (not (concluded t o.over n ys) ≡ true)
      now = and_parts (is_some (begun_at t.slot ys)) (not (concluded t o.over n ys)) u

      s : IsStep o m xs n ys t
      s = i (IsStep o m xs n ys) steps

      ahead : concluded t o.over m xs ≡ false
      ahead = sym (s.alike stays).concluded_same ∙ not-true (concluded t o.over n ys) now.1

      go : (b : Bool) → is_some (begun_at t.slot xs) ≡ b → standing o m xs ≡ Some t
      go true e = (i (IsKept o m xs) before.each).only (ap₂ (λ a b. a && not b) e ahead)
      go false e = s.begun now.0 e

  -- the slot at which it stands is not concluded now
  module _ (unfinished : (t : Task) → standing o m xs ≡ Some t → concluded t o.over n ys ≡ true → ⊥) where
    all-alike : AllByRecursion (Alike o.over m xs n ys) (slots o m xs)
    all-alike = each-map (IsStep o m xs n ys) (Alike o.over m xs n ys) (slots o m xs)
        (λ t s. s.alike (unfinished t)) steps

    queries-alike : AllByRecursion (Alike o.over m xs n ys) (queries o)
    queries-alike = each-left (Alike o.over m xs n ys) (queries o) (slots_of (ranks o m xs)) all-alike

    stands : standing o n ys ≡ standing o m xs
    stands =
        standing-alike o m xs n ys queries-alike
        (each-both (λ t. is_query t ≡ false) (Alike o.over m xs n ys) (slots_of (ranks o m xs))
        (ranks-acting o sound m xs)
        (each-right (Alike o.over m xs n ys) (queries o) (slots_of (ranks o m xs)) all-alike))

    going-on : IsOneByOne o n ys
    going-on = record {
      each = subst (AllByRecursion (IsKept o n ys)) (sym (slots-alike o m xs n ys queries-alike))
          (each-in (IsKept o n ys) (slots o m xs) (λ t i. record {
            only = λ u. stands ∙ was t i u (unfinished t);
            trying = (i (IsStep o m xs n ys) steps).trying;
          }));
      queried = λ l q.
          let early : queries_concluded o m xs ≡ false =
          sym (queries_concluded-alike o m xs n ys queries-alike) ∙ q in
          asks l early (before.queried l early);
    }

  -- it is: then none is under way
  module _ (s : Task) (at : standing o m xs ≡ Some s) (finished : concluded s o.over n ys ≡ true) where
    none : (t : Task) → IsIn t (slots o m xs) → is_under_way o n ys t ≡ true → ⊥
    none t i u = both_ways (concluded t o.over n ys) ahead
        (ap (λ w. concluded w o.over n ys) (some_task t s (sym (was t i u (λ e c. both_ways (concluded t o.over n ys)
        ahead c)) ∙ at)) ∙ finished)
      where
        ahead : concluded t o.over n ys ≡ false
        ahead = not-true (concluded t o.over n ys)
            (and_parts (is_some (begun_at t.slot ys)) (not (concluded t o.over n ys)) u).1

    known : AllByRecursion (IsKept o n ys) (slots o m xs)
    known = each-in (IsKept o n ys) (slots o m xs) (λ t i. record {
      only = λ u. absurd (none t i u);
      trying = (i (IsStep o m xs n ys) steps).trying;
    })

    -- a query that was concluded stays as it was
    settled-queries : queries_concluded o m xs ≡ true → AllByRecursion (Alike o.over m xs n ys) (queries o)
    settled-queries c = go (queries o) c (each-left (IsStep o m xs n ys) (queries o) (slots_of (ranks o m xs)) steps)
      where
        go : (ts : List Task) → list_all (λ q. concluded q o.over m xs) ts ≡ true →
            AllByRecursion (IsStep o m xs n ys) ts → AllByRecursion (Alike o.over m xs n ys) ts
        go [] c a = tt
        go (t ∷ ts) c a =
            let parts = and_parts (concluded t o.over m xs) (list_all (λ q. concluded q o.over m xs) ts) c in (
              a.0.alike (λ e f. both_ways (concluded t o.over m xs) (standing-open o sound m xs t e) parts.0),
              go ts parts.1 a.1,
            )

    known-ranks : AllByRecursion (IsKept o n ys) (slots_of (ranks o m xs))
    known-ranks = each-right (IsKept o n ys) (queries o) (slots_of (ranks o m xs)) known

    levels-kept : AllByRecursion (IsKept o n ys) (slots_of (ranks o n ys))
    levels-kept = go o.levelled refl (queries_concluded o m xs) refl
      where
        go : (l : Bool) → o.levelled ≡ l → (c : Bool) → queries_concluded o m xs ≡ c →
            AllByRecursion (IsKept o n ys) (slots_of (ranks o n ys))
        go true l c e =
            let same : ranks o n ys ≡ ranks o m xs =
            ranks_by o n ys true (queries_concluded o n ys) l refl
            ∙ sym (ranks_by o m xs true (queries_concluded o m xs) l refl) in
            subst (λ ls. AllByRecursion (IsKept o n ys) (slots_of ls)) (sym same) known-ranks
        go false l true e =
            subst (λ ls. AllByRecursion (IsKept o n ys) (slots_of ls))
            (sym (ranks-alike o m xs n ys (settled-queries e))) known-ranks
        go false l false e =
            each-map (λ t. is_query t ≡ false) (IsKept o n ys) (slots_of (ranks o n ys))
            (λ t k. kept-unrun o n ys t k (asks l e (before.queried l e))) (ranks-acting o sound n ys)

    one-done : IsOneByOne o n ys
    one-done = record {
      each = each-joined (IsKept o n ys) (queries o) (slots_of (ranks o n ys))
          (each-left (IsKept o n ys) (queries o) (slots_of (ranks o m xs)) known) levels-kept;
      queried = λ l q. go l q (queries_concluded o m xs) refl;
    }
      where
        go : o.levelled ≡ false → queries_concluded o n ys ≡ false → (c : Bool) → queries_concluded o m xs ≡ c →
            AreQueries ys
        go l q true e =
            absurd (both_ways (queries_concluded o n ys) q
            (queries_concluded-alike o m xs n ys (settled-queries e) ∙ e))
        go l q false e = asks l e (before.queried l e)

  pub stays-one : IsOneByOne o n ys
  stays-one = go (standing o m xs) refl
    where
      decided : (s : Task) → standing o m xs ≡ Some s → (b : Bool) → concluded s o.over n ys ≡ b → IsOneByOne o n ys
      decided s e true c = one-done s e c
      decided s e false c =
          going-on (λ t f d. both_ways (concluded t o.over n ys)
          (ap (λ w. concluded w o.over n ys) (some_task t s (sym f ∙ e)) ∙ c) d)

      go : (x : Option Task) → standing o m xs ≡ x → IsOneByOne o n ys
      go None e = going-on (λ t f d. nowhere t (sym e ∙ f))
        where
          nowhere : (t : Task) → ◌≡◌ {A = Option Task} None (Some t) → ⊥
          nowhere t e = cc
      go (Some s) e = decided s e (concluded s o.over n ys) refl
