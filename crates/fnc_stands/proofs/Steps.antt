-- A start, an exit and the passing of time leave only the standing slot under way.
use Rattle.std.proofs.Common.{
  ℕ,
  List,
  [],
  ◌∷◌,
  Bool,
  true,
  false,
  ◌≡◌,
  ◌≤◌,
  ◌+◌,
  ◌==◌,
  refl,
  ap,
  ap₂,
  sym,
  ◌∙◌,
  Option,
  Some,
  None,
  cond,
  not,
  is_some,
  ◌&&◌,
  ◌||◌,
  min,
  arith,
}
use Rattle.std.proofs.lemmas.Bool.{or_parts, both_ways}
use Rattle.std.proofs.lemmas.Bool.Decides.{nat_tests}
use Rattle.std.specs.Prelude.{unwrap_or, option_map, option_and_then}
use Rattle.std.specs.List.{AllByRecursion}
use Rattle.fnc_journal.specs.declared.entry.Exit.{Exit}
use Rattle.fnc_journal.specs.declared.entry.Slot.{Slot}
use Rattle.fnc_journal.specs.Exits.{is_success}
use Rattle.fnc_journal.specs.Missing.{or_here, has_come}
use Rattle.fnc_journal.specs.Same.{same_slot}
use Rattle.fnc_journal.specs.Slots.{Task, Operation, queries, slots_of, time, tries}
use Rattle.fnc_journal.specs.Acts.{
  Act,
  Last,
  is_query,
  is_query_phase,
  begun_at,
  end,
  limit,
  is_below,
  concluded,
  spent,
  failed,
  has_succeeded,
  has_listed,
  last_run,
}
use Rattle.fnc_journal.specs.Standing.{ranks, slots, standing}
use Rattle.fnc_journal.proofs.Each.{each-left, each-right}
use Rattle.fnc_journal.proofs.AliveRuns.{slot_same}
use Rattle.fnc_stands.specs.Still.{standing_end, StandsStill}
use Rattle.fnc_stands.proofs.Lists.{IsIn, each-in}
use Rattle.fnc_stands.proofs.Alike.{Alike, standing-alike, since-alike, ready-alike}
use Rattle.fnc_stands.proofs.Sound.{IsSound, slots-one, ranks-acting, each-both}
use Rattle.fnc_stands.proofs.Standing.{standing-in, standing-open, standing-query}
use Rattle.fnc_stands.proofs.UnderWay.{IsTrying, IsKept, AreQueries, IsOneByOne, IsStep, stays-one}

-- before any act
unrun-queries : (o : Operation) (m : ℕ) → (t : Task) → IsKept o m [] t
unrun-queries o m t = record { only = λ u. cc; trying = λ run e. absurd (never run e) }
  where
    never : (run : ℕ) → Last.NoRun ≡ Last.Alive run → ⊥
    never run e = cc

pub one-unrun : (o : Operation) (m : ℕ) → IsOneByOne o m []
one-unrun o m = record {
  each = each-in (IsKept o m []) (slots o m []) (λ t i. unrun-queries o m t);
  queried = λ l q. tt;
}

-- a slot of which a run is alive was begun
begun-alive : (s : Slot) (xs : List Act) (run : ℕ) → last_run s xs ≡ Last.Alive run → is_some (begun_at s xs) ≡ true
begun-alive s [] run e = absurd (never e)
  where
    never : Last.NoRun ≡ Last.Alive run → ⊥
    never e = cc
begun-alive s (Act.Begun m r slot ∷ xs) run e = go (same_slot s slot) e (λ k. begun-alive s xs run k)
  where
    here : (x : Option ℕ) → is_some (or_here x (Some m)) ≡ true
    here None = refl
    here (Some k) = refl

    go : (b : Bool) → unwrap_or (cond b (Some (Last.Alive r)) None) (last_run s xs) ≡ Last.Alive run →
        (last_run s xs ≡ Last.Alive run → is_some (begun_at s xs) ≡ true) →
        is_some (or_here (begun_at s xs) (cond b (Some m) None)) ≡ true
    go true f ih = here (begun_at s xs)
    go false f ih = ih f
begun-alive s (Act.Ended m slot exit listed ∷ xs) run e = go (same_slot s slot) e (λ k. begun-alive s xs run k)
  where
    go : (b : Bool) → unwrap_or (cond b (Some (Last.EndedAt m)) None) (last_run s xs) ≡ Last.Alive run →
        (last_run s xs ≡ Last.Alive run → is_some (begun_at s xs) ≡ true) → is_some (begun_at s xs) ≡ true
    go true f ih = cc
    go false f ih = ih f

-- while only queries were run, an alive run is one of a query
query-alive : (s : Slot) (xs : List Act) (run : ℕ) → AreQueries xs → last_run s xs ≡ Last.Alive run →
    is_query_phase s.phase ≡ true
query-alive s [] run a e = absurd (never e)
  where
    never : Last.NoRun ≡ Last.Alive run → ⊥
    never e = cc
query-alive s (Act.Begun m r slot ∷ xs) run a e = go (same_slot s slot) refl e (λ k. query-alive s xs run a.1 k)
  where
    go : (b : Bool) → same_slot s slot ≡ b →
        unwrap_or (cond b (Some (Last.Alive r)) None) (last_run s xs) ≡ Last.Alive run →
        (last_run s xs ≡ Last.Alive run → is_query_phase s.phase ≡ true) → is_query_phase s.phase ≡ true
    go true k f ih = ap (λ (w : Slot). is_query_phase w.phase) (slot_same s slot k) ∙ a.0
    go false k f ih = ih f
query-alive s (Act.Ended m slot exit listed ∷ xs) run a e = go (same_slot s slot) e (λ k. query-alive s xs run a.1 k)
  where
    go : (b : Bool) → unwrap_or (cond b (Some (Last.EndedAt m)) None) (last_run s xs) ≡ Last.Alive run →
        (last_run s xs ≡ Last.Alive run → is_query_phase s.phase ≡ true) → is_query_phase s.phase ≡ true
    go true f ih = cc
    go false f ih = ih f

-- a start of the slot at which the operation stands
module _ (o : Operation) (sound : IsSound o) (m run : ℕ) (s : Task) (xs : List Act)
    (stands : standing o m xs ≡ Some s) (before : IsOneByOne o m xs) where
  abbrev ys : List Act
  ys = Act.Begun m run s.slot ∷ xs

  begun-step : (t : Task) → IsIn t (slots o m xs) → IsStep o m xs m (Act.Begun m run s.slot ∷ xs) t
  begun-step t i = go (same_slot t.slot s.slot) refl
    where
      this : same_slot t.slot s.slot ≡ true → standing o m xs ≡ Some t
      this e =
          let same : t ≡ s =
          standing-in o sound m xs s stands (λ u. same_slot t.slot u.slot ≡ true → t ≡ u)
          (i (λ w. AllByRecursion (λ u. same_slot w.slot u.slot ≡ true → w ≡ u) (slots o m xs))
          (slots-one o sound m xs)) e in
          stands ∙ ap Some (sym same)

      go : (b : Bool) → same_slot t.slot s.slot ≡ b → IsStep o m xs m (Act.Begun m run s.slot ∷ xs) t
      go true e =
          let before_that : concluded t o.over m xs ≡ false = standing-open o sound m xs t (this e) in
          let parts = or_parts (has_succeeded t o.over xs) (spent t o.over m xs) before_that in record {
            alike = λ stays. record {
              succeeded = refl;
              concluded_same = unless (concluded t o.over m ys) (stays (this e)) ∙ sym before_that;
              listed = refl;
            };
            begun = λ a b. this e;
            trying = λ r k. record {
              unsuccessful = parts.0;
              unfailed = (or_parts (failed t o.over xs == tries t) (has_come (end t xs) m) parts.1).0;
            };
          }
        where
          unless : (b : Bool) → (b ≡ true → ⊥) → b ≡ false
          unless true k = absurd (k refl)
          unless false k = refl
      go false e = record {
        alike = λ stays. record { succeeded = refl; concluded_same = rw e refl; listed = refl };
        begun = λ a b. absurd (both_ways (is_some (begun_at t.slot xs)) b (same ∙ a));
        trying = λ r k.
            let h = (i (IsKept o m xs) before.each).trying r (sym last ∙ k) in
            record { unsuccessful = h.unsuccessful; unfailed = h.unfailed };
      }
        where
          same : is_some (begun_at t.slot xs) ≡ is_some (begun_at t.slot (Act.Begun m run s.slot ∷ xs))
          same = rw e refl

          last : last_run t.slot (Act.Begun m run s.slot ∷ xs) ≡ last_run t.slot xs
          last = rw e refl

  pub one-begun : IsOneByOne o m (Act.Begun m run s.slot ∷ xs)
  one-begun =
      stays-one o sound m xs m (Act.Begun m run s.slot ∷ xs) before
      (each-in (IsStep o m xs m (Act.Begun m run s.slot ∷ xs)) (slots o m xs) begun-step)
      (λ l q a. (standing-query o sound m xs s stands q, a))

-- an exit of a run that is alive
module _ (o : Operation) (sound : IsSound o) (m run : ℕ) (s : Slot) (exit : Exit) (listed : Bool) (xs : List Act)
    (alive : last_run s xs ≡ Last.Alive run) (before : IsOneByOne o m xs) where
  late : (over : ℕ) (x : Option ℕ) → has_come x m ≡ true → is_below m (option_map (min over) x) ≡ false
  late over None e = cc
  late over (Some k) e = grind (arith, nat_tests, e)

  -- of an exit that is late
  ended-late : (t : Task) → is_below m (limit t o.over xs) ≡ false →
      Alike o.over m xs m (Act.Ended m s exit listed ∷ xs) t
  ended-late t e = go (same_slot t.slot s) refl
    where
      go : (b : Bool) → same_slot t.slot s ≡ b → Alike o.over m xs m (Act.Ended m s exit listed ∷ xs) t
      go true k = record { succeeded = rw (k, e) refl; concluded_same = rw (k, e) refl; listed = rw (k, e) refl }
      go false k = record { succeeded = rw k refl; concluded_same = rw k refl; listed = rw k refl }

  -- of one in time that does not conclude the slot
  ended-open : (t : Task) → concluded t o.over m xs ≡ false →
      concluded t o.over m (Act.Ended m s exit listed ∷ xs) ≡ false →
      Alike o.over m xs m (Act.Ended m s exit listed ∷ xs) t
  ended-open t e f =
      let now = or_parts (has_succeeded t o.over (Act.Ended m s exit listed ∷ xs))
      (spent t o.over m (Act.Ended m s exit listed ∷ xs)) f in
      let here = or_parts ((same_slot t.slot s && is_below m (limit t o.over xs)) && is_success t.kind exit)
      (has_succeeded t o.over xs) now.0 in record {
        succeeded = now.0 ∙ sym here.1;
        concluded_same = f ∙ sym e;
        listed = ap (λ b. (b && listed) || has_listed t o.over xs) here.0;
      }

  ended-step : (t : Task) → IsIn t (slots o m xs) → IsStep o m xs m (Act.Ended m s exit listed ∷ xs) t
  ended-step t i = go (same_slot t.slot s) refl
    where
      this : same_slot t.slot s ≡ true → (standing o m xs ≡ Some t →
          concluded t o.over m (Act.Ended m s exit listed ∷ xs) ≡ true → ⊥) → (b : Bool) → has_come (end t xs) m ≡ b →
          Alike o.over m xs m (Act.Ended m s exit listed ∷ xs) t
      this e stays true c = ended-late t (late o.over (end t xs) c)
      this e stays false c =
          ended-open t before_that
          (unless (concluded t o.over m (Act.Ended m s exit listed ∷ xs)) (stays stands))
        where
          unless : (b : Bool) → (b ≡ true → ⊥) → b ≡ false
          unless true k = absurd (k refl)
          unless false k = refl

          mine : last_run t.slot xs ≡ Last.Alive run
          mine = ap (λ w. last_run w xs) (slot_same t.slot s e) ∙ alive

          tried : IsTrying o.over xs t
          tried = (i (IsKept o m xs) before.each).trying run mine

          before_that : concluded t o.over m xs ≡ false
          before_that = rw (tried.unsuccessful, tried.unfailed, c) refl

          stands : standing o m xs ≡ Some t
          stands = (i (IsKept o m xs) before.each).only
              (ap₂ (λ a b. a && not b) (begun-alive t.slot xs run mine) before_that)

      go : (b : Bool) → same_slot t.slot s ≡ b → IsStep o m xs m (Act.Ended m s exit listed ∷ xs) t
      go true e = record {
        alike = λ stays. this e stays (has_come (end t xs) m) refl;
        begun = λ a b. absurd (both_ways (is_some (begun_at t.slot xs)) b a);
        trying = λ r k. absurd (never r (sym last ∙ k));
      }
        where
          last : last_run t.slot (Act.Ended m s exit listed ∷ xs) ≡ Last.EndedAt m
          last = rw e refl

          never : (r : ℕ) → Last.EndedAt m ≡ Last.Alive r → ⊥
          never r e = cc
      go false e = record {
        alike = λ stays. record {
          succeeded = rw e refl;
          concluded_same = rw e refl;
          listed = rw e refl;
        };
        begun = λ a b. absurd (both_ways (is_some (begun_at t.slot xs)) b a);
        trying = λ r k.
            let h = (i (IsKept o m xs) before.each).trying r (sym last ∙ k) in
            record { unsuccessful = rw e h.unsuccessful; unfailed = rw e h.unfailed };
      }
        where
          last : last_run t.slot (Act.Ended m s exit listed ∷ xs) ≡ last_run t.slot xs
          last = rw e refl

  pub one-ended : IsOneByOne o m (Act.Ended m s exit listed ∷ xs)
  one-ended =
      stays-one o sound m xs m (Act.Ended m s exit listed ∷ xs) before
      (each-in (IsStep o m xs m (Act.Ended m s exit listed ∷ xs)) (slots o m xs) ended-step)
      (λ l q a. (query-alive s xs run a alive, a))

-- time passes
module _ (o : Operation) (sound : IsSound o) (k m : ℕ) (xs : List Act) (later : k ≤ m)
    (before : IsOneByOne o k xs) where
  come-later : (x : Option ℕ) → has_come x k ≡ true → has_come x m ≡ true
  come-later None e = cc
  come-later (Some at) e = grind (arith, nat_tests, later, e)

  -- what is concluded stays so; what was never begun, and what has not come to its end, stays as it was
  concluded-later : (a f c d : Bool) → (c ≡ true → d ≡ true) → (c ≡ false → a ≡ false → f ≡ false → d ≡ false) →
      (a || (f || d)) ≡ (a || (f || c))
  concluded-later true f c d g h = refl
  concluded-later false true c d g h = refl
  concluded-later false false true d g h = g refl
  concluded-later false false false d g h = h refl refl refl

  unended : (t : Task) → is_some (begun_at t.slot xs) ≡ false → has_come (end t xs) m ≡ false
  unended t e = go (begun_at t.slot xs) e
    where
      go : (x : Option ℕ) → is_some x ≡ false → has_come (option_map (λ n. n + time t) x) m ≡ false
      go None f = refl
      go (Some n) f = cc

  passed-alike : (t : Task) → IsIn t (slots o k xs) →
      (standing o k xs ≡ Some t → concluded t o.over m xs ≡ true → ⊥) → Alike o.over k xs m xs t
  passed-alike t i stays = record {
    succeeded = refl;
    concluded_same =
        concluded-later (has_succeeded t o.over xs) (failed t o.over xs == tries t) (has_come (end t xs) k)
        (has_come (end t xs) m) (come-later (end t xs))
        (λ c a f. ahead (has_come (end t xs) m) refl c a f (is_some (begun_at t.slot xs)) refl);
    listed = refl;
  }
    where
      ahead : (d : Bool) → has_come (end t xs) m ≡ d → has_come (end t xs) k ≡ false → has_succeeded t o.over xs ≡
          false → (failed t o.over xs == tries t) ≡ false → (b : Bool) → is_some (begun_at t.slot xs) ≡ b → d ≡ false
      ahead false g c a f b e = refl
      ahead true g c a f false e = sym g ∙ unended t e
      ahead true g c a f true e =
          let early : concluded t o.over k xs ≡ false = rw (a, f, c) refl in
          let stands : standing o k xs ≡ Some t =
          (i (IsKept o k xs) before.each).only (ap₂ (λ x y. x && not y) e early) in
          let over_now : concluded t o.over m xs ≡ true = rw (a, f, g) refl in
          absurd (stays stands over_now)

  passed-step : (t : Task) → IsIn t (slots o k xs) → IsStep o k xs m xs t
  passed-step t i = record {
    alike = passed-alike t i;
    begun = λ a b. absurd (both_ways (is_some (begun_at t.slot xs)) b a);
    trying = (i (IsKept o k xs) before.each).trying;
  }

  pub one-later : IsOneByOne o m xs
  one-later =
      stays-one o sound k xs m xs before (each-in (IsStep o k xs m xs) (slots o k xs) passed-step) (λ l q a. a)

  -- until the standing slot comes to its end the operation stands still
  module _ (ahead : has_come (standing_end o k xs) m ≡ false) where
    stays : (t : Task) → standing o k xs ≡ Some t → concluded t o.over m xs ≡ true → ⊥
    stays t e c =
        let parts = or_parts (has_succeeded t o.over xs) (spent t o.over k xs) (standing-open o sound k xs t e) in
        let tried = or_parts (failed t o.over xs == tries t) (has_come (end t xs) k) parts.1 in
        let none : has_come (end t xs) m ≡ false =
        sym (ap (λ x. has_come (option_and_then (λ w. end w xs) x) m) e) ∙ ahead in
        let never : concluded t o.over m xs ≡ false = rw (parts.0, tried.0, none) refl in
        both_ways (concluded t o.over m xs) never c

    all-alike : AllByRecursion (Alike o.over k xs m xs) (slots o k xs)
    all-alike = each-in (Alike o.over k xs m xs) (slots o k xs) (λ t i. passed-alike t i (stays t))

    queries-alike : AllByRecursion (Alike o.over k xs m xs) (queries o)
    queries-alike = each-left (Alike o.over k xs m xs) (queries o) (slots_of (ranks o k xs)) all-alike

    pub stands-still : StandsStill o k m xs
    stands-still =
        let since = since-alike o k m xs queries-alike all-alike in record {
          stands =
              standing-alike o k xs m xs queries-alike
              (each-both (λ t. is_query t ≡ false) (Alike o.over k xs m xs) (slots_of (ranks o k xs))
              (ranks-acting o sound k xs)
              (each-right (Alike o.over k xs m xs) (queries o) (slots_of (ranks o k xs)) all-alike));
          since_same = since;
          ready_same = ready-alike o k m xs since;
        }
