-- What is known of the slots of each operation of a journal: which are queries, and that no two are the same.
use Rattle.std.proofs.Common.{
  ℕ,
  List,
  [],
  ◌∷◌,
  ◌++◌,
  Bool,
  true,
  false,
  ◌≡◌,
  ◌≤◌,
  ◌<◌,
  ◌+◌,
  ◌==◌,
  refl,
  ap,
  ◌∙◌,
  subst,
  Option,
  Some,
  None,
  cond,
  map,
  arith,
}
use Rattle.std.proofs.lemmas.Bool.{both_ways}
use Rattle.std.specs.Prelude.{filter_map, option_map, option_and_then}
use Rattle.std.specs.List.{AllByRecursion, cons_option}
use Rattle.fnc_journal.specs.declared.entry.Kind.{Kind}
use Rattle.fnc_journal.specs.declared.entry.Phase.{Phase}
use Rattle.fnc_journal.specs.declared.entry.Slot.{Slot}
use Rattle.fnc_journal.specs.declared.plan.Candidate.{Candidate}
use Rattle.fnc_journal.specs.declared.plan.Plan.{Plan}
use Rattle.fnc_journal.specs.declared.plan.PlanLevel.{PlanLevel}
use Rattle.fnc_journal.specs.History.{History}
use Rattle.fnc_journal.specs.Same.{same_slot}
use Rattle.fnc_journal.specs.Found.{Asked, asked}
use Rattle.fnc_journal.specs.Device.{Device}
use Rattle.fnc_journal.specs.Levels.{Level, scoped}
use Rattle.fnc_journal.specs.Plan.{plan, plan_level}
use Rattle.fnc_journal.specs.Slots.{
  Task,
  task,
  act_task,
  acts_from,
  ons_from,
  is_split,
  fit_devices,
  rank,
  rank_of,
  place_of,
  device_of,
  QueriedDevice,
  queried,
  queried_from,
  Rank,
  Operation,
  operation_of,
  queries,
  ranked_from,
  slots_of,
}
use Rattle.fnc_journal.specs.Acts.{Act, is_query, is_query_phase}
use Rattle.fnc_journal.specs.Standing.{capable, queries_concluded, ranks, slots}
use Rattle.fnc_journal.specs.Operations.{led, operation}
use Rattle.fnc_journal.proofs.Each.{each-map}
use Rattle.fnc_journal.proofs.AliveRuns.{slot_same}
use Rattle.fnc_journal.proofs.LawfulSteps.{same_slot-self}
use Rattle.fnc_journal.proofs.RisingLevels.{Above, Rising, scoped-rising}
use Rattle.fnc_stands.proofs.Lists.{each-joined}
use Rattle.fnc_stands.specs.Distinct.{AreDistinct}
use Rattle.fnc_stands.proofs.Distinct.{
  AreOfLevel,
  AreRising,
  distinct-joined,
  other-place,
  rank-distinct,
  ranks-distinct,
  ranked-distinct,
}

-- the slots of an operation's queries and of its levels
pub record IsSound (o : Operation) : Type 0 where
  pub asking : AllByRecursion (λ t. is_query t ≡ true) (queries o)
  pub acting : AllByRecursion (λ t. is_query t ≡ false) (slots_of o.levels)
  pub distinct : AreDistinct (queries o)
  pub levels_distinct : AreDistinct (slots_of o.levels)

-- the queries of candidates have rising places
abbrev queries_from : ℕ → History → List Candidate → List Task
queries_from place h cs = filter_map (λ (c : QueriedDevice). c.query) (queried_from place h cs)

queries-cut : (P : List Task → Type 0) (place : ℕ) (h : History) (c : Candidate) (cs : List Candidate) →
    ((d : Device) (kind : Kind) → P (task Phase.Query kind 0 place d ∷ queries_from (place + 1) h cs)) →
    P (queries_from (place + 1) h cs) → P (queries_from place h (c ∷ cs))
queries-cut P place h c cs more same = go (device_of h c.reg) c.query
  where
    go : (x : Option Device) (q : Option Kind) →
        P (filter_map (λ (c : QueriedDevice). c.query) (cons_option (option_map (queried place q) x)
        (queried_from (place + 1) h cs)))
    go None q = same
    go (Some d) None = same
    go (Some d) (Some kind) = more d kind

places-from : (place : ℕ) (h : History) (cs : List Candidate) → AllByRecursion (λ (t : Task). place ≤ t.slot.place)
    (queries_from place h cs)
places-from place h [] = tt
places-from place h (c ∷ cs) =
    let later : AllByRecursion (λ (t : Task). place ≤ t.slot.place) (queries_from (place + 1) h cs) =
    each-map (λ (t : Task). place + 1 ≤ t.slot.place) (λ (t : Task). place ≤ t.slot.place)
    (queries_from (place + 1) h cs) (λ t k. omega (arith, k)) (places-from (place + 1) h cs) in
    queries-cut (AllByRecursion (λ (t : Task). place ≤ t.slot.place)) place h c cs (λ d kind. (omega arith, later))
    later

queries-distinct : (place : ℕ) (h : History) (cs : List Candidate) → AreDistinct (queries_from place h cs)
queries-distinct place h [] = tt
queries-distinct place h (c ∷ cs) =
    queries-cut AreDistinct place h c cs
    (λ d kind. (
      each-map (λ (t : Task). place + 1 ≤ t.slot.place) _ (queries_from (place + 1) h cs)
          (λ u k. other-place u.slot (task Phase.Query kind 0 place d).slot (λ e. omega (arith, e, k)))
          (places-from (place + 1) h cs),
      queries-distinct (place + 1) h cs,
    ))
    (queries-distinct (place + 1) h cs)

queries-asking : (place : ℕ) (h : History) (cs : List Candidate) →
    AllByRecursion (λ (t : Task). is_query t ≡ true) (queries_from place h cs)
queries-asking place h [] = tt
queries-asking place h (c ∷ cs) =
    queries-cut (AllByRecursion (λ (t : Task). is_query t ≡ true)) place h c cs
    (λ d kind. (refl, queries-asking (place + 1) h cs)) (queries-asking (place + 1) h cs)

-- the slots of levels are no queries
abbrev AreActing : List Task → Type 0
AreActing ts = AllByRecursion (λ (t : Task). is_query t ≡ false) ts

acts-acting : (split : Bool) (kind : Kind) (level place : ℕ) (ds : List Device) →
    AreActing (acts_from split kind level place ds)
acts-acting split kind level place [] = tt
acts-acting split kind level place (d ∷ ds) = (here split, acts-acting split kind level (place + 1) ds)
  where
    here : (b : Bool) → is_query (act_task b kind level place d) ≡ false
    here true = refl
    here false = refl

ons-acting : (level place : ℕ) (ds : List Device) → AreActing (ons_from level place ds)
ons-acting level place [] = tt
ons-acting level place (d ∷ ds) = go d.definition.actions.on (ons-acting level (place + 1) ds)
  where
    go : (b : Bool) → AreActing (ons_from level (place + 1) ds) →
        AreActing (cons_option (cond b (Some (task Phase.On Kind.On level place d)) None)
        (ons_from level (place + 1) ds))
    go true a = (refl, a)
    go false a = a

rank-acting : (kind : Kind) (index : ℕ) (places : List (Option Device)) →
    AreActing ((rank kind index places).firsts ++ (rank kind index places).ons)
rank-acting kind index places =
    each-joined (λ (t : Task). is_query t ≡ false) (acts_from split kind index 0 ds)
    (cond split (ons_from index 0 ds) []) (acts-acting split kind index 0 ds) (go split)
  where
    ds : List Device
    ds = fit_devices places

    split : Bool
    split = is_split kind (fit_devices places)

    go : (b : Bool) → AreActing (cond b (ons_from index 0 (fit_devices places)) [])
    go true = ons-acting index 0 (fit_devices places)
    go false = tt

ranked-acting : (kind : Kind) (n : ℕ) (cs : List QueriedDevice) → AreActing (slots_of (ranked_from kind n cs))
ranked-acting kind n [] = tt
ranked-acting kind n (c ∷ cs) =
    let r : Rank = rank kind n (Some c.device ∷ []) in
    each-joined (λ (t : Task). is_query t ≡ false) (r.firsts ++ r.ons) (slots_of (ranked_from kind (n + 1) cs))
    (rank-acting kind n (Some c.device ∷ [])) (ranked-acting kind (n + 1) cs)

planned-acting : (kind : Kind) (h : History) (ls : List PlanLevel) → AreActing (slots_of (map (rank_of kind h) ls))
planned-acting kind h [] = tt
planned-acting kind h (l ∷ ls) =
    let r : Rank = rank_of kind h l in
    each-joined (λ (t : Task). is_query t ≡ false) (r.firsts ++ r.ons) (slots_of (map (rank_of kind h) ls))
    (rank-acting kind l.index (map (place_of kind h) l.devices)) (planned-acting kind h ls)

-- the levels of a plan rise by their numbers
abbrev AreFrom : ℕ → List Level → Type 0
AreFrom n ls = AllByRecursion (λ (k : Level). n ≤ k.index) ls

from-zero : (ls : List Level) → AreFrom 0 ls
from-zero [] = tt
from-zero (l ∷ ls) = (omega arith, from-zero ls)

from-above : (i : ℕ) (ls : List Level) → Above i ls → AreFrom (i + 1) ls
from-above i ls a =
    each-map (λ (k : Level). i < k.index) (λ (k : Level). i + 1 ≤ k.index) ls (λ k p. omega (arith, p)) a

planned-rising : (kind : Kind) (h : History) (n : ℕ) (ls : List Level) → AreFrom n ls → Rising ls →
    AreRising n (map (rank_of kind h) (map (plan_level h) ls))
planned-rising kind h n [] a r = tt
planned-rising kind h n (l ∷ ls) a r =
    (a.0, planned-rising kind h (l.index + 1) ls (from-above l.index ls r.0) r.1)

planned-each : (kind : Kind) (h : History) (ls : List PlanLevel) → AreOfLevel (map (rank_of kind h) ls)
planned-each kind h [] = tt
planned-each kind h (l ∷ ls) = (rank-distinct kind l.index (map (place_of kind h) l.devices), planned-each kind h ls)

-- so each operation of a journal is
abbrev plan_of : Asked → Plan
plan_of a = plan (record { kind = a.kind; target = a.target; begin = a.moment; scope = a.scope }) a.before

asked-sound : (r : ℕ) (a : Asked) → IsSound (operation_of r a)
asked-sound r a = record {
  asking = queries-asking 0 a.before (plan_of a).candidates;
  acting = planned-acting a.kind a.before (plan_of a).levels;
  distinct = queries-distinct 0 a.before (plan_of a).candidates;
  levels_distinct =
      let ls : List Level = scoped a.scope a.target a.before in
      ranks-distinct 0 (map (rank_of a.kind a.before) (plan_of a).levels)
      (planned-each a.kind a.before (plan_of a).levels)
      (planned-rising a.kind a.before 0 ls (from-zero ls) (scoped-rising a.scope a.target a.before));
}

pub operation-sound : (h : History) (r : ℕ) (o : Operation) → operation r h ≡ Some o → IsSound o
operation-sound h r o e = go (asked r h) e
  where
    this : (a : Asked) (b : Bool) → cond b (Some (operation_of r a)) None ≡ Some o → IsSound o
    this a true e = let same : operation_of r a ≡ o = cc in subst IsSound same (asked-sound r a)
    this a false e = cc

    go : (x : Option Asked) → option_and_then (led r) x ≡ Some o → IsSound o
    go None e = cc
    go (Some a) e = this a (r == a.lead) e

-- of two of these slots that pass as the same each is the other
abbrev pub AreOne : List Task → Type 0
AreOne ts = AllByRecursion (λ t. AllByRecursion (λ u. same_slot t.slot u.slot ≡ true → t ≡ u) ts) ts

pub each-both : {X : Type 0} (P Q : X → Type 0) (xs : List X) → AllByRecursion P xs → AllByRecursion Q xs →
    AllByRecursion (λ x. P x × Q x) xs
each-both P Q [] a b = tt
each-both P Q (x ∷ xs) a b = ((a.0, b.0), each-both P Q xs a.1 b.1)

distinct-one : (ts : List Task) → AreDistinct ts → AreOne ts
distinct-one [] d = tt
distinct-one (t ∷ ts) d = (
  (
    λ p. refl,
    each-map (λ u. same_slot u.slot t.slot ≡ false) (λ u. same_slot t.slot u.slot ≡ true → t ≡ u) ts
        (λ u k p. absurd (apart u k p)) d.0,
  ),
  each-both (λ u. same_slot u.slot t.slot ≡ true → u ≡ t) (λ u. AllByRecursion (λ v. same_slot u.slot v.slot ≡ true →
      u ≡ v) ts) ts
      (each-map (λ u. same_slot u.slot t.slot ≡ false) (λ u. same_slot u.slot t.slot ≡ true → u ≡ t) ts
      (λ u k p. absurd (both_ways (same_slot u.slot t.slot) k p)) d.0) (distinct-one ts d.1),
)
  where
    apart : (u : Task) → same_slot u.slot t.slot ≡ false → same_slot t.slot u.slot ≡ true → ⊥
    apart u k p =
        let same : t.slot ≡ u.slot = slot_same t.slot u.slot p in
        both_ways (same_slot u.slot t.slot) k (ap (λ w. same_slot u.slot w) same ∙ same_slot-self u.slot)

-- so are the slots of a sound operation at each moment
module _ (o : Operation) (sound : IsSound o) (m : ℕ) (xs : List Act) where
  pub ranks-acting : AllByRecursion (λ t. is_query t ≡ false) (slots_of (ranks o m xs))
  ranks-acting = go o.levelled (queries_concluded o m xs)
    where
      go : (b c : Bool) → AreActing (slots_of (cond b o.levels (cond c (ranked_from o.kind 1 (capable o xs)) [])))
      go true c = sound.acting
      go false true = ranked-acting o.kind 1 (capable o xs)
      go false false = tt

  tried-distinct : AreDistinct (slots_of (ranks o m xs))
  tried-distinct = go o.levelled (queries_concluded o m xs)
    where
      go : (b c : Bool) → AreDistinct (slots_of (cond b o.levels (cond c (ranked_from o.kind 1 (capable o xs)) [])))
      go true c = sound.levels_distinct
      go false true = ranked-distinct o.kind 1 (capable o xs)
      go false false = tt

  pub slots-one : AreOne (slots o m xs)
  slots-one =
      distinct-one (slots o m xs)
      (distinct-joined (queries o) (slots_of (ranks o m xs)) sound.distinct tried-distinct
      (each-map (λ t. is_query t ≡ true) (λ t. AllByRecursion (λ u. same_slot u.slot t.slot ≡ false)
      (slots_of (ranks o m xs))) (queries o)
      (λ t q. each-map (λ u. is_query u ≡ false) (λ u. same_slot u.slot t.slot ≡ false) (slots_of (ranks o m xs))
      (λ u k. apart u t k q) ranks-acting) sound.asking))
    where
      apart : (u t : Task) → is_query u ≡ false → is_query t ≡ true → same_slot u.slot t.slot ≡ false
      apart u t k q = go (same_slot u.slot t.slot) refl
        where
          go : (b : Bool) → same_slot u.slot t.slot ≡ b → b ≡ false
          go false e = refl
          go true e =
              absurd (both_ways (is_query u) k
              (ap (λ (w : Slot). is_query_phase w.phase) (slot_same u.slot t.slot e) ∙ q))
