-- The records of levels and candidates of an operation that begins are those of its levels and candidates.
use Rattle.std.proofs.Common.{
  ℕ,
  List,
  [],
  ◌∷◌,
  Bool,
  true,
  false,
  ◌≤◌,
  ◌+◌,
  refl,
  Option,
  Some,
  None,
  cond,
  arith,
  length,
  map,
}
use Rattle.std.specs.Prelude.{option_map, filter_map}
use Rattle.std.specs.List.{AllZip, AllByRecursion, cons_option}
use Rattle.fnc_journal.specs.declared.entry.Kind.{Kind}
use Rattle.fnc_journal.specs.declared.entry.Phase.{Phase}
use Rattle.fnc_journal.specs.declared.plan.Candidate.{Candidate}
use Rattle.fnc_journal.specs.declared.plan.PlanLevel.{PlanLevel}
use Rattle.fnc_journal.specs.History.{History}
use Rattle.fnc_journal.specs.Device.{Device}
use Rattle.fnc_journal.specs.Slots.{
  Task,
  Operation,
  QueriedDevice,
  task,
  act_task,
  acts_from,
  ons_from,
  is_split,
  fit_devices,
  rank_of,
  device_of,
  place_of,
  queried,
  queried_from,
}
use Rattle.fnc_journal.proofs.Each.{each-map}
use Rattle.fnc_records.specs.LevelFacts.{IsLevelSlot, IsQuery, IsLevel}
use Rattle.fnc_records.specs.OperationFacts.{IsCandidate}
use Rattle.fnc_stands.specs.Distinct.{AreDistinct}
use Rattle.fnc_ops.specs.FreshRecords.{fresh_slot, fresh_level, fresh_candidate}
use Rattle.fnc_ops.specs.Stands.{AreBounded}
use Rattle.fnc_stands.proofs.Distinct.{other-place}
use Rattle.fnc_records.proofs.LevelSteps.{ForSome}
use Rattle.fnc_ops.proofs.FreshDevices.{IsBoundedDevice, bounded-device, bounded-devices}
use Rattle.fnc_ops.proofs.FreshSlots.{level_slot-fresh, query_slot-fresh}

-- of an operation of which nothing was started
module _ (o : Operation) where
  first-fresh : (split : Bool) (kind : Kind) (level place : ℕ) (d : Device) → IsBoundedDevice d →
      IsLevelSlot o [] (fresh_slot o.target o.coin (act_task split kind level place d))
      (act_task split kind level place d)
  first-fresh true kind level place d b = level_slot-fresh o (task Phase.Off Kind.Off level place d) refl b
  first-fresh false kind level place d b = level_slot-fresh o (act_task false kind level place d) refl b

  firsts-fresh : (split : Bool) (kind : Kind) (level place : ℕ) (ds : List Device) → AllByRecursion IsBoundedDevice ds →
      AllZip (IsLevelSlot o []) (map (fresh_slot o.target o.coin) (acts_from split kind level place ds))
      (acts_from split kind level place ds)
  firsts-fresh split kind level place [] b = tt
  firsts-fresh split kind level place (d ∷ ds) b =
      (first-fresh split kind level place d b.0, firsts-fresh split kind level (place + 1) ds b.1)

  ons-fresh : (level place : ℕ) (ds : List Device) → AllByRecursion IsBoundedDevice ds →
      AllZip (IsLevelSlot o []) (map (fresh_slot o.target o.coin) (ons_from level place ds)) (ons_from level place ds)
  ons-fresh level place [] b = tt
  ons-fresh level place (d ∷ ds) b = go d.definition.actions.on (ons-fresh level (place + 1) ds b.1)
    where
      go : (c : Bool) → AllZip (IsLevelSlot o []) (map (fresh_slot o.target o.coin) (ons_from level (place + 1) ds))
          (ons_from level (place + 1) ds) →
          AllZip (IsLevelSlot o []) (map (fresh_slot o.target o.coin)
          (cons_option (cond c (Some (task Phase.On Kind.On level place d)) None) (ons_from level (place + 1) ds)))
          (cons_option (cond c (Some (task Phase.On Kind.On level place d)) None) (ons_from level (place + 1) ds))
      go true ih = (level_slot-fresh o (task Phase.On Kind.On level place d) refl b.0, ih)
      go false ih = ih

  ons-split : (split : Bool) (level : ℕ) (ds : List Device) → AllByRecursion IsBoundedDevice ds →
      AllZip (IsLevelSlot o []) (map (fresh_slot o.target o.coin) (cond split (ons_from level 0 ds) []))
      (cond split (ons_from level 0 ds) [])
  ons-split true level ds b = ons-fresh level 0 ds b
  ons-split false level ds b = tt

  candidate-fresh : (place : ℕ) (query : Option Kind) (d : Device) → IsBoundedDevice d →
      IsCandidate o [] (fresh_candidate o.kind o.target o.coin (queried place query d)) (queried place query d)
  candidate-fresh place query d b = record {
    act = fresh_slot o.target o.coin (act_task false o.kind 0 0 d);
    query = asks query;
    untried = refl;
    fit = refl;
    firsts = refl;
    is = λ k. level_slot-fresh o (act_task false o.kind k 0 d) refl b;
    ons = refl;
  }
    where
      asks : (q : Option Kind) →
          IsQuery o [] (option_map (fresh_slot o.target o.coin) (option_map (λ kind. task Phase.Query kind 0 place d)
          q)) (option_map (λ kind. task Phase.Query kind 0 place d) q)
      asks None = tt
      asks (Some kind) = query_slot-fresh o (task Phase.Query kind 0 place d) refl b

  module _ (h : History) (bounded : AreBounded h) where
    level-fresh : (kind : Kind) (l : PlanLevel) → IsLevel o [] (fresh_level o.target o.coin (rank_of kind h l))
        (rank_of kind h l)
    level-fresh kind l = record {
      index = refl;
      unfit = refl;
      firsts = firsts-fresh (is_split kind (fit_devices (map (place_of kind h) l.devices))) kind l.index 0
          (fit_devices (map (place_of kind h) l.devices)) (bounded-devices kind h bounded l.devices);
      ons = ons-split (is_split kind (fit_devices (map (place_of kind h) l.devices))) l.index
          (fit_devices (map (place_of kind h) l.devices)) (bounded-devices kind h bounded l.devices);
    }

    pub levels-fresh : (kind : Kind) (ls : List PlanLevel) → AllZip (IsLevel o []) (map (fresh_level o.target o.coin)
        (map (rank_of kind h) ls)) (map (rank_of kind h) ls)
    levels-fresh kind [] = tt
    levels-fresh kind (l ∷ ls) = (level-fresh kind l, levels-fresh kind ls)

    pub candidates-fresh : (place : ℕ) (cs : List Candidate) → AllZip (IsCandidate o [])
        (map (fresh_candidate o.kind o.target o.coin) (queried_from place h cs)) (queried_from place h cs)
    candidates-fresh place [] = tt
    candidates-fresh place (c ∷ cs) = go (device_of h c.reg) (bounded-device h bounded c.reg)
        (candidates-fresh (place + 1) cs)
      where
        go : (x : Option Device) → ForSome IsBoundedDevice x → AllZip (IsCandidate o [])
            (map (fresh_candidate o.kind o.target o.coin) (queried_from (place + 1) h cs))
            (queried_from (place + 1) h cs) →
            AllZip (IsCandidate o []) (map (fresh_candidate o.kind o.target o.coin)
            (cons_option (option_map (queried place c.query) x) (queried_from (place + 1) h cs)))
            (cons_option (option_map (queried place c.query) x) (queried_from (place + 1) h cs))
        go None b ih = ih
        go (Some d) b ih = (candidate-fresh place c.query d b, ih)

-- the queries of candidates have rising places
abbrev queries_from : ℕ → History → List Candidate → List Task
queries_from place h cs = filter_map (λ (c : QueriedDevice). c.query) (queried_from place h cs)

-- those of one candidate and of those after it
queries-cut : (P : List Task → Type 0) (place : ℕ) (h : History) (c : Candidate) (cs : List Candidate) →
    ((d : Device) (kind : Kind) → P (task Phase.Query kind 0 place d ∷ queries_from (place + 1) h cs)) →
    P (queries_from (place + 1) h cs) → P (queries_from place h (c ∷ cs))
queries-cut P place h c cs more same = go (device_of h c.reg) c.query
  where
    go : (x : Option Device) (q : Option Kind) →
        P (filter_map (λ (c : QueriedDevice). c.query) (cons_option (option_map (queried place q) x)
        (queried_from (place + 1) h cs)))
    go None q = same
    go (Some d) None = same
    go (Some d) (Some kind) = more d kind

places-from : (place : ℕ) (h : History) (cs : List Candidate) → AllByRecursion (λ (t : Task). place ≤ t.slot.place)
    (queries_from place h cs)
places-from place h [] = tt
places-from place h (c ∷ cs) =
    let later : AllByRecursion (λ (t : Task). place ≤ t.slot.place) (queries_from (place + 1) h cs) =
    each-map (λ (t : Task). place + 1 ≤ t.slot.place) (λ (t : Task). place ≤ t.slot.place)
    (queries_from (place + 1) h cs) (λ t k. omega (arith, k)) (places-from (place + 1) h cs) in
    queries-cut (AllByRecursion (λ (t : Task). place ≤ t.slot.place)) place h c cs (λ d kind. (omega arith, later))
    later

pub queries-distinct : (place : ℕ) (h : History) (cs : List Candidate) →
    AreDistinct (filter_map (λ (c : QueriedDevice). c.query) (queried_from place h cs))
queries-distinct place h [] = tt
queries-distinct place h (c ∷ cs) =
    queries-cut AreDistinct place h c cs
    (λ d kind. (
      each-map (λ (t : Task). place + 1 ≤ t.slot.place) _ (queries_from (place + 1) h cs)
          (λ u k. other-place u.slot (task Phase.Query kind 0 place d).slot (λ e. omega (arith, e, k)))
          (places-from (place + 1) h cs),
      queries-distinct (place + 1) h cs,
    ))
    (queries-distinct (place + 1) h cs)

-- there are no more of them than the plan has
pub queried-few : (place : ℕ) (h : History) (cs : List Candidate) → length (queried_from place h cs) ≤ length cs
queried-few place h [] = omega arith
queried-few place h (c ∷ cs) = go (device_of h c.reg) (queried-few (place + 1) h cs)
  where
    go : (x : Option Device) → length (queried_from (place + 1) h cs) ≤ length cs →
        length (cons_option (option_map (queried place c.query) x) (queried_from (place + 1) h cs)) ≤ length (c ∷ cs)
    go None k = omega (arith, k)
    go (Some d) k = omega (arith, k)
