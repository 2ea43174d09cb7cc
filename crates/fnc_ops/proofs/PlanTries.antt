-- The tries that are counted by a plan's devices are the allowed tries of all slots of its operation.
use Rattle.std.proofs.Common.{
  ℕ,
  List,
  [],
  ◌∷◌,
  ◌++◌,
  Bool,
  true,
  false,
  ◌≡◌,
  ◌≤◌,
  ◌<◌,
  ◌+◌,
  ◌*◌,
  ◌^◌,
  refl,
  ap,
  ap₂,
  sym,
  ◌∙◌,
  Option,
  Some,
  None,
  cond,
  arith,
  length,
  map,
}
use Rattle.std.specs.Prelude.{option_map, filter_map, is_none}
use Rattle.std.specs.List.{cons_option, list_any}
use Rattle.std.proofs.lemmas.List.{length-map}
use Rattle.fnc_journal.specs.declared.limits.TheConstants.{
  MOST_DEVICES,
  MOST_DEVICES_OF_LEVEL,
  MOST_LEVELS_OF_TARGET,
  MOST_TRIES,
}
use Rattle.fnc_journal.specs.declared.entry.Kind.{Kind}
use Rattle.fnc_journal.specs.declared.entry.Phase.{Phase}
use Rattle.fnc_journal.specs.declared.plan.Candidate.{Candidate}
use Rattle.fnc_journal.specs.declared.plan.Plan.{Plan}
use Rattle.fnc_journal.specs.declared.plan.PlanLevel.{PlanLevel}
use Rattle.fnc_journal.specs.Device.{Device}
use Rattle.fnc_journal.specs.Found.{Asked}
use Rattle.fnc_journal.specs.History.{History}
use Rattle.fnc_journal.specs.Owed.{tries_of}
use Rattle.fnc_journal.specs.Slots.{
  QueriedDevice,
  tries,
  act_task,
  acts_from,
  ons_from,
  task,
  is_split,
  rank,
  rank_of,
  device_of,
  place_of,
  queried,
  queried_from,
  ranked_from,
  slots_of,
  is_levelled,
  all_slots,
  operation_by,
}
use Rattle.fnc_ops.specs.FreshRecords.{splits}
use Rattle.fnc_ops.specs.PlanTries.{
  sum_from,
  first_tries,
  on_tries,
  place_tries,
  level_tries,
  query_tries,
  act_tries,
  device_tries,
  candidate_tries,
  ranked_tries,
  plan_tries,
}
use Rattle.fnc_records.specs.SlotRecords.{capped}
use Rattle.fnc_ops.specs.Stands.{AreBounded, AreFewDevices}
use Rattle.fnc_ops.proofs.FreshLevels.{any-map, no_split, splits-there}
use Rattle.fnc_ops.proofs.FreshTries.{tries_of-append, level-tries, levels-few, queries-few, acts-few, ranked-tries}
use Rattle.fnc_records.proofs.SlotSteps.{capped_32}

-- the sum of these
abbrev total : List ℕ → ℕ
total [] = 0
total (x ∷ xs) = x + total xs

sum-fits : (n : ℕ) (xs : List ℕ) → n + total xs < 2 ^ 32 → sum_from n xs ≡ n + total xs
sum-fits n [] k = omega arith
sum-fits n (x ∷ xs) k =
    let fits : n + (x + total xs) < 2 ^ 32 = k in
    let here : capped 32 (n + x) ≡ n + x = capped_32 (n + x) (omega (arith, fits)) in
    let rest : sum_from (n + x) xs ≡ n + x + total xs = sum-fits (n + x) xs (omega (arith, fits)) in
    ap (λ m. sum_from m xs) here ∙ rest ∙ omega arith

-- the slots of a device at a place
first-is : (split : Bool) (kind : Kind) (level place : ℕ) (d : Device) → tries (act_task split kind level place d) ≡
    first_tries split kind d.definition
first-is true kind level place d = refl
first-is false kind level place d = refl

-- the tries of both slots of a device, uncut
abbrev both_tries : Bool → Kind → Device → ℕ
both_tries split kind d = first_tries split kind d.definition + on_tries split d.definition

-- those of these devices
devices-tries : (split : Bool) (kind : Kind) (level place : ℕ) (ds : List Device) →
    tries_of (acts_from split kind level place ds) + tries_of (cond split (ons_from level place ds) []) ≡ total
    (map (both_tries split kind) ds)
devices-tries true kind level place [] = refl
devices-tries false kind level place [] = refl
devices-tries true kind level place (d ∷ ds) = go d.definition.actions.on (devices-tries true kind level (place + 1) ds)
  where
    go : (b : Bool) → tries_of (acts_from true kind level (place + 1) ds) + tries_of (ons_from level (place + 1) ds) ≡
        total (map (both_tries true kind) ds) →
        tries (act_task true kind level place d) + tries_of (acts_from true kind level (place + 1) ds) + tries_of
        (cons_option (cond b (Some (task Phase.On Kind.On level place d)) None) (ons_from level (place + 1) ds))
        ≡ first_tries true kind d.definition + cond b (tries (task Phase.On Kind.On level place d)) 0 + total
        (map (both_tries true kind) ds)
    go true ih = omega (arith, ih)
    go false ih = omega (arith, ih)
devices-tries false kind level place (d ∷ ds) =
    let ih : tries_of (acts_from false kind level (place + 1) ds) + 0 ≡ total (map (both_tries false kind) ds) =
    devices-tries false kind level (place + 1) ds in
    omega (arith, ih)

-- where all devices are there
places-tries : (split : Bool) (kind : Kind) (ds : List (Option Device)) → list_any is_none ds ≡ false →
    total (map (both_tries split kind) (filter_map (λ d. d) ds)) ≤ 256 →
    total (map (place_tries split kind) ds) ≡ total (map (both_tries split kind) (filter_map (λ d. d) ds))
places-tries split kind [] e k = refl
places-tries split kind (None ∷ ds) e k = cc
places-tries split kind (Some d ∷ ds) e k =
    let few : both_tries split kind d + total (map (both_tries split kind) (filter_map (λ d. d) ds)) ≤ 256 = k in
    let here : capped 32 (both_tries split kind d) ≡ both_tries split kind d = capped_32 (both_tries split kind d)
    (omega (arith, few)) in
    ap₂ ◌+◌ here (places-tries split kind ds e (omega (arith, few)))

map-map : {X Y : Type 0} (f : Y → ℕ) (g : X → Y) (xs : List X) → map (λ x. f (g x)) xs ≡ map f (map g xs)
map-map f g [] = refl
map-map f g (x ∷ xs) = ap (λ ys. f (g x) ∷ ys) (map-map f g xs)

-- the tries of a level of these devices, uncut
rank-tries : (kind : Kind) (index : ℕ) (ds : List (Option Device)) → list_any is_none ds ≡ false →
    total (map (both_tries (splits kind (length ds)) kind) (filter_map (λ d. d) ds)) ≡ tries_of
    ((rank kind index ds).firsts ++ (rank kind index ds).ons)
rank-tries kind index ds e =
    rw (e, splits-there kind ds e)
    (sym (tries_of-append (acts_from (is_split kind (filter_map (λ d. d) ds)) kind index 0 (filter_map (λ d. d) ds))
    (cond (is_split kind (filter_map (λ d. d) ds)) (ons_from index 0 (filter_map (λ d. d) ds)) [])
    ∙ devices-tries (is_split kind (filter_map (λ d. d) ds)) kind index 0 (filter_map (λ d. d) ds)))

rank-none : (kind : Kind) (index : ℕ) (ds : List (Option Device)) → list_any is_none ds ≡ true →
    0 ≡ tries_of ((rank kind index ds).firsts ++ (rank kind index ds).ons)
rank-none kind index ds e = rw (e, no_split kind) refl

module _ (kind : Kind) (h : History) (bounded : AreBounded h) where
  -- what is counted of a level are the tries of its slots
  level-is : (l : PlanLevel) → length l.devices ≤ MOST_DEVICES_OF_LEVEL → level_tries kind h l ≡ tries_of
      ((rank_of kind h l).firsts ++ (rank_of kind h l).ons)
  level-is l few = go (list_any (λ p. is_none (place_of kind h p)) l.devices)
      (any-map is_none (place_of kind h) l.devices)
    where
      places : List (Option Device)
      places = map (place_of kind h) l.devices

      go : (b : Bool) → list_any is_none places ≡ b →
          cond b 0 (sum_from 0 (map (λ p. place_tries (splits kind (length l.devices)) kind (place_of kind h p))
          l.devices)) ≡ tries_of ((rank_of kind h l).firsts ++ (rank_of kind h l).ons)
      go true e = rank-none kind l.index places e
      go false e =
          let all : total (map (both_tries (splits kind (length places)) kind) (filter_map (λ d. d) places)) ≡ tries_of
          ((rank_of kind h l).firsts ++ (rank_of kind h l).ons) = rank-tries kind l.index places e in
          let most : tries_of ((rank_of kind h l).firsts ++ (rank_of kind h l).ons) ≤ 256 =
          level-tries kind h bounded l few in
          let uncut : total (map (place_tries (splits kind (length places)) kind) places) ≡ total
          (map (both_tries (splits kind (length places)) kind) (filter_map (λ d. d) places)) =
          places-tries (splits kind (length places)) kind places e (omega (arith, all, most)) in
          let sum : sum_from 0 (map (place_tries (splits kind (length places)) kind) places) ≡ 0 + total
          (map (place_tries (splits kind (length places)) kind) places) =
          sum-fits 0 (map (place_tries (splits kind (length places)) kind) places) (omega (arith, all, most, uncut)) in
          ap (λ n. sum_from 0 (map (λ p. place_tries (splits kind n) kind (place_of kind h p)) l.devices))
          (sym (length-map l.devices (place_of kind h)))
          ∙ ap (sum_from 0) (map-map (place_tries (splits kind (length places)) kind) (place_of kind h) l.devices)
          ∙ omega (arith, all, uncut, sum)

  levels-total : (ls : List PlanLevel) → AreFewDevices ls → total (map (level_tries kind h) ls) ≡ tries_of
      (slots_of (map (rank_of kind h) ls))
  levels-total [] few = refl
  levels-total (l ∷ ls) few =
      let here : level_tries kind h l ≡ tries_of ((rank_of kind h l).firsts ++ (rank_of kind h l).ons) =
      level-is l few.0 in
      let rest : total (map (level_tries kind h) ls) ≡ tries_of (slots_of (map (rank_of kind h) ls)) =
      levels-total ls few.1 in
      let both : tries_of (slots_of (map (rank_of kind h) (l ∷ ls))) ≡ tries_of
      ((rank_of kind h l).firsts ++ (rank_of kind h l).ons) + tries_of (slots_of (map (rank_of kind h) ls)) =
      tries_of-append ((rank_of kind h l).firsts ++ (rank_of kind h l).ons) (slots_of (map (rank_of kind h) ls)) in
      omega (arith, here, rest, both)

  levels-is : (ls : List PlanLevel) → length ls ≤ MOST_LEVELS_OF_TARGET → AreFewDevices ls →
      sum_from 0 (map (level_tries kind h) ls) ≡ tries_of (slots_of (map (rank_of kind h) ls))
  levels-is ls few few_devices =
      let all : total (map (level_tries kind h) ls) ≡ tries_of (slots_of (map (rank_of kind h) ls)) =
      levels-total ls few_devices in
      let most : tries_of (slots_of (map (rank_of kind h) ls)) ≤ 256 * length ls =
      levels-few kind h bounded ls few_devices in
      let sum : sum_from 0 (map (level_tries kind h) ls) ≡ 0 + total (map (level_tries kind h) ls) =
      sum-fits 0 (map (level_tries kind h) ls) (omega (arith, all, most, few)) in
      omega (arith, all, sum)

  -- the tries of the queries of candidates, and of their Act slots where no levels are tried
  abbrev asked : List QueriedDevice → ℕ
  asked cs = tries_of (filter_map (λ (c : QueriedDevice). c.query) cs)

  abbrev acted : Bool → ℕ → List QueriedDevice → ℕ
  acted levelled k cs = cond levelled 0 (tries_of (slots_of (ranked_from kind k cs)))

  asked-next : (place : ℕ) (query : Option Kind) (d : Device) (cs : List QueriedDevice) →
      asked (queried place query d ∷ cs) ≡ query_tries d.definition query + asked cs
  asked-next place None d cs = omega arith
  asked-next place (Some k) d cs = refl

  acted-next : (levelled : Bool) (k place : ℕ) (query : Option Kind) (d : Device) (cs : List QueriedDevice) →
      acted levelled k (queried place query d ∷ cs) ≡ act_tries levelled kind d.definition + acted levelled (k + 1) cs
  acted-next true k place query d cs = refl
  acted-next false k place query d cs = ranked-tries kind k (queried place query d) cs

  candidates-total : (levelled : Bool) (place k : ℕ) (cs : List Candidate) → asked (queried_from place h cs) + acted
      levelled k (queried_from place h cs) < 2 ^ 32 →
      total (map (candidate_tries levelled kind h) cs) ≡ asked (queried_from place h cs) + acted levelled k
      (queried_from place h cs)
  candidates-total true place k [] fits = refl
  candidates-total false place k [] fits = refl
  candidates-total levelled place k (c ∷ cs) fits =
      go (device_of h c.reg) fits (λ n f. candidates-total levelled (place + 1) n cs f)
    where
      rest : List QueriedDevice
      rest = queried_from (place + 1) h cs

      go : (x : Option Device) → asked (cons_option (option_map (queried place c.query) x) rest) + acted levelled k
          (cons_option (option_map (queried place c.query) x) rest) < 2 ^ 32 →
          ((n : ℕ) → asked rest + acted levelled n rest < 2 ^ 32 → total (map (candidate_tries levelled kind h) cs) ≡
          asked rest + acted levelled n rest) →
          device_tries levelled kind c.query x + total (map (candidate_tries levelled kind h) cs)
          ≡ asked (cons_option (option_map (queried place c.query) x) rest) + acted levelled k
          (cons_option (option_map (queried place c.query) x) rest)
      go None f ih = let e : total (map (candidate_tries levelled kind h) cs) ≡ asked rest + acted levelled k rest =
          ih k f in omega (arith, e)
      go (Some d) f ih =
          let one : asked (queried place c.query d ∷ rest) ≡ query_tries d.definition c.query + asked rest =
          asked-next place c.query d rest in
          let two : acted levelled k (queried place c.query d ∷ rest) ≡ act_tries levelled kind d.definition + acted
          levelled (k + 1) rest = acted-next levelled k place c.query d rest in
          let all : asked (queried place c.query d ∷ rest) + acted levelled k (queried place c.query d ∷ rest) < 2 ^
          32 = f in
          let uncut : capped 32 (query_tries d.definition c.query + act_tries levelled kind d.definition) ≡ query_tries
          d.definition c.query + act_tries levelled kind d.definition =
          capped_32 (query_tries d.definition c.query + act_tries levelled kind d.definition)
          (omega (arith, one, two, all)) in
          let e : total (map (candidate_tries levelled kind h) cs) ≡ asked rest + acted levelled (k + 1) rest =
          ih (k + 1) (omega (arith, one, two, all)) in
          omega (arith, one, two, uncut, e)

  acted-few : (levelled : Bool) (place k : ℕ) (cs : List Candidate) → acted levelled k (queried_from place h cs) ≤
      MOST_TRIES * length cs
  acted-few true place k cs = omega arith
  acted-few false place k cs = acts-few kind h bounded k place cs

  candidates-is : (levelled : Bool) (cs : List Candidate) → length cs ≤ MOST_DEVICES →
      (sum_from 0 (map (candidate_tries levelled kind h) cs) ≡ asked (queried_from 0 h cs) + acted levelled 1
      (queried_from 0 h cs)) × (sum_from 0 (map (candidate_tries levelled kind h) cs) ≤ 4096)
  candidates-is levelled cs few =
      let queries : asked (queried_from 0 h cs) ≤ MOST_TRIES * length cs = queries-few kind h bounded 0 cs in
      let acts : acted levelled 1 (queried_from 0 h cs) ≤ MOST_TRIES * length cs = acted-few levelled 0 1 cs in
      let all : total (map (candidate_tries levelled kind h) cs) ≡ asked (queried_from 0 h cs) + acted levelled 1
      (queried_from 0 h cs) = candidates-total levelled 0 1 cs (omega (arith, queries, acts, few)) in
      let sum : sum_from 0 (map (candidate_tries levelled kind h) cs) ≡ 0 + total
      (map (candidate_tries levelled kind h) cs) =
      sum-fits 0 (map (candidate_tries levelled kind h) cs) (omega (arith, queries, acts, few, all)) in
      (omega (arith, all, sum), omega (arith, queries, acts, few, all, sum))

  -- all of them, which are no more than 6400
  abbrev slots-tries : Bool → List PlanLevel → List Candidate → ℕ
  slots-tries levelled levels cs = asked (queried_from 0 h cs) + tries_of
      (slots_of (cond levelled (map (rank_of kind h) levels) (ranked_from kind 1 (queried_from 0 h cs))))

  both-is : (levelled : Bool) (levels : List PlanLevel) (cs : List Candidate) → length cs ≤ MOST_DEVICES →
      length levels ≤ MOST_LEVELS_OF_TARGET → AreFewDevices levels →
      (capped 32 (sum_from 0 (map (candidate_tries levelled kind h) cs) + ranked_tries levelled kind h levels) ≡
      slots-tries levelled levels cs) × (slots-tries levelled levels cs ≤ 6400)
  both-is true levels cs few few_levels few_devices =
      let some : (sum_from 0 (map (candidate_tries true kind h) cs) ≡ asked (queried_from 0 h cs) + 0) ×
      (sum_from 0 (map (candidate_tries true kind h) cs) ≤ 4096) = candidates-is true cs few in
      let one : sum_from 0 (map (candidate_tries true kind h) cs) ≡ asked (queried_from 0 h cs) + 0 = some.0 in
      let most : sum_from 0 (map (candidate_tries true kind h) cs) ≤ 4096 = some.1 in
      let two : sum_from 0 (map (level_tries kind h) levels) ≡ tries_of (slots_of (map (rank_of kind h) levels)) =
      levels-is levels few_levels few_devices in
      let less : tries_of (slots_of (map (rank_of kind h) levels)) ≤ 256 * length levels =
      levels-few kind h bounded levels few_devices in (
        capped_32 (sum_from 0 (map (candidate_tries true kind h) cs) + sum_from 0 (map (level_tries kind h) levels))
            (omega (arith, most, two, less, few_levels)) ∙ omega (arith, one, two),
        omega (arith, one, most, less, few_levels),
      )
  both-is false levels cs few few_levels few_devices =
      let some : (sum_from 0 (map (candidate_tries false kind h) cs) ≡ asked (queried_from 0 h cs) + acted false 1
      (queried_from 0 h cs)) × (sum_from 0 (map (candidate_tries false kind h) cs) ≤ 4096) =
      candidates-is false cs few in
      let one : sum_from 0 (map (candidate_tries false kind h) cs) ≡ asked (queried_from 0 h cs) + acted false 1
      (queried_from 0 h cs) = some.0 in
      let most : sum_from 0 (map (candidate_tries false kind h) cs) ≤ 4096 = some.1 in (
        capped_32 (sum_from 0 (map (candidate_tries false kind h) cs) + 0) (omega (arith, most)) ∙ omega (arith, one),
        omega (arith, one, most),
      )

-- what is counted are the tries of all slots
pub plan-tries : (kind : Kind) (h : History) (p : Plan) (req : ℕ) (a : Asked) → AreBounded h →
    length p.candidates ≤ MOST_DEVICES → length p.levels ≤ MOST_LEVELS_OF_TARGET → AreFewDevices p.levels →
    a.kind ≡ kind → a.before ≡ h →
    plan_tries kind h p ≡ tries_of (all_slots (operation_by req a p))
plan-tries kind h p req a bounded few few_levels few_devices k b =
    (both-is kind h bounded (is_levelled p.scope) p.levels p.candidates few few_levels few_devices).0
    ∙ sym (tries_of-append (filter_map (λ (c : QueriedDevice). c.query) (queried_from 0 h p.candidates))
    (slots_of (cond (is_levelled p.scope) (map (rank_of kind h) p.levels)
    (ranked_from kind 1 (queried_from 0 h p.candidates)))))
    ∙ sym (ap₂ (λ (k : Kind) (h : History). tries_of
    (all_slots (operation_by req (record a { kind = k; before = h }) p))) k b)

-- which are few
pub plan-few : (kind : Kind) (h : History) (p : Plan) → AreBounded h → length p.candidates ≤ MOST_DEVICES →
    length p.levels ≤ MOST_LEVELS_OF_TARGET → AreFewDevices p.levels → plan_tries kind h p ≤ 6400
plan-few kind h p bounded few few_levels few_devices =
    let both : (plan_tries kind h p ≡ slots-tries kind h bounded (is_levelled p.scope) p.levels p.candidates) ×
    (slots-tries kind h bounded (is_levelled p.scope) p.levels p.candidates ≤ 6400) =
    both-is kind h bounded (is_levelled p.scope) p.levels p.candidates few few_levels few_devices in
    let same : plan_tries kind h p ≡ slots-tries kind h bounded (is_levelled p.scope) p.levels p.candidates = both.0 in
    let most : slots-tries kind h bounded (is_levelled p.scope) p.levels p.candidates ≤ 6400 = both.1 in
    omega (arith, same, most)
