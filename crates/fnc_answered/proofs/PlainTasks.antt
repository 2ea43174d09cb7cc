-- Each slot of an operation is on a device whose definition is plain.
use Rattle.std.proofs.Common.{
  ℕ,
  List,
  [],
  ◌∷◌,
  ◌++◌,
  Bool,
  true,
  false,
  ◌≡◌,
  ◌+◌,
  Option,
  Some,
  None,
  ◌==◌,
  cond,
  subst,
}
use Rattle.std.specs.Prelude.{option_map, option_and_then, filter_map, map, is_none}
use Rattle.std.specs.List.{list_any, cons_option, AllByRecursion}
use Rattle.fnc_journal.specs.declared.definition.Registration.{Registration}
use Rattle.fnc_journal.specs.declared.entry.Kind.{Kind}
use Rattle.fnc_journal.specs.declared.entry.Phase.{Phase}
use Rattle.fnc_journal.specs.declared.entry.Reg.{Reg}
use Rattle.fnc_journal.specs.declared.event.Event.{Event}
use Rattle.fnc_journal.specs.declared.plan.Candidate.{Candidate}
use Rattle.fnc_journal.specs.declared.plan.Plan.{Plan}
use Rattle.fnc_journal.specs.declared.plan.PlanLevel.{PlanLevel}
use Rattle.fnc_journal.specs.History.{History}
use Rattle.fnc_journal.specs.Missing.{or_here}
use Rattle.fnc_journal.specs.Found.{Asked, asked, asked_here, asked_of, registration, registration_here}
use Rattle.fnc_journal.specs.Device.{Device}
use Rattle.fnc_journal.specs.Plan.{plan}
use Rattle.fnc_journal.specs.Slots.{
  Task,
  task,
  act_task,
  acts_from,
  ons_from,
  is_split,
  fit_devices,
  rank,
  device_of,
  is_fit,
  fit,
  place_of,
  rank_of,
  QueriedDevice,
  queried,
  queried_from,
  Rank,
  Operation,
  operation_of,
  queries,
  ranked_from,
  slots_of,
}
use Rattle.fnc_journal.specs.Acts.{Act}
use Rattle.fnc_journal.specs.Standing.{capable, capable_query, queries_concluded, ranks, slots}
use Rattle.fnc_journal.specs.Operations.{led, operation}
use Rattle.fnc_journal.proofs.Each.{each-filter}
use Rattle.fnc_answered.specs.Plain.{PlainDefinition, PlainEvent, PlainDevices}

-- a slot on a device whose definition is plain
abbrev pub PlainTask : Task → Type 0
PlainTask t = PlainDefinition t.definition

-- both kinds of slots of a level are plain
abbrev pub PlainRank : Rank → Type 0
PlainRank l = AllByRecursion PlainTask l.firsts × AllByRecursion PlainTask l.ons

abbrev PlainQuery : Option Task → Type 0
PlainQuery None = Unit {0}
PlainQuery (Some t) = PlainTask t

-- a candidate and its query are plain
abbrev pub PlainQueried : QueriedDevice → Type 0
PlainQueried c = PlainDefinition c.device.definition × PlainQuery c.query

-- so are all of an operation
pub record PlainOperation (o : Operation) : Type 0 where
  pub levels : AllByRecursion PlainRank o.levels
  pub candidates : AllByRecursion PlainQueried o.candidates

abbrev PlainFound : Option Registration → Type 0
PlainFound None = Unit {0}
PlainFound (Some r) = PlainDefinition r.definition

abbrev PlainDevice : Option Device → Type 0
PlainDevice None = Unit {0}
PlainDevice (Some d) = PlainDefinition d.definition

found-more : (x y : Option Registration) → PlainFound x → PlainFound y → PlainFound (or_here x y)
found-more x None a b = a
found-more None (Some y) a b = b
found-more (Some x) (Some y) a b = a

registered : (h : History) → PlainDevices h → (n : ℕ) → PlainFound (registration n h)
registered [] p n = tt
registered (e ∷ before) p n =
    found-more (registration n before) (registration_here n e.event) (registered before p.1 n) (go e.event p.0)
  where
    go : (event : Event) → PlainEvent event → PlainFound (registration_here n event)
    go (Event.Device device) k = this (n == device.reg.0)
      where
        this : (b : Bool) → PlainFound (cond b (Some device.registration) None)
        this true = k
        this false = tt
    go _ k = tt

device-plain : (h : History) → PlainDevices h → (reg : Reg) → PlainDevice (device_of h reg)
device-plain h p reg = go (registration reg.0 h) (registered h p reg.0)
  where
    go : (x : Option Registration) → PlainFound x →
        PlainDevice (option_map (λ (r : Registration). record { reg = reg.0; definition = r.definition }) x)
    go None k = tt
    go (Some r) k = k

fit-plain : (kind : Kind) (x : Option Device) → PlainDevice x → PlainDevice (option_and_then (fit kind) x)
fit-plain kind None k = tt
fit-plain kind (Some d) k = go (is_fit kind d.definition)
  where
    go : (b : Bool) → PlainDevice (cond b (Some d) None)
    go true = k
    go false = tt

place-plain : (kind : Kind) (h : History) → PlainDevices h → (reg : Option Reg) → PlainDevice (place_of kind h reg)
place-plain kind h p None = tt
place-plain kind h p (Some reg) = fit-plain kind (device_of h reg) (device-plain h p reg)

places-plain : (kind : Kind) (h : History) → PlainDevices h → (regs : List (Option Reg)) →
    AllByRecursion PlainDevice (map (place_of kind h) regs)
places-plain kind h p [] = tt
places-plain kind h p (r ∷ rs) = (place-plain kind h p r, places-plain kind h p rs)

abbrev PlainDevicesOf : List Device → Type 0
PlainDevicesOf ds = AllByRecursion (λ (d : Device). PlainDefinition d.definition) ds

kept-plain : (places : List (Option Device)) → AllByRecursion PlainDevice places →
    PlainDevicesOf (filter_map (λ d. d) places)
kept-plain [] a = tt
kept-plain (None ∷ ps) a = kept-plain ps a.1
kept-plain (Some d ∷ ps) a = (a.0, kept-plain ps a.1)

fit_devices-plain : (places : List (Option Device)) → AllByRecursion PlainDevice places →
    PlainDevicesOf (fit_devices places)
fit_devices-plain places a = go (list_any is_none places)
  where
    go : (b : Bool) → PlainDevicesOf (cond b [] (filter_map (λ d. d) places))
    go true = tt
    go false = kept-plain places a

act-plain : (split : Bool) (kind : Kind) (level place : ℕ) (d : Device) → PlainDefinition d.definition →
    PlainTask (act_task split kind level place d)
act-plain true kind level place d k = k
act-plain false kind level place d k = k

acts-plain : (split : Bool) (kind : Kind) (level place : ℕ) (ds : List Device) → PlainDevicesOf ds →
    AllByRecursion PlainTask (acts_from split kind level place ds)
acts-plain split kind level place [] a = tt
acts-plain split kind level place (d ∷ ds) a =
    (act-plain split kind level place d a.0, acts-plain split kind level (place + 1) ds a.1)

ons-plain : (level place : ℕ) (ds : List Device) → PlainDevicesOf ds →
    AllByRecursion PlainTask (ons_from level place ds)
ons-plain level place [] a = tt
ons-plain level place (d ∷ ds) a = go d.definition.actions.on (ons-plain level (place + 1) ds a.1)
  where
    go : (b : Bool) → AllByRecursion PlainTask (ons_from level (place + 1) ds) →
        AllByRecursion PlainTask
        (cons_option (cond b (Some (task Phase.On Kind.On level place d)) None) (ons_from level (place + 1) ds))
    go true ih = (a.0, ih)
    go false ih = ih

rank-plain : (kind : Kind) (index : ℕ) (places : List (Option Device)) → AllByRecursion PlainDevice places →
    PlainRank (rank kind index places)
rank-plain kind index places a =
    (acts-plain (is_split kind ds) kind index 0 ds each, go (is_split kind ds))
  where
    ds : List Device
    ds = fit_devices places

    each : PlainDevicesOf (fit_devices places)
    each = fit_devices-plain places a

    go : (b : Bool) → AllByRecursion PlainTask (cond b (ons_from index 0 (fit_devices places)) [])
    go true = ons-plain index 0 (fit_devices places) each
    go false = tt

levels-plain : (kind : Kind) (h : History) → PlainDevices h → (ls : List PlanLevel) →
    AllByRecursion PlainRank (map (rank_of kind h) ls)
levels-plain kind h p [] = tt
levels-plain kind h p (l ∷ ls) = (
  rank-plain kind l.index (map (place_of kind h) l.devices) (places-plain kind h p l.devices),
  levels-plain kind h p ls,
)

queried-plain : (place : ℕ) (h : History) → PlainDevices h → (cs : List Candidate) →
    AllByRecursion PlainQueried (queried_from place h cs)
queried-plain place h p [] = tt
queried-plain place h p (c ∷ cs) =
    go (device_of h c.reg) (device-plain h p c.reg) (queried-plain (place + 1) h p cs)
  where
    asks_of : (k : Option Kind) (d : Device) → PlainDefinition d.definition →
        PlainQuery (option_map (λ kind. task Phase.Query kind 0 place d) k)
    asks_of None d a = tt
    asks_of (Some kind) d a = a

    go : (x : Option Device) → PlainDevice x → AllByRecursion PlainQueried (queried_from (place + 1) h cs) →
        AllByRecursion PlainQueried (cons_option (option_map (queried place c.query) x) (queried_from (place + 1) h cs))
    go None a ih = ih
    go (Some d) a ih = ((a, asks_of c.query d a), ih)

-- what lay before a request registers plain devices alone
abbrev PlainAsked : Option Asked → Type 0
PlainAsked None = Unit {0}
PlainAsked (Some a) = PlainDevices a.before

asked-more : (x y : Option Asked) → PlainAsked x → PlainAsked y → PlainAsked (or_here x y)
asked-more x None a b = a
asked-more None (Some y) a b = b
asked-more (Some x) (Some y) a b = a

asked-plain : (h : History) → PlainDevices h → (r : ℕ) → PlainAsked (asked r h)
asked-plain [] p r = tt
asked-plain (e ∷ before) p r =
    asked-more (asked r before) (asked_here r e.moment before e.event) (asked-plain before p.1 r) (go e.event)
  where
    go : (event : Event) → PlainAsked (asked_here r e.moment before event)
    go (Event.Ask ask) = this (r == ask.req.0)
      where
        this : (b : Bool) → PlainAsked (cond b (Some (asked_of e.moment before ask)) None)
        this true = p.1
        this false = tt
    go _ = tt

abbrev PlainOperationIn : Option Operation → Type 0
PlainOperationIn None = Unit {0}
PlainOperationIn (Some o) = PlainOperation o

abbrev plan_of : Asked → Plan
plan_of a = plan (record { kind = a.kind; target = a.target; begin = a.moment; scope = a.scope }) a.before

operation-plain-in : (h : History) → PlainDevices h → (o : ℕ) → PlainOperationIn (operation o h)
operation-plain-in h p o = go (asked o h) (asked-plain h p o)
  where
    this : (a : Asked) → PlainDevices a.before → (b : Bool) → PlainOperationIn (cond b (Some (operation_of o a)) None)
    this a k true = record {
      levels = levels-plain a.kind a.before k (plan_of a).levels;
      candidates = queried-plain 0 a.before k (plan_of a).candidates;
    }
    this a k false = tt

    go : (x : Option Asked) → PlainAsked x → PlainOperationIn (option_and_then (led o) x)
    go None k = tt
    go (Some a) k = this a k (o == a.lead)

-- an operation that is found is plain
pub operation-plain : (h : History) → PlainDevices h → (o : ℕ) (p : Operation) → operation o h ≡ Some p →
    PlainOperation p
operation-plain h k o p e = go (operation o h) (operation-plain-in h k o) e
  where
    go : (x : Option Operation) → PlainOperationIn x → x ≡ Some p → PlainOperation p
    go None a e = cc
    go (Some q) a e = let same : q ≡ p = cc in subst PlainOperation same a

-- its queries are, and the levels that it tries
module _ (o : Operation) (p : PlainOperation o) (m : ℕ) (xs : List Act) where
  pub queries-plain : AllByRecursion PlainTask (queries o)
  queries-plain = go o.candidates p.candidates
    where
      here : (x : Option Task) → PlainQuery x → (ts : List Task) → AllByRecursion PlainTask ts →
          AllByRecursion PlainTask (cons_option x ts)
      here None k ts a = a
      here (Some t) k ts a = (k, a)

      go : (cs : List QueriedDevice) → AllByRecursion PlainQueried cs →
          AllByRecursion PlainTask (filter_map (λ c. c.query) cs)
      go [] a = tt
      go (c ∷ cs) a = here c.query a.0.1 (filter_map (λ c. c.query) cs) (go cs a.1)

  ranked-plain : (kind : Kind) (index : ℕ) (cs : List QueriedDevice) → AllByRecursion PlainQueried cs →
      AllByRecursion PlainRank (ranked_from kind index cs)
  ranked-plain kind index [] a = tt
  ranked-plain kind index (c ∷ cs) a =
      (rank-plain kind index (Some c.device ∷ []) (a.0.0, tt), ranked-plain kind (index + 1) cs a.1)

  pub ranks-plain : AllByRecursion PlainRank (ranks o m xs)
  ranks-plain = go o.levelled (queries_concluded o m xs)
    where
      tried : AllByRecursion PlainRank (ranked_from o.kind 1 (capable o xs))
      tried =
          ranked-plain o.kind 1 (capable o xs)
          (each-filter _ (λ c. capable_query o xs c.query) o.candidates p.candidates)

      go : (b c : Bool) → AllByRecursion PlainRank (cond b o.levels (cond c (ranked_from o.kind 1 (capable o xs)) []))
      go true c = p.levels
      go false true = tried
      go false false = tt

  each-joined : (ts us : List Task) → AllByRecursion PlainTask ts → AllByRecursion PlainTask us →
      AllByRecursion PlainTask (ts ++ us)
  each-joined [] us a b = b
  each-joined (t ∷ ts) us a b = (a.0, each-joined ts us a.1 b)

  levels-slots : (ls : List Rank) → AllByRecursion PlainRank ls → AllByRecursion PlainTask (slots_of ls)
  levels-slots [] a = tt
  levels-slots (l ∷ ls) a =
      each-joined (l.firsts ++ l.ons) (slots_of ls) (each-joined l.firsts l.ons a.0.0 a.0.1) (levels-slots ls a.1)

  -- so all its slots by now are
  pub slots-plain : AllByRecursion PlainTask (slots o m xs)
  slots-plain =
      each-joined (queries o) (slots_of (ranks o m xs)) queries-plain (levels-slots (ranks o m xs) ranks-plain)
