-- Each task of an operation has the definition that its registration has in the journal.
use Rattle.std.proofs.Common.{
  ℕ,
  List,
  [],
  ◌∷◌,
  Bool,
  true,
  false,
  ◌≡◌,
  ◌==◌,
  ◌+◌,
  refl,
  ap,
  sym,
  ◌∙◌,
  subst,
  Option,
  Some,
  None,
  cond,
  not,
}
use Rattle.std.specs.Prelude.{find, filter_map, map, option_map, option_and_then, is_none}
use Rattle.std.specs.List.{list_any, AllByRecursion, cons_option}
use Rattle.std.specs.Option.{option_or}
use Rattle.fnc_journal.specs.declared.definition.Definition.{Definition}
use Rattle.fnc_journal.specs.declared.definition.Registration.{Registration}
use Rattle.fnc_journal.specs.declared.entry.Entry.{Entry}
use Rattle.fnc_journal.specs.declared.event.Event.{Event}
use Rattle.fnc_journal.specs.declared.entry.Kind.{Kind}
use Rattle.fnc_journal.specs.declared.entry.Phase.{Phase}
use Rattle.fnc_journal.specs.declared.entry.Reg.{Reg}
use Rattle.fnc_journal.specs.declared.plan.Candidate.{Candidate}
use Rattle.fnc_journal.specs.declared.plan.PlanLevel.{PlanLevel}
use Rattle.fnc_journal.specs.History.{History}
use Rattle.fnc_journal.specs.Missing.{or_here}
use Rattle.fnc_journal.specs.Found.{Asked, asked, asked_here, registration, registration_here}
use Rattle.fnc_journal.specs.Device.{Device}
use Rattle.fnc_journal.specs.Plan.{plan}
use Rattle.fnc_journal.specs.Slots.{
  Task,
  QueriedDevice,
  Rank,
  Operation,
  acts_from,
  ons_from,
  act_task,
  is_split,
  fit_devices,
  rank,
  rank_of,
  rank_with,
  place_of,
  fit,
  is_fit,
  device_of,
  queried,
  queried_from,
  ranked_from,
  operation_of,
  queries,
  task,
}
use Rattle.fnc_journal.specs.Acts.{Act, concluded, confirmed}
use Rattle.fnc_journal.specs.Standing.{
  ranks,
  capable,
  capable_query,
  queries_concluded,
  lost,
  first_kept,
  standing_in,
  standing,
}
use Rattle.fnc_journal.specs.Operations.{led, operation}
use Rattle.fnc_journal.proofs.Frames.{or_here-some}
use Rattle.fnc_journal.proofs.Each.{each-filter, found-each}

-- what a registration defines, where there is one
abbrev pub defined : Option Registration → Option Definition
defined r = option_map (λ (r : Registration). r.definition) r

-- the registration of a number has this definition
abbrev pub Defines : History → ℕ → Definition → Type 0
Defines h reg d = defined (registration reg h) ≡ Some d

-- the definition of a slot's task is that of its registration
abbrev pub IsKnown : History → Task → Type 0
IsKnown h t = Defines h t.reg t.definition

abbrev pub IsKnownDevice : History → Device → Type 0
IsKnownDevice h d = Defines h d.reg d.definition

-- what was defined stays so
pub defines-push : (e : Entry) (h : History) (reg : ℕ) (d : Definition) → Defines h reg d → Defines (e ∷ h) reg d
defines-push e h reg d k = go (registration reg h) refl k
  where
    go : (x : Option Registration) → registration reg h ≡ x → defined x ≡ Some d → Defines (e ∷ h) reg d
    go None p q = cc
    go (Some r) p q = ap (λ y. defined (or_here y (registration_here reg e.event))) p
        ∙ ap defined (or_here-some r (registration_here reg e.event)) ∙ q

some_asked : (a b : Asked) → ◌≡◌ {A = Option Asked} (Some a) (Some b) → a ≡ b
some_asked a b e = cc

asked_here-before : (r m : ℕ) (before : History) (event : Event) (a : Asked) →
    or_here None (asked_here r m before event) ≡ Some a → before ≡ a.before
asked_here-before r m before (Event.Ask ask) a e = go (r == ask.req.0) e
  where
    said : Asked
    said = record {
      moment = m;
      lead = ask.lead.0;
      kind = ask.kind;
      target = ask.target;
      total = ask.total;
      coin =
          ask.coin;
      scope = ask.scope;
      before = before;
    }

    go : (b : Bool) → or_here None (cond b (Some said) None) ≡ Some a → before ≡ a.before
    go true f = ap (λ (x : Asked). x.before) (some_asked said a f)
    go false f = cc
asked_here-before r m before _ a e = cc

-- what was defined before a request is so after it
pub defines-asked : (h : History) (r : ℕ) (a : Asked) → asked r h ≡ Some a → (reg : ℕ) (d : Definition) →
    Defines a.before reg d → Defines h reg d
defines-asked [] r a e reg d k = cc
defines-asked (e ∷ before) r a f reg d k = go (asked r before) refl f (λ p. defines-asked before r a p reg d k)
  where
    go : (x : Option Asked) → asked r before ≡ x → or_here x (asked_here r e.moment before e.event) ≡ Some a →
        (asked r before ≡ Some a → Defines before reg d) → Defines (e ∷ before) reg d
    go None p q ih =
        let same : before ≡ a.before = asked_here-before r e.moment before e.event a q in
        defines-push e before reg d (subst (λ g. Defines g reg d) (sym same) k)
    go (Some b) p q ih =
        let same : b ≡ a = some_asked b a (sym (or_here-some b (asked_here r e.moment before e.event)) ∙ q) in
        defines-push e before reg d (ih (p ∙ ap Some same))

-- the slots of known devices are known
module _ (h : History) where
  abbrev AreKnown : List Task → Type 0
  AreKnown ts = AllByRecursion (IsKnown h) ts

  abbrev AreKnownDevices : List Device → Type 0
  AreKnownDevices ds = AllByRecursion (IsKnownDevice h) ds

  act_task-known : (split : Bool) (kind : Kind) (level place : ℕ) (d : Device) → IsKnownDevice h d →
      IsKnown h (act_task split kind level place d)
  act_task-known true kind level place d k = k
  act_task-known false kind level place d k = k

  acts_from-known : (split : Bool) (kind : Kind) (level place : ℕ) (ds : List Device) → AreKnownDevices ds →
      AreKnown (acts_from split kind level place ds)
  acts_from-known split kind level place [] k = tt
  acts_from-known split kind level place (d ∷ ds) k =
      (act_task-known split kind level place d k.0, acts_from-known split kind level (place + 1) ds k.1)

  ons_from-known : (level place : ℕ) (ds : List Device) → AreKnownDevices ds → AreKnown (ons_from level place ds)
  ons_from-known level place [] k = tt
  ons_from-known level place (d ∷ ds) k = go d.definition.actions.on (ons_from-known level (place + 1) ds k.1)
    where
      go : (b : Bool) → AreKnown (ons_from level (place + 1) ds) →
          AreKnown (cons_option (cond b (Some (task Phase.On Kind.On level place d)) None)
          (ons_from level (place + 1) ds))
      go true i = (k.0, i)
      go false i = i

  -- of a level
  abbrev pub IsKnownRank : Rank → Type 0
  IsKnownRank l = AreKnown l.firsts × AreKnown l.ons

  abbrev IsKnownPlace : Option Device → Type 0
  IsKnownPlace None = Unit {0}
  IsKnownPlace (Some d) = IsKnownDevice h d

  devices-known : (ps : List (Option Device)) → AllByRecursion IsKnownPlace ps →
      AreKnownDevices (filter_map (λ d. d) ps)
  devices-known [] k = tt
  devices-known (None ∷ ps) k = devices-known ps k.1
  devices-known (Some d ∷ ps) k = (k.0, devices-known ps k.1)

  fit-known : (ps : List (Option Device)) → AllByRecursion IsKnownPlace ps → AreKnownDevices (fit_devices ps)
  fit-known ps k = go (list_any is_none ps)
    where
      go : (b : Bool) → AreKnownDevices (cond b [] (filter_map (λ d. d) ps))
      go true = tt
      go false = devices-known ps k

  rank_with-known : (kind : Kind) (index : ℕ) (unfit : Bool) (ds : List Device) → AreKnownDevices ds →
      IsKnownRank (rank_with kind index unfit ds)
  rank_with-known kind index unfit ds k = (acts_from-known (is_split kind ds) kind index 0 ds k, go (is_split kind ds))
    where
      go : (b : Bool) → AreKnown (cond b (ons_from index 0 ds) [])
      go true = ons_from-known index 0 ds k
      go false = tt

  rank-known : (kind : Kind) (index : ℕ) (ps : List (Option Device)) → AllByRecursion IsKnownPlace ps →
      IsKnownRank (rank kind index ps)
  rank-known kind index ps k = rank_with-known kind index (list_any is_none ps) (fit_devices ps) (fit-known ps k)

  -- of candidates
  abbrev IsKnownQuery : Option Task → Type 0
  IsKnownQuery None = Unit {0}
  IsKnownQuery (Some t) = IsKnown h t

  abbrev IsKnownCandidate : QueriedDevice → Type 0
  IsKnownCandidate c = IsKnownDevice h c.device × IsKnownQuery c.query

  queried-known : (place : ℕ) (query : Option Kind) (d : Device) → IsKnownDevice h d →
      IsKnownCandidate (queried place query d)
  queried-known place None d k = (k, tt)
  queried-known place (Some kind) d k = (k, k)

  ranked_from-known : (kind : Kind) (index : ℕ) (cs : List QueriedDevice) → AllByRecursion IsKnownCandidate cs →
      AllByRecursion IsKnownRank (ranked_from kind index cs)
  ranked_from-known kind index [] k = tt
  ranked_from-known kind index (c ∷ cs) k = (
    rank-known kind index (Some c.device ∷ [])
        (k.0.0, tt),
    ranked_from-known kind (index + 1) cs k.1,
  )

  queries-known : (cs : List QueriedDevice) → AllByRecursion IsKnownCandidate cs →
      AreKnown (filter_map (λ c. c.query) cs)
  queries-known [] k = tt
  queries-known (c ∷ cs) k = go c.query k.0.1 (queries-known cs k.1)
    where
      go : (q : Option Task) → IsKnownQuery q → AreKnown (filter_map (λ c. c.query) cs) →
          AreKnown (cons_option q (filter_map (λ c. c.query) cs))
      go None i ih = ih
      go (Some t) i ih = (i, ih)

  -- a device that is found in what lay before is known
  module _ (g : History) (stays : (reg : ℕ) (d : Definition) → Defines g reg d → Defines h reg d) where
    device_of-known : (reg : Reg) → IsKnownPlace (device_of g reg)
    device_of-known reg = go (registration reg.0 g) refl
      where
        go : (x : Option Registration) → registration reg.0 g ≡ x →
            IsKnownPlace (option_map (λ (r : Registration). record { reg = reg.0; definition = r.definition }) x)
        go None p = tt
        go (Some r) p = stays reg.0 r.definition (ap defined p)

    place-known : (kind : Kind) (reg : Option Reg) → IsKnownPlace (place_of kind g reg)
    place-known kind None = tt
    place-known kind (Some reg) = go (device_of g reg) (device_of-known reg)
      where
        fits : (b : Bool) (d : Device) → IsKnownDevice h d → IsKnownPlace (cond b (Some d) None)
        fits true d k = k
        fits false d k = tt

        go : (x : Option Device) → IsKnownPlace x → IsKnownPlace (option_and_then (fit kind) x)
        go None k = tt
        go (Some d) k = fits (is_fit kind d.definition) d k

    places-known : (kind : Kind) (regs : List (Option Reg)) → AllByRecursion IsKnownPlace (map (place_of kind g) regs)
    places-known kind [] = tt
    places-known kind (reg ∷ regs) = (place-known kind reg, places-known kind regs)

    levels-known : (kind : Kind) (ls : List PlanLevel) → AllByRecursion IsKnownRank (map (rank_of kind g) ls)
    levels-known kind [] = tt
    levels-known kind (l ∷ ls) = (
      rank-known kind l.index (map (place_of kind g) l.devices)
          (places-known kind l.devices),
      levels-known kind ls,
    )

    candidates-known : (place : ℕ) (cs : List Candidate) → AllByRecursion IsKnownCandidate (queried_from place g cs)
    candidates-known place [] = tt
    candidates-known place (c ∷ cs) = go (device_of g c.reg) (device_of-known c.reg) (candidates-known (place + 1) cs)
      where
        go : (x : Option Device) → IsKnownPlace x → AllByRecursion IsKnownCandidate (queried_from (place + 1) g cs) →
            AllByRecursion IsKnownCandidate (cons_option (option_map (queried place c.query) x)
            (queried_from (place + 1) g cs))
        go None k ih = ih
        go (Some d) k ih = (queried-known place c.query d k, ih)

  -- of an operation
  pub record IsKnownOperation (o : Operation) : Type 0 where
    pub levels : AllByRecursion IsKnownRank o.levels
    pub candidates : AllByRecursion IsKnownCandidate o.candidates

  known-asked : (r : ℕ) (a : Asked) → asked r h ≡ Some a → IsKnownOperation (operation_of r a)
  known-asked r a e = record {
    levels = levels-known a.before (defines-asked h r a e) a.kind
        (plan (record { kind = a.kind; target = a.target; begin = a.moment; scope = a.scope }) a.before).levels;
    candidates = candidates-known a.before (defines-asked h r a e) 0
        (plan (record { kind = a.kind; target = a.target; begin = a.moment; scope = a.scope }) a.before).candidates;
  }

  some_operation : (a b : Operation) → ◌≡◌ {A = Option Operation} (Some a) (Some b) → a ≡ b
  some_operation a b e = cc

  pub known-operation : (r : ℕ) (o : Operation) → operation r h ≡ Some o → IsKnownOperation o
  known-operation r o e = go (asked r h) refl e
    where
      leads : (b : Bool) (a : Asked) → asked r h ≡ Some a → cond b (Some (operation_of r a)) None ≡ Some o →
          IsKnownOperation o
      leads true a p q = subst IsKnownOperation (some_operation (operation_of r a) o q) (known-asked r a p)
      leads false a p q = cc

      go : (x : Option Asked) → asked r h ≡ x → option_and_then (led r) x ≡ Some o → IsKnownOperation o
      go None p q = cc
      go (Some a) p q = leads (r == a.lead) a p q

  -- of those where it stands
  ranks-known : (o : Operation) (m : ℕ) (xs : List Act) → IsKnownOperation o → AllByRecursion IsKnownRank (ranks o m xs)
  ranks-known o m xs k = go o.levelled (queries_concluded o m xs)
    where
      go : (b c : Bool) → AllByRecursion IsKnownRank (cond b o.levels (cond c (ranked_from o.kind 1 (capable o xs)) []))
      go true c = k.levels
      go false true = ranked_from-known o.kind 1 (capable o xs)
          (each-filter IsKnownCandidate (λ c. capable_query o xs c.query) o.candidates k.candidates)
      go false false = tt

  found-known : (p : Task → Bool) (ts : List Task) → AreKnown ts → IsKnownQuery (find p ts)
  found-known p ts k = go (find p ts) refl
    where
      go : (x : Option Task) → find p ts ≡ x → IsKnownQuery x
      go None e = tt
      go (Some t) e = found-each (IsKnown h) p ts t k e

  or-known : (x y : Option Task) → IsKnownQuery x → IsKnownQuery y → IsKnownQuery (option_or x y)
  or-known None y a b = b
  or-known (Some t) y a b = a

  in-known : (o : Operation) (m : ℕ) (xs : List Act) (l : Rank) → IsKnownRank l → IsKnownQuery (standing_in o m xs l)
  in-known o m xs l k =
      or-known (find (λ t. not (confirmed t o.over xs)) l.firsts) (find (λ t. not (concluded t o.over m xs)) l.ons)
      (found-known (λ t. not (confirmed t o.over xs)) l.firsts k.0)
      (found-known (λ t. not (concluded t o.over m xs)) l.ons k.1)

  kept-known : (o : Operation) (m : ℕ) (xs : List Act) (ls : List Rank) → AllByRecursion IsKnownRank ls →
      IsKnownQuery (option_and_then (standing_in o m xs) (first_kept o m xs ls))
  kept-known o m xs ls k = go (first_kept o m xs ls) refl
    where
      go : (x : Option Rank) → first_kept o m xs ls ≡ x → IsKnownQuery (option_and_then (standing_in o m xs) x)
      go None e = tt
      go (Some l) e = in-known o m xs l (found-each IsKnownRank (λ l. not (lost o m xs l)) ls l k e)

  -- the slot at which an operation stands is known
  pub standing-known : (o : Operation) (m : ℕ) (xs : List Act) → IsKnownOperation o → (t : Task) →
      standing o m xs ≡ Some t → IsKnown h t
  standing-known o m xs k t e =
      subst IsKnownQuery e
      (or-known (find (λ q. not (concluded q o.over m xs)) (queries o))
      (option_and_then (standing_in o m xs) (first_kept o m xs (ranks o m xs)))
      (found-known (λ q. not (concluded q o.over m xs)) (queries o) (queries-known o.candidates k.candidates))
      (kept-known o m xs (ranks o m xs) (ranks-known o m xs k)))
