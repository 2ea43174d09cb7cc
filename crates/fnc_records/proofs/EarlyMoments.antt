-- No moment that is known of an operation gets too great: its beginning and its acts come early, and no slot takes
-- long.
use Rattle.std.proofs.Common.{
  ℕ,
  List,
  [],
  ◌∷◌,
  ◌++◌,
  Bool,
  true,
  false,
  ◌≡◌,
  ◌≤◌,
  ◌<◌,
  ◌+◌,
  ◌^◌,
  ◌==◌,
  ◌&&◌,
  ap,
  Option,
  Some,
  None,
  cond,
  max,
  arith,
}
use Rattle.std.proofs.lemmas.Bool.{leb-true}
use Rattle.std.specs.Prelude.{option_map, option_and_then, unwrap_or}
use Rattle.std.specs.List.{AllByRecursion}
use Rattle.fnc_journal.specs.declared.limits.TheConstants.{GREATEST_MOMENT}
use Rattle.fnc_journal.specs.declared.event.Event.{Event}
use Rattle.fnc_journal.specs.declared.entry.Slot.{Slot}
use Rattle.fnc_journal.specs.History.{History}
use Rattle.fnc_journal.specs.Missing.{or_here, least_of}
use Rattle.fnc_journal.specs.Found.{Asked, asked, asked_here}
use Rattle.fnc_journal.specs.Slots.{Task, Operation, Rank, operation_of, queries, slots_of, time}
use Rattle.fnc_journal.specs.Acts.{
  Act,
  acts,
  act_here,
  cons_act,
  slot_of_run,
  moment_of,
  begun_at,
  begun_at_here,
  end,
  succeeds_here,
  fails_here,
  failed,
  success_at,
  last_failure_at,
  concluded,
  concluded_at,
}
use Rattle.fnc_journal.specs.Slots.{tries}
use Rattle.fnc_journal.specs.Standing.{ranks, since, slots, greatest_concluded}
use Rattle.fnc_journal.specs.Operations.{operation, led}
use Rattle.fnc_journal.specs.Lawful.{Lawful}
use Rattle.fnc_journal.proofs.Lawfulness.{and-left}
use Rattle.fnc_records.specs.KeptOperation.{KeptOperation}
use Rattle.fnc_records.specs.LevelFacts.{IsShort, IsLevelSlot, IsQuerySlot, IsLevel}
use Rattle.fnc_records.specs.OperationFacts.{ArePast, IsOperation, kept_queries, tried_levels}
use Rattle.fnc_records.proofs.Searches.{each-joined}
use Rattle.fnc_records.proofs.Zip.{zip_each}

-- each slot of an operation is short
module _ (o : Operation) (m : ℕ) (xs : List Act) (r : KeptOperation) (h : IsOperation m xs r o) where
  pub queries-short : AllByRecursion (IsShort o) (queries o)
  queries-short = zip_each (IsQuerySlot o xs) (IsShort o) (λ a t k. k.short) (kept_queries r.levels) (queries o)
      h.queries_are

  pub ranks-short : AllByRecursion (λ l. AllByRecursion (IsShort o) l.firsts × AllByRecursion (IsShort o) l.ons)
      (ranks o m xs)
  ranks-short =
      zip_each (IsLevel o xs) (λ l. AllByRecursion (IsShort o) l.firsts × AllByRecursion (IsShort o) l.ons)
      (λ a l k. (
        zip_each (IsLevelSlot o xs) (IsShort o) (λ x t w. w.short) a.firsts l.firsts k.firsts,
        zip_each
            (IsLevelSlot o xs) (IsShort o) (λ x t w. w.short) a.ons l.ons k.ons,
      ))
      (tried_levels r.levels) (ranks o m xs) h.ranks_are

levels-each : (P : Task → Type 0) (ls : List Rank) →
    AllByRecursion (λ l. AllByRecursion P l.firsts × AllByRecursion P l.ons) ls → AllByRecursion P (slots_of ls)
levels-each P [] a = tt
levels-each P (l ∷ ls) a = each-joined P (l.firsts ++ l.ons) (slots_of ls) (each-joined P l.firsts l.ons a.0.0 a.0.1)
    (levels-each P ls a.1)

-- a moment that may be missing is not after another one
abbrev IsBy : ℕ → Option ℕ → Type 0
IsBy k None = Unit {0}
IsBy k (Some n) = n ≤ k

or_here-by : (k : ℕ) (x y : Option ℕ) → IsBy k x → IsBy k y → IsBy k (or_here x y)
or_here-by k x None a b = a
or_here-by k None (Some n) a b = b
or_here-by k (Some i) (Some n) a b = a

least_of-by : (k : ℕ) (x y : Option ℕ) → IsBy k x → IsBy k y → IsBy k (least_of x y)
least_of-by k None y a b = b
least_of-by k (Some i) None a b = a
least_of-by k (Some i) (Some n) a b = omega (arith, a, b)

some-by : (k n : ℕ) (b : Bool) → n ≤ k → IsBy k (cond b (Some n) None)
some-by k n true a = a
some-by k n false a = tt

-- what the acts say of a slot
module _ (t : Task) (over k : ℕ) where
  success-by : (xs : List Act) → ArePast k xs → IsBy k (success_at t over xs)
  success-by [] a = tt
  success-by (x ∷ xs) a = or_here-by k (success_at t over xs) _ (success-by xs a.1)
      (some-by k (moment_of x) (succeeds_here t over xs x) a.0)

  failure-by : (xs : List Act) → ArePast k xs → IsBy k (last_failure_at t over xs)
  failure-by [] a = tt
  failure-by (x ∷ xs) a = or_here-by k (last_failure_at t over xs) _ (failure-by xs a.1)
      (some-by k (moment_of x) (fails_here t over xs x && (failed t over xs + 1 == tries t)) a.0)

  begun-here-by : (x : Act) → moment_of x ≤ k → IsBy k (begun_at_here t.slot x)
  begun-here-by (Act.Begun moment run slot) a = some-by k moment _ a
  begun-here-by (Act.Ended moment slot exit listed) a = tt

  begun-by : (xs : List Act) → ArePast k xs → IsBy k (begun_at t.slot xs)
  begun-by [] a = tt
  begun-by (x ∷ xs) a = or_here-by k (begun_at t.slot xs) (begun_at_here t.slot x) (begun-by xs a.1)
      (begun-here-by x a.0)

later-by : (k n : ℕ) (x : Option ℕ) → IsBy k x → IsBy (k + n) (option_map (λ m. m + n) x)
later-by k n None a = tt
later-by k n (Some i) a = omega (arith, a)

more-by : (k n : ℕ) (x : Option ℕ) → k ≤ n → IsBy k x → IsBy n x
more-by k n None le a = tt
more-by k n (Some i) le a = omega (arith, le, a)

default-by : (k begin : ℕ) (x : Option ℕ) → IsBy k x → begin ≤ k → unwrap_or x begin ≤ k
default-by k begin None a b = b
default-by k begin (Some n) a b = a

-- since when an operation stands where it stands
module _ (o : Operation) (m : ℕ) (xs : List Act) (k : ℕ) (begins : o.begin ≤ k) (early : ArePast k xs) where
  concluded-by : (t : Task) → IsShort o t → concluded_at t o.begin o.over xs ≤ k + 2 ^ 62
  concluded-by t s =
      let lasts : time t < 2 ^ 62 = s.lasts in
      let here : k ≤ k + 2 ^ 62 = omega arith in
      let success : IsBy (k + 2 ^ 62) (success_at t o.over xs) = more-by k (k + 2 ^ 62) (success_at t o.over xs) here
      (success-by t o.over k xs early) in
      let failure : IsBy (k + 2 ^ 62) (last_failure_at t o.over xs) =
      more-by k (k + 2 ^ 62) (last_failure_at t o.over xs) here (failure-by t o.over k xs early) in
      let over_at : IsBy (k + time t) (end t xs) = later-by k (time t) (begun_at t.slot xs)
      (begun-by t o.over k xs early) in
      let ends : IsBy (k + 2 ^ 62) (end t xs) = more-by (k + time t) (k + 2 ^ 62) (end t xs) (omega (arith, lasts))
      over_at in
      default-by (k + 2 ^ 62) o.begin _
      (least_of-by (k + 2 ^ 62) (success_at t o.over xs) (least_of (last_failure_at t o.over xs) (end t xs)) success
      (least_of-by (k + 2 ^ 62) (last_failure_at t o.over xs) (end t xs) failure ends))
      (omega (arith, begins))

  greatest-by : (ts : List Task) → AllByRecursion (IsShort o) ts → greatest_concluded o m xs ts ≤ k + 2 ^ 62
  greatest-by [] a = omega (arith, begins)
  greatest-by (t ∷ ts) a = go (concluded t o.over m xs) (concluded-by t a.0) (greatest-by ts a.1)
    where
      go : (b : Bool) → concluded_at t o.begin o.over xs ≤ k + 2 ^ 62 → greatest_concluded o m xs ts ≤ k + 2 ^ 62 →
          cond b (max (concluded_at t o.begin o.over xs) (greatest_concluded o m xs ts)) (greatest_concluded o m xs ts)
          ≤ k + 2 ^ 62
      go true f g = omega (arith, f, g)
      go false f g = g

  since-by : (r : KeptOperation) → IsOperation m xs r o → since o m xs ≤ k + 2 ^ 62
  since-by r h = greatest-by (slots o m xs) (each-joined (IsShort o) (queries o) (slots_of (ranks o m xs))
      (queries-short o m xs r h) (levels-each (IsShort o) (ranks o m xs) (ranks-short o m xs r h)))

acts-more : (o m k : ℕ) (event : Event) (xs : List Act) → m ≤ k → ArePast k xs →
    ArePast k (cons_act (act_here o m xs event) xs)
acts-more o m k (Event.Start start) xs le a = go (o == start.req.0)
  where
    go : (b : Bool) → ArePast k (cons_act (cond b (Some (Act.Begun m start.run.0 start.slot)) None) xs)
    go true = (le, a)
    go false = a
acts-more o m k (Event.Exit ended) xs le a = go (slot_of_run ended.run.0 xs)
  where
    go : (x : Option Slot) → ArePast k (cons_act (option_map (λ slot. Act.Ended m slot ended.exit ended.listed) x) xs)
    go None = a
    go (Some s) = (le, a)
acts-more o m k _ xs le a = a

acts-early : (h : History) → Lawful h → (o : ℕ) → ArePast GREATEST_MOMENT (acts o h)
acts-early [] l o = tt
acts-early (e ∷ before) l o = acts-more o e.moment GREATEST_MOMENT e.event (acts o before)
    (leb-true e.moment GREATEST_MOMENT (and-left _ _ (and-left _ _ l.0.ordered))) (acts-early before l.1 o)

-- a request that is found came early
abbrev CameEarly : Option Asked → Type 0
CameEarly None = Unit {0}
CameEarly (Some a) = a.moment ≤ GREATEST_MOMENT

asked-more : (x y : Option Asked) → CameEarly x → CameEarly y → CameEarly (or_here x y)
asked-more x None a b = a
asked-more None (Some y) a b = b
asked-more (Some x) (Some y) a b = a

asked-here : (r m : ℕ) (before : History) (event : Event) → m ≤ GREATEST_MOMENT →
    CameEarly (asked_here r m before event)
asked-here r m before (Event.Ask ask) le = go (r == ask.req.0)
  where
    go : (b : Bool) →
        CameEarly (cond b (Some (record {
          moment = m;
          lead = ask.lead.0;
          kind = ask.kind;
          target = ask.target;
          total =
              ask.total;
          coin = ask.coin;
          scope = ask.scope;
          before = before;
        })) None)
    go true = le
    go false = tt
asked-here r m before _ le = tt

asked-early : (h : History) → Lawful h → (r : ℕ) → CameEarly (asked r h)
asked-early [] l r = tt
asked-early (e ∷ before) l r =
    asked-more (asked r before) (asked_here r e.moment before e.event) (asked-early before l.1 r)
    (asked-here r e.moment before e.event (leb-true e.moment GREATEST_MOMENT (and-left _ _ (and-left _ _ l.0.ordered))))

abbrev begin_or : ℕ → Option Operation → ℕ
begin_or n None = n
begin_or n (Some o) = o.begin

begin-early : (h : History) → Lawful h → (r : ℕ) (o : Operation) → operation r h ≡ Some o → o.begin ≤ GREATEST_MOMENT
begin-early h l r o e = go (asked r h) (asked-early h l r) e
  where
    leads : (b : Bool) (a : Asked) → a.moment ≤ GREATEST_MOMENT → cond b (Some (operation_of r a)) None ≡ Some o →
        o.begin ≤ GREATEST_MOMENT
    leads true a le f = let same : a.moment ≡ o.begin = ap (begin_or 0) f in omega (arith, le, same)
    leads false a le f = cc

    go : (a : Option Asked) → CameEarly a → option_and_then (led r) a ≡ Some o → o.begin ≤ GREATEST_MOMENT
    go None c f = cc
    go (Some a) c f = leads (r == a.lead) a c f

-- since when an operation of a lawful journal stands where it stands
pub since-early : (h : History) → Lawful h → (m : ℕ) (r : KeptOperation) (o : Operation) → operation o.req h ≡ Some o →
    IsOperation m (acts o.req h) r o → since o m (acts o.req h) < 2 ^ 63
since-early h l m r o e i =
    let least : since o m (acts o.req h) ≤ GREATEST_MOMENT + 2 ^ 62 = since-by o m (acts o.req h) GREATEST_MOMENT
    (begin-early h l o.req o e) (acts-early h l o.req) r i in
    omega (arith, least)
