-- On plain devices, and where no run is alive, the slot at which an operation stands may start.
use Rattle.std.proofs.Common.{
  ℕ,
  List,
  [],
  ◌∷◌,
  Bool,
  true,
  false,
  ◌≡◌,
  ◌≤◌,
  ◌+◌,
  refl,
  ap,
  ◌∙◌,
  Option,
  Some,
  None,
  is_some,
  arith,
  ◌==◌,
  ◌||◌,
  ◌&&◌,
  not,
  cond,
  eqb-true,
  le-leb,
  max,
  length,
}
use Rattle.std.proofs.lemmas.Bool.{leb-true}
use Rattle.std.specs.Prelude.{find, filter, option_and_then, unwrap_or}
use Rattle.std.specs.List.{AllByRecursion}
use Rattle.std.specs.Option.{option_or}
use Rattle.fnc_journal.specs.declared.entry.Slot.{Slot}
use Rattle.fnc_journal.specs.History.{History}
use Rattle.fnc_journal.specs.Same.{same_slot}
use Rattle.fnc_journal.specs.Missing.{or_here, least_of, has_come}
use Rattle.fnc_journal.specs.Device.{delay}
use Rattle.fnc_journal.specs.Registered.{lane}
use Rattle.fnc_journal.specs.Slots.{Task, Operation, Rank, queries, tries}
use Rattle.fnc_journal.specs.Acts.{
  Act,
  acts,
  moment_of,
  has_succeeded,
  succeeds_here,
  failed,
  fails_here,
  success_at,
  last_failure_at,
  end,
  concluded,
  concluded_at,
  confirmed,
  Last,
  last_run,
}
use Rattle.fnc_journal.specs.Standing.{
  ranks,
  slots,
  since,
  greatest_concluded,
  ready,
  ready_after,
  lost,
  first_kept,
  standing_in,
  standing,
}
use Rattle.fnc_journal.specs.Operations.{stands_at}
use Rattle.fnc_journal.specs.Startable.{Begun, alive, alive_runs, has_room, startable, startable_at, startable_ready}
use Rattle.fnc_journal.proofs.Each.{found-each}
use Rattle.fnc_answered.proofs.PlainTasks.{
  PlainTask,
  PlainRank,
  PlainOperation,
  queries-plain,
  ranks-plain,
  slots-plain,
}

-- all acts were by a moment
abbrev pub ArePast : ℕ → List Act → Type 0
ArePast m xs = AllByRecursion (λ a. moment_of a ≤ m) xs

-- a moment that may be missing is by another one; it is there and is
abbrev IsBy : ℕ → Option ℕ → Type 0
IsBy m None = Unit {0}
IsBy m (Some n) = n ≤ m

abbrev HasCome : ℕ → Option ℕ → Type 0
HasCome m None = ⊥
HasCome m (Some n) = n ≤ m

or_here-by : (m : ℕ) (x y : Option ℕ) → IsBy m x → IsBy m y → IsBy m (or_here x y)
or_here-by m x None a b = a
or_here-by m None (Some n) a b = b
or_here-by m (Some k) (Some n) a b = a

or_here-come : (m : ℕ) (x : Option ℕ) (n : ℕ) → IsBy m x → n ≤ m → HasCome m (or_here x (Some n))
or_here-come m None n a b = b
or_here-come m (Some k) n a b = a

some-by : (m n : ℕ) (b : Bool) → n ≤ m → IsBy m (cond b (Some n) None)
some-by m n true a = a
some-by m n false a = tt

least-left : (m : ℕ) (x y : Option ℕ) → HasCome m x → HasCome m (least_of x y)
least-left m None y a = absurd a
least-left m (Some k) None a = a
least-left m (Some k) (Some n) a = omega (arith, a)

least-right : (m : ℕ) (x y : Option ℕ) → HasCome m y → HasCome m (least_of x y)
least-right m None y a = a
least-right m (Some k) None a = absurd a
least-right m (Some k) (Some n) a = omega (arith, a)

come-default : (m begin : ℕ) (x : Option ℕ) → HasCome m x → unwrap_or x begin ≤ m
come-default m begin None a = absurd a
come-default m begin (Some n) a = a

come-true : (m : ℕ) (x : Option ℕ) → has_come x m ≡ true → HasCome m x
come-true m None e = cc
come-true m (Some n) e = leb-true n m e

-- what the acts say of a slot
module _ (t : Task) (over m : ℕ) where
  success-by : (xs : List Act) → ArePast m xs → IsBy m (success_at t over xs)
  success-by [] a = tt
  success-by (x ∷ xs) a =
      or_here-by m (success_at t over xs) _ (success-by xs a.1)
      (some-by m (moment_of x) (succeeds_here t over xs x) a.0)

  failure-by : (xs : List Act) → ArePast m xs → IsBy m (last_failure_at t over xs)
  failure-by [] a = tt
  failure-by (x ∷ xs) a =
      or_here-by m (last_failure_at t over xs) _ (failure-by xs a.1)
      (some-by m (moment_of x) (fails_here t over xs x && (failed t over xs + 1 == tries t)) a.0)

  -- a success came at a moment
  success-come : (xs : List Act) → ArePast m xs → has_succeeded t over xs ≡ true → HasCome m (success_at t over xs)
  success-come [] a e = cc
  success-come (x ∷ xs) a e = go (succeeds_here t over xs x) e (λ k. success-come xs a.1 k)
    where
      go : (b : Bool) → (b || has_succeeded t over xs) ≡ true →
          (has_succeeded t over xs ≡ true → HasCome m (success_at t over xs)) →
          HasCome m (or_here (success_at t over xs) (cond b (Some (moment_of x)) None))
      go true e ih = or_here-come m (success_at t over xs) (moment_of x) (success-by xs a.1) a.0
      go false e ih = ih e

  -- and so did the last allowed failure
  failure-come : 1 ≤ tries t → (xs : List Act) → ArePast m xs → (failed t over xs == tries t) ≡ true →
      HasCome m (last_failure_at t over xs)
  failure-come some [] a e = let none : 0 ≡ tries t = eqb-true 0 (tries t) e in absurd (omega (arith, some, none))
  failure-come some (x ∷ xs) a e = go (fails_here t over xs x) e (λ k. failure-come some xs a.1 k)
    where
      go : (b : Bool) → (cond b (failed t over xs + 1) (failed t over xs) == tries t) ≡ true →
          ((failed t over xs == tries t) ≡ true → HasCome m (last_failure_at t over xs)) →
          HasCome m (or_here (last_failure_at t over xs)
          (cond (b && (failed t over xs + 1 == tries t)) (Some (moment_of x)) None))
      go true e ih = rw e (or_here-come m (last_failure_at t over xs) (moment_of x) (failure-by xs a.1) a.0)
      go false e ih = ih e

  -- a concluded slot was concluded by now
  concluded-come : 1 ≤ tries t → (begin : ℕ) (xs : List Act) → ArePast m xs → concluded t over m xs ≡ true →
      concluded_at t begin over xs ≤ m
  concluded-come some begin xs a e =
      come-default m begin (least_of (success_at t over xs) (least_of (last_failure_at t over xs) (end t xs)))
      (go (has_succeeded t over xs) refl (failed t over xs == tries t) refl (has_come (end t xs) m) refl e)
    where
      go : (b : Bool) → has_succeeded t over xs ≡ b → (c : Bool) → (failed t over xs == tries t) ≡ c →
          (d : Bool) → has_come (end t xs) m ≡ d → (b || (c || d)) ≡ true →
          HasCome m (least_of (success_at t over xs) (least_of (last_failure_at t over xs) (end t xs)))
      go true p c q d r e = least-left m (success_at t over xs) _ (success-come xs a p)
      go false p true q d r e =
          least-right m (success_at t over xs) _
          (least-left m (last_failure_at t over xs) (end t xs) (failure-come some xs a q))
      go false p false q true r e =
          least-right m (success_at t over xs) _
          (least-right m (last_failure_at t over xs) (end t xs) (come-true m (end t xs) r))
      go false p false q false r e = cc

-- the last run of a slot ended by now, if it did
abbrev EndedBy : ℕ → Last → Type 0
EndedBy m (Last.EndedAt at) = at ≤ m
EndedBy m _ = Unit {0}

last-by : (s : Slot) (m : ℕ) (xs : List Act) → ArePast m xs → EndedBy m (last_run s xs)
last-by s m [] a = tt
last-by s m (Act.Begun moment run slot ∷ xs) a = go (same_slot s slot) (last-by s m xs a.1)
  where
    go : (b : Bool) → EndedBy m (last_run s xs) →
        EndedBy m (unwrap_or (cond b (Some (Last.Alive run)) None) (last_run s xs))
    go true ih = tt
    go false ih = ih
last-by s m (Act.Ended moment slot exit listed ∷ xs) a = go (same_slot s slot) (last-by s m xs a.1)
  where
    go : (b : Bool) → EndedBy m (last_run s xs) →
        EndedBy m (unwrap_or (cond b (Some (Last.EndedAt moment)) None) (last_run s xs))
    go true ih = a.0
    go false ih = ih

module _ (o : Operation) (m : ℕ) (xs : List Act) (begins : o.begin ≤ m) (past : ArePast m xs) where
  greatest-by : (ts : List Task) → AllByRecursion PlainTask ts → greatest_concluded o m xs ts ≤ m
  greatest-by [] a = begins
  greatest-by (t ∷ ts) a =
      go (concluded t o.over m xs) refl (λ e. concluded-come t o.over m (a.0.tried t.kind) o.begin xs past e)
      (greatest-by ts a.1)
    where
      go : (b : Bool) → concluded t o.over m xs ≡ b →
          (concluded t o.over m xs ≡ true → concluded_at t o.begin o.over xs ≤ m) → greatest_concluded o m xs ts ≤ m →
          cond b (max (concluded_at t o.begin o.over xs) (greatest_concluded o m xs ts)) (greatest_concluded o m xs ts)
          ≤ m
      go true e f g = let k : concluded_at t o.begin o.over xs ≤ m = f e in omega (arith, k, g)
      go false e f g = g

  module _ (plain : PlainOperation o) where
    since-by : since o m xs ≤ m
    since-by = greatest-by (slots o m xs) (slots-plain o plain m xs)

    -- a plain slot with no alive run is ready
    ready-by : (t : Task) → PlainTask t → ((run : ℕ) → last_run t.slot xs ≡ Last.Alive run → ⊥) →
        HasCome m (ready o m xs t)
    ready-by t p idle = go (last_run t.slot xs) refl (last-by t.slot m xs past)
      where
        go : (l : Last) → last_run t.slot xs ≡ l → EndedBy m l → HasCome m (ready_after o m xs t l)
        go Last.NoRun e k =
            let none : delay t.definition t.kind o.target o.coin ≡ 0 = p.undelayed t.kind o.target o.coin in
            let by : since o m xs ≤ m = since-by in
            omega (arith, none, by)
        go (Last.Alive run) e k = absurd (idle run e)
        go (Last.EndedAt at) e k = k

    -- the slot at which it stands is plain
    standing-plain : (t : Task) → standing o m xs ≡ Some t → PlainTask t
    standing-plain t e =
        go (find (λ q. not (concluded q o.over m xs)) (queries o)) (first_kept o m xs (ranks o m xs))
        (λ t k. found-each PlainTask (λ q. not (concluded q o.over m xs)) (queries o) t (queries-plain o plain m xs) k)
        (λ l k. found-each PlainRank (λ l. not (lost o m xs l)) (ranks o m xs) l (ranks-plain o plain m xs) k) e
      where
        in_level : (l : Rank) → PlainRank l → standing_in o m xs l ≡ Some t → PlainTask t
        in_level l p e =
            pick (find (λ t. not (confirmed t o.over xs)) l.firsts) (find (λ t. not (concluded t o.over m xs)) l.ons)
            (λ t k. found-each PlainTask (λ t. not (confirmed t o.over xs)) l.firsts t p.0 k)
            (λ t k. found-each PlainTask (λ t. not (concluded t o.over m xs)) l.ons t p.1 k) e
          where
            pick : (x y : Option Task) → ((t : Task) → x ≡ Some t → PlainTask t) →
                ((t : Task) → y ≡ Some t → PlainTask t) →
                option_or x y ≡ Some t → PlainTask t
            pick None y f g e = g t e
            pick (Some u) y f g e = f t e

        go : (x : Option Task) (y : Option Rank) → ((t : Task) → x ≡ Some t → PlainTask t) →
            ((l : Rank) → y ≡ Some l → PlainRank l) →
            option_or x (option_and_then (standing_in o m xs) y) ≡ Some t → PlainTask t
        go (Some u) y f g e = f t e
        go None None f g e = cc
        go None (Some l) f g e = in_level l (g l refl) e

none-alive : (f : Begun → Bool) (xs : List Begun) → xs ≡ [] → length (filter f xs) ≡ 0
none-alive f xs e = rw e refl

-- where no run is alive, an operation that stands may start
pub stands-startable : (h : History) (m : ℕ) (o : Operation) → PlainOperation o → o.begin ≤ m →
    ArePast m (acts o.req h) →
    alive_runs h ≡ [] → ((run : ℕ) (s : Slot) → last_run s (acts o.req h) ≡ Last.Alive run → ⊥) →
    (t : Task) → stands_at h m o ≡ Some t → is_some (startable h m o) ≡ true
stands-startable h m o plain begins past none idle t e =
    ap (λ (x : Option Task). is_some (startable_at h m o x)) e
    ∙ go (ready o m (acts o.req h) t) (ready-by o m (acts o.req h) begins past plain t p (λ run k. idle run t.slot k))
  where
    p : PlainTask t
    p = standing-plain o m (acts o.req h) begins past plain t e

    roomy : has_room (alive (lane t.reg h) h) t.definition.cap ≡ true
    roomy =
        ap (λ n. has_room n t.definition.cap) (none-alive (λ b. lane b.reg h == lane t.reg h) (alive_runs h) none)
        ∙ p.roomy

    go : (x : Option ℕ) → HasCome m x → is_some (startable_ready h m o t x) ≡ true
    go None k = absurd k
    go (Some at) k = rw (le-leb at m k, roomy) refl
