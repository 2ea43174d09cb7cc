-- In a lawful journal only the standing slot of an operation is under way, so time leaves the operation where it
-- stands.
use Rattle.std.proofs.Common.{
  ℕ,
  List,
  [],
  ◌∷◌,
  Bool,
  true,
  false,
  ◌≡◌,
  ◌≤◌,
  ◌==◌,
  refl,
  ap,
  ap₂,
  sym,
  ◌∙◌,
  subst,
  Option,
  Some,
  None,
  IsTrue,
  cond,
  not,
  is_some,
  ◌&&◌,
  nat_le,
  nat_lt,
  arith,
  eqb-true,
  leb-true,
}
use Rattle.std.proofs.lemmas.Bool.{and_parts, not-true}
use Rattle.std.specs.Prelude.{option_map}
use Rattle.std.specs.List.{AllByRecursion}
use Rattle.fnc_journal.specs.declared.limits.TheConstants.{GREATEST_MOMENT}
use Rattle.fnc_journal.specs.declared.entry.Entry.{Entry}
use Rattle.fnc_journal.specs.declared.entry.Kind.{Kind}
use Rattle.fnc_journal.specs.declared.entry.Slot.{Slot}
use Rattle.fnc_journal.specs.declared.event.Ended.{Ended}
use Rattle.fnc_journal.specs.declared.event.Event.{Event}
use Rattle.fnc_journal.specs.declared.event.Start.{Start}
use Rattle.fnc_journal.specs.History.{History}
use Rattle.fnc_journal.specs.Missing.{has_come}
use Rattle.fnc_journal.specs.Found.{started, has_exit}
use Rattle.fnc_journal.specs.Slots.{Task, Operation}
use Rattle.fnc_journal.specs.Acts.{Act, Last, acts, act_here, cons_act, slot_of_run, last_run, moment_of}
use Rattle.fnc_journal.specs.Standing.{slots, standing}
use Rattle.fnc_journal.specs.Operations.{operation, open_operations, stands_at}
use Rattle.fnc_journal.specs.Startable.{
  Startable,
  startable,
  startable_at,
  startable_ready,
  first_among,
  soonest,
  first,
}
use Rattle.fnc_journal.specs.Lawful.{Lawful, last_moment, order, in_order, exit_of, start_of, is_start_of}
use Rattle.fnc_journal.proofs.Each.{each-map}
use Rattle.fnc_journal.proofs.Lawfulness.{and-left, and-right, in_order-of}
use Rattle.fnc_journal.proofs.Frames.{at, operation-push}
use Rattle.fnc_journal.proofs.Closing.{open-found}
use Rattle.fnc_journal.proofs.AliveRuns.{slot_same, alive_is_last}
use Rattle.fnc_stands.specs.Still.{ArePast, OnlyOneRuns, StandsStill, standing_end}
use Rattle.fnc_stands.proofs.Sound.{IsSound, operation-sound}
use Rattle.fnc_stands.proofs.UnderWay.{IsKept, IsOneByOne}
use Rattle.fnc_stands.proofs.Steps.{one-unrun, one-begun, one-ended, one-later, stands-still}

-- what starts is the slot at which an operation of the journal stands
record Starts (h : History) (m : ℕ) (s : Startable) : Type 0 where
  stands : stands_at h m s.operation ≡ Some s.task
  known : operation s.operation.req h ≡ Some s.operation

startable-starts : (h : History) (m : ℕ) (o : Operation) (s : Startable) → operation o.req h ≡ Some o →
    startable h m o ≡ Some s → Starts h m s
startable-starts h m o s known e = go (stands_at h m o) refl e
  where
    this : (t : Task) → stands_at h m o ≡ Some t → (at : ℕ) (b : Bool) →
        cond b (Some (record { operation = o; task = t; ready = at })) None ≡ Some s → Starts h m s
    this t k at true e =
        let same : record { operation = o; task = t; ready = at } ≡ s = cc in
        subst (Starts h m) same (record { stands = k; known = known })
    this t k at false e = cc

    last : (t : Task) → stands_at h m o ≡ Some t → (x : Option ℕ) → startable_ready h m o t x ≡ Some s → Starts h m s
    last t k None e = cc
    last t k (Some at) e = this t k at _ e

    go : (x : Option Task) → stands_at h m o ≡ x → startable_at h m o x ≡ Some s → Starts h m s
    go None k e = cc
    go (Some t) k e = last t k _ e

first_among-starts : (h : History) (m : ℕ) (os : List Operation) → AllByRecursion (λ (o : Operation). operation o.req h
    ≡ Some o) os → (s : Startable) → first_among h m os ≡ Some s → Starts h m s
first_among-starts h m [] a s e = cc
first_among-starts h m (o ∷ os) a s e =
    go (startable h m o) (first_among h m os) (λ x. startable-starts h m o x a.0) (λ x. first_among-starts h m os a.1 x)
    e
  where
    go : (a b : Option Startable) → ((x : Startable) → a ≡ Some x → Starts h m x) → ((x : Startable) → b ≡ Some x →
        Starts h m x) → soonest a b ≡ Some s → Starts h m s
    go None b f g e = g s e
    go (Some x) None f g e = f s e
    go (Some x) (Some y) f g e = pick (nat_lt y.ready x.ready) e
      where
        pick : (b : Bool) → ◌≡◌ {A = Option Startable} (Some (cond b y x)) (Some s) → Starts h m s
        pick true e = g s e
        pick false e = f s e

-- the start of a lawful entry
record StartsAt (h : History) (m req : ℕ) (slot : Slot) : Type 0 where
  operation_is : Operation
  task_is : Task
  known : operation req h ≡ Some operation_is
  stands : standing operation_is m (acts req h) ≡ Some task_is
  slot_is : slot ≡ task_is.slot

start-of : (h : History) (m req : ℕ) (slot : Slot) (reg : ℕ) (kind : Kind) (attempt : ℕ) (x : Option Startable) →
    ((s : Startable) → x ≡ Some s → Starts h m s) → is_start_of req slot reg kind attempt h x ≡ true →
    StartsAt h m req slot
start-of h m req slot reg kind attempt None f e = cc
start-of h m req slot reg kind attempt (Some s) f e =
    let two = and-left _ _ (and-left _ _ (and-left _ _ e)) in
    let r : req ≡ s.operation.req = eqb-true req s.operation.req (and-left _ _ two) in
    let k = f s refl in
    record {
      operation_is = s.operation;
      task_is = s.task;
      known = ap (λ n. operation n h) r ∙ k.known;
      stands = ap (λ n. standing s.operation m (acts n h)) r ∙ k.stands;
      slot_is = slot_same slot s.task.slot (and-right _ _ two);
    }

-- an operation that no request began has no acts
none_some : {X : Type 0} (x : Option X) → x ≡ None → is_some x ≡ true → ⊥
none_some None e f = cc
none_some (Some x) e f = cc

not-before : (r : ℕ) (e : Entry) (h : History) → operation r (e ∷ h) ≡ None → operation r h ≡ None
not-before r e h k = go (operation r h) refl
  where
    clash : (o : Operation) → ◌≡◌ {A = Option Operation} (Some o) None → ⊥
    clash o e = cc

    go : (x : Option Operation) → operation r h ≡ x → x ≡ None
    go None p = refl
    go (Some o) p = absurd (clash o (sym (operation-push r o e h p) ∙ k))

unasked-idle : (h : History) → Lawful h → (r : ℕ) → operation r h ≡ None → acts r h ≡ []
unasked-idle [] l r k = refl
unasked-idle (e ∷ before) l r k =
    let early : operation r before ≡ None = not-before r e before k in
    go e.event (in_order-of e.moment e.event before l.0.ordered) early (unasked-idle before l.1 r early)
  where
    go : (event : Event) → IsTrue (in_order event before) → operation r before ≡ None → acts r before ≡ [] →
        cons_act (act_here r e.moment (acts r before) event) (acts r before) ≡ []
    go (Event.Start start) i n ih = whose (r == start.req.0) refl
      where
        whose : (b : Bool) → (r == start.req.0) ≡ b →
            cons_act (cond b (Some (Act.Begun e.moment start.run.0 start.slot)) None) (acts r before) ≡ []
        whose true q = absurd (none_some (operation start.req.0 before)
            (sym (ap (λ n. operation n before) (eqb-true r start.req.0 q)) ∙ n) (and-right _ _ (and-left _ _ i)))
        whose false q = ih
    go (Event.Exit ended) i n ih = rw ih refl
    go _ i n ih = ih

-- no act is later than the last entry
past-later : (m n : ℕ) (xs : List Act) → m ≤ n → ArePast m xs → ArePast n xs
past-later m n xs le a =
    each-map (λ (x : Act). moment_of x ≤ m) (λ (x : Act). moment_of x ≤ n) xs (λ x k. omega (arith, le, k)) a

past-more : (m : ℕ) (e : Event) (r : ℕ) (xs : List Act) → ArePast m xs → ArePast m (cons_act (act_here r m xs e) xs)
past-more m e r xs a = go (act_here r m xs e) (here e)
  where
    IsHere : Option Act → Type 0
    IsHere None = Unit {0}
    IsHere (Some x) = moment_of x ≤ m

    here : (e : Event) → IsHere (act_here r m xs e)
    here (Event.Start start) = this (r == start.req.0)
      where
        this : (b : Bool) → IsHere (cond b (Some (Act.Begun m start.run.0 start.slot)) None)
        this true = omega arith
        this false = tt
    here (Event.Exit ended) = this (slot_of_run ended.run.0 xs)
      where
        this : (x : Option Slot) → IsHere (option_map (λ s. Act.Ended m s ended.exit ended.listed) x)
        this None = tt
        this (Some s) = omega arith
    here _ = tt

    go : (x : Option Act) → IsHere x → ArePast m (cons_act x xs)
    go None k = a
    go (Some x) k = (k, a)

in-order : (e : Entry) (h : History) → IsTrue (order e h) → last_moment h ≤ e.moment
in-order e h l =
    leb-true (last_moment h) e.moment
    (and_parts (nat_le e.moment GREATEST_MOMENT) (nat_le (last_moment h) e.moment)
    (and_parts (nat_le e.moment GREATEST_MOMENT && nat_le (last_moment h) e.moment) (in_order e.event h) l).0).1

pub acts-past : (h : History) → Lawful h → (r : ℕ) → ArePast (last_moment h) (acts r h)
acts-past [] l r = tt
acts-past (e ∷ before) l r =
    past-more e.moment e.event r (acts r before)
    (past-later (last_moment before) e.moment (acts r before) (in-order e before l.0.ordered) (acts-past before l.1 r))

operation-same : (p o : Operation) → ◌≡◌ {A = Option Operation} (Some p) (Some o) → p ≡ o
operation-same p o e = cc

-- what was so before an entry
before-one : (e : Entry) (h : History) → Lawful h → (r : ℕ) (o : Operation) → operation r (e ∷ h) ≡ Some o →
    ((p : Operation) → operation r h ≡ Some p → (n : ℕ) → ArePast n (acts r h) → IsOneByOne p n (acts r h)) →
    (n : ℕ) → ArePast n (acts r h) → IsOneByOne o n (acts r h)
before-one e h l r o k ih n past = go (operation r h) refl
  where
    go : (x : Option Operation) → operation r h ≡ x → IsOneByOne o n (acts r h)
    go None q = subst (IsOneByOne o n) (sym (unasked-idle h l r q)) (one-unrun o n)
    go (Some p) q =
        let same : p ≡ o = operation-same p o (sym (operation-push r p e h q) ∙ k) in
        subst (λ (w : Operation). IsOneByOne w n (acts r h)) same (ih p q n past)

abbrev Earlier : History → ℕ → Operation → Type 0
Earlier h r o = (n : ℕ) → ArePast n (acts r h) → IsOneByOne o n (acts r h)

-- of each operation
pub journal-one : (h : History) → Lawful h → (r : ℕ) (o : Operation) → operation r h ≡ Some o → (m : ℕ) →
    ArePast m (acts r h) → IsOneByOne o m (acts r h)
journal-one [] l r o k m past = cc
journal-one (e ∷ before) l r o k m past =
    go e.event l.0.starts l.0.exits past
    (before-one e before l.1 r o k (λ p q n a. journal-one before l.1 r p q n a))
  where
    sound : IsSound o
    sound = operation-sound (e ∷ before) r o k

    early : ArePast e.moment (acts r before)
    early = past-later (last_moment before) e.moment (acts r before) (in-order e before l.0.ordered)
        (acts-past before l.1 r)

    start_one : (start : Start) → (r == start.req.0) ≡ true → IsTrue (start_of (Event.Start start) e.moment before) →
        e.moment ≤ m → Earlier before r o → IsOneByOne o m (Act.Begun e.moment start.run.0 start.slot ∷ acts r before)
    start_one start q st le earlier =
        let x : StartsAt before e.moment start.req.0 start.slot =
        start-of before e.moment start.req.0 start.slot start.reg.0 start.kind start.attempt (first before e.moment)
        (first_among-starts before e.moment (open_operations before) (open-found before)) st in
        let mine : r ≡ start.req.0 = eqb-true r start.req.0 q in
        let known : operation r before ≡ Some x.operation_is = ap (λ n. operation n before) mine ∙ x.known in
        let same : x.operation_is ≡ o =
        operation-same x.operation_is o (sym (operation-push r x.operation_is e before known) ∙ k) in
        let stands : standing o e.moment (acts r before) ≡ Some x.task_is =
        ap₂ (λ (w : Operation) (n : ℕ). standing w e.moment (acts n before)) (sym same) mine ∙ x.stands in
        one-later o sound e.moment m (Act.Begun e.moment start.run.0 start.slot ∷ acts r before) le
        (subst (λ (w : Slot). IsOneByOne o e.moment (Act.Begun e.moment start.run.0 w ∷ acts r before)) (sym x.slot_is)
        (one-begun o sound e.moment start.run.0 x.task_is (acts r before) stands (earlier e.moment early)))

    exit_one : (ended : Ended) (s : Slot) → slot_of_run ended.run.0 (acts r before) ≡ Some s →
        IsTrue (exit_of (Event.Exit ended) before) → e.moment ≤ m → Earlier before r o →
        IsOneByOne o m (Act.Ended e.moment s ended.exit ended.listed ∷ acts r before)
    exit_one ended s q ex le earlier =
        let alive : last_run s (acts r before) ≡ Last.Alive ended.run.0 =
        alive_is_last before l.1 r ended.run.0 s q (not-true (has_exit ended.run.0 before)
        (and-right (is_some (started ended.run.0 before)) (not (has_exit ended.run.0 before)) ex)) in
        one-later o sound e.moment m (Act.Ended e.moment s ended.exit ended.listed ∷ acts r before) le
        (one-ended o sound e.moment ended.run.0 s ended.exit ended.listed (acts r before) alive
        (earlier e.moment early))

    go : (event : Event) → IsTrue (start_of event e.moment before) → IsTrue (exit_of event before) →
        ArePast m (cons_act (act_here r e.moment (acts r before) event) (acts r before)) → Earlier before r o →
        IsOneByOne o m (cons_act (act_here r e.moment (acts r before) event) (acts r before))
    go (Event.Start start) st ex past earlier = whose (r == start.req.0) refl past
      where
        whose : (b : Bool) → (r == start.req.0) ≡ b →
            ArePast m (cons_act (cond b (Some (Act.Begun e.moment start.run.0 start.slot)) None) (acts r before)) →
            IsOneByOne o m
            (cons_act (cond b (Some (Act.Begun e.moment start.run.0 start.slot)) None) (acts r before))
        whose true q past = start_one start q st past.0 earlier
        whose false q past = earlier m past
    go (Event.Exit ended) st ex past earlier = whose (slot_of_run ended.run.0 (acts r before)) refl past
      where
        whose : (x : Option Slot) → slot_of_run ended.run.0 (acts r before) ≡ x →
            ArePast m (cons_act (option_map (λ s. Act.Ended e.moment s ended.exit ended.listed) x) (acts r before)) →
            IsOneByOne o m
            (cons_act (option_map (λ s. Act.Ended e.moment s ended.exit ended.listed) x) (acts r before))
        whose None q past = earlier m past
        whose (Some s) q past = exit_one ended s q ex past.0 earlier
    go _ st ex past earlier = earlier m past

-- only the standing slot is under way
pub only-one : (h : History) (o : Operation) (m : ℕ) → Lawful h → operation o.req h ≡ Some o →
    ArePast m (acts o.req h) → OnlyOneRuns o m (acts o.req h)
only-one h o m l k past =
    each-map (IsKept o m (acts o.req h)) _ (slots o m (acts o.req h)) (λ t w. w.only)
    (journal-one h l o.req o k m past).each

-- and the operation stands still until its end
pub each-still : (h : History) (o : Operation) (a m : ℕ) → Lawful h → operation o.req h ≡ Some o → a ≤ m →
    ArePast a (acts o.req h) → has_come (standing_end o a (acts o.req h)) m ≡ false →
    StandsStill o a m (acts o.req h)
each-still h o a m l k le past ahead =
    stands-still o (operation-sound h o.req o k) a m (acts o.req h) le (journal-one h l o.req o k a past) ahead
