-- Where nothing is left to start or to answer, no operation is open.
use Rattle.std.proofs.Common.{
  ℕ,
  List,
  [],
  ◌∷◌,
  Bool,
  true,
  false,
  ◌≡◌,
  ◌≤◌,
  ◌<◌,
  ◌+◌,
  refl,
  ap,
  sym,
  ◌∙◌,
  Option,
  Some,
  None,
  IsTrue,
  is_some,
  arith,
  ◌==◌,
  ◌||◌,
  not,
  cond,
}
use Rattle.std.proofs.lemmas.Bool.{leb-true}
use Rattle.std.specs.Prelude.{option_map, option_and_then}
use Rattle.std.specs.List.{list_any, AllByRecursion}
use Rattle.fnc_journal.specs.declared.event.Event.{Event}
use Rattle.fnc_journal.specs.declared.entry.Slot.{Slot}
use Rattle.fnc_journal.specs.History.{History}
use Rattle.fnc_journal.specs.Missing.{or_here}
use Rattle.fnc_journal.specs.Found.{Asked, asked, asked_here, asked_of, asks, replies, is_answered}
use Rattle.fnc_journal.specs.Slots.{Task, Operation, operation_of}
use Rattle.fnc_journal.specs.Acts.{Act, acts, act_here, cons_act, slot_of_run}
use Rattle.fnc_journal.specs.Due.{is_confirmed}
use Rattle.fnc_journal.specs.Operations.{led, operation, open_operations, stands_at, is_due}
use Rattle.fnc_journal.specs.Startable.{Startable, startable, soonest, first_among}
use Rattle.fnc_journal.specs.Lawful.{Lawful, last_moment, order}
use Rattle.fnc_journal.proofs.Lawfulness.{and-left, and-right}
use Rattle.fnc_journal.proofs.Frames.{at}
use Rattle.fnc_journal.proofs.Closing.{open-found}
use Rattle.fnc_answered.specs.Plain.{PlainDevices}
use Rattle.fnc_answered.specs.Done.{IsDone, Unconfirmed}
use Rattle.fnc_answered.specs.Counts.{is_passed, is_levels, is_time, is_no_device, replies_that}
use Rattle.fnc_answered.proofs.Answers.{nowhere-due}
use Rattle.fnc_answered.proofs.Idle.{no-last}
use Rattle.fnc_answered.proofs.Numbers.{all-below, replies-counted}
use Rattle.fnc_answered.proofs.PlainTasks.{operation-plain}
use Rattle.fnc_answered.proofs.Ready.{ArePast, stands-startable}
use Rattle.fnc_answered.proofs.Told.{replies-told}
use Rattle.fnc_answered.proofs.Waiting.{none_waits}

-- no entry comes before the last moment
later-of : (m : ℕ) (event : Event) (h : History) → IsTrue (order (at m event) h) → last_moment h ≤ m
later-of m event h k = leb-true (last_moment h) m (and-right _ _ (and-left _ _ k))

-- all acts of a lawful journal were by each moment that is not before its last
past : (h : History) → Lawful h → (o m : ℕ) → last_moment h ≤ m → ArePast m (acts o h)
past [] l o m le = tt
past (e ∷ before) l o m le = go e.event (past before l.1 o m (omega (arith, earlier, le)))
  where
    earlier : last_moment before ≤ e.moment
    earlier = later-of e.moment e.event before l.0.ordered

    one : (x : Option Slot) (f : Slot → Act) → ((s : Slot) → ArePast m (f s ∷ [])) → ArePast m (acts o before) →
        ArePast m (cons_act (option_map f x) (acts o before))
    one None f k a = a
    one (Some s) f k a = ((k s).0, a)

    go : (event : Event) → ArePast m (acts o before) →
        ArePast m (cons_act (act_here o e.moment (acts o before) event) (acts o before))
    go (Event.Start start) a = this (o == start.req.0)
      where
        this : (b : Bool) →
            ArePast m (cons_act (cond b (Some (Act.Begun e.moment start.run.0 start.slot)) None) (acts o before))
        this true = (le, a)
        this false = a
    go (Event.Exit ended) a =
        one (slot_of_run ended.run.0 (acts o before)) (λ s. Act.Ended e.moment s ended.exit ended.listed)
        (λ s. (le, tt)) a
    go _ a = a

-- so was each request
abbrev AskedBy : ℕ → Option Asked → Type 0
AskedBy m None = Unit {0}
AskedBy m (Some a) = a.moment ≤ m

asked-more : (m : ℕ) (x y : Option Asked) → AskedBy m x → AskedBy m y → AskedBy m (or_here x y)
asked-more m None None a b = tt
asked-more m None (Some y) a b = b
asked-more m (Some x) None a b = a
asked-more m (Some x) (Some y) a b = a

asked-by : (h : History) → Lawful h → (r m : ℕ) → last_moment h ≤ m → AskedBy m (asked r h)
asked-by [] l r m le = tt
asked-by (e ∷ before) l r m le =
    asked-more m (asked r before) (asked_here r e.moment before e.event)
    (asked-by before l.1 r m (omega (arith, earlier, le))) (go e.event)
  where
    earlier : last_moment before ≤ e.moment
    earlier = later-of e.moment e.event before l.0.ordered

    go : (event : Event) → AskedBy m (asked_here r e.moment before event)
    go (Event.Ask ask) = this (r == ask.req.0)
      where
        this : (b : Bool) → AskedBy m (cond b (Some (asked_of e.moment before ask)) None)
        this true = le
        this false = tt
    go _ = tt

-- and so did each operation begin
begun-by : (h : History) → Lawful h → (m : ℕ) → last_moment h ≤ m → (o : ℕ) (p : Operation) →
    operation o h ≡ Some p → p.begin ≤ m
begun-by h l m le o p e = go (asked o h) (asked-by h l o m le) e
  where
    begins : (a : Asked) → a.moment ≤ m → operation_of o a ≡ p → p.begin ≤ m
    begins a k f = let same : p.begin ≡ a.moment = ap (λ (p : Operation). p.begin) (sym f) in omega (arith, k, same)

    leads : (b : Bool) (a : Asked) → a.moment ≤ m → cond b (Some (operation_of o a)) None ≡ Some p → p.begin ≤ m
    leads true a k f = begins a k (some_same f)
      where
        some_same : {a b : Operation} → ◌≡◌ {A = Option Operation} (Some a) (Some b) → a ≡ b
        some_same e = cc
    leads false a k f = cc

    go : (x : Option Asked) → AskedBy m x → option_and_then (led o) x ≡ Some p → p.begin ≤ m
    go None k f = cc
    go (Some a) k f = leads (o == a.lead) a k f

-- where none starts first, the first of the operations does not start
none-starts : (x y : Option Startable) → soonest x y ≡ None → is_some x ≡ true → ⊥
none-starts None y e s = cc
none-starts (Some a) None e s = cc
none-starts (Some a) (Some b) e s = cc

none-due : (b c : Bool) → not (b || c) ≡ true → b ≡ true → ⊥
none-due true c e s = cc
none-due false c e s = cc

-- no operation is open
pub none_open : (h : History) (m : ℕ) → Lawful h → PlainDevices h → IsDone m h → open_operations h ≡ []
none_open h m l plain d = go (open_operations h) (open-found h) d.settled_now d.idle
  where
    starts : (p : Operation) → operation p.req h ≡ Some p → (t : Task) → stands_at h m p ≡ Some t →
        is_some (startable h m p) ≡ true
    starts p found t e =
        stands-startable h m p (operation-plain h plain p.req p found) (begun-by h l m d.came p.req p found)
        (past h l p.req m d.came) d.unrunning (λ run s k. no-last h l d.unrunning p.req run s k) t e

    here : (p : Operation) → operation p.req h ≡ Some p → (os : List Operation) →
        not (list_any (is_due h m) (p ∷ os)) ≡ true → first_among h m (p ∷ os) ≡ None →
        (x : Option Task) → stands_at h m p ≡ x → ⊥
    here p found os s i None e =
        none-due (is_due h m p) (list_any (is_due h m) os) s (nowhere-due p m (acts p.req h) (is_confirmed p h) e)
    here p found os s i (Some t) e = none-starts (startable h m p) (first_among h m os) i (starts p found t e)

    go : (os : List Operation) → AllByRecursion (λ (p : Operation). operation p.req h ≡ Some p) os →
        not (list_any (is_due h m) os) ≡ true → first_among h m os ≡ None → os ≡ []
    go [] a s i = refl
    go (p ∷ os) a s i = absurd (here p a.0 os s i (stands_at h m p) refl)

-- each request is answered
pub each_is_answered : (h : History) (m : ℕ) → Lawful h → PlainDevices h → IsDone m h →
    (r : ℕ) → r < asks h → is_answered r h ≡ true
each_is_answered h m l plain d = none_waits h l (none_open h m l plain d)

-- there are as many replies as requests
pub as_many : (h : History) (m : ℕ) → Lawful h → PlainDevices h → IsDone m h → replies h ≡ asks h
as_many h m l plain d = replies-counted h l ∙ all-below h (asks h) (each_is_answered h m l plain d)

-- each of which says a level or why there is none
pub by_what_they_say : (h : History) (m : ℕ) → Lawful h → PlainDevices h → IsDone m h → Unconfirmed h →
    replies_that is_passed h + replies_that is_levels h + replies_that is_time h + replies_that is_no_device h ≡ asks h
by_what_they_say h m l plain d u = replies-told h l u ∙ as_many h m l plain d
