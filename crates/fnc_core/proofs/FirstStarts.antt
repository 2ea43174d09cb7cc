-- The first item of the queue is the first start of the journal.
use Rattle.std.proofs.Common.{
  ℕ,
  List,
  [],
  ◌∷◌,
  Bool,
  true,
  false,
  ◌≡◌,
  ◌<◌,
  ◌==◌,
  ◌||◌,
  ◌&&◌,
  refl,
  ap,
  ap₂,
  sym,
  ◌∙◌,
  subst,
  Option,
  Some,
  None,
  cond,
  nat_lt,
  nat_le,
  arith,
  eqb-true,
}
use Rattle.std.specs.Prelude.{find, option_map, unwrap_or}
use Rattle.std.specs.List.{AllByRecursion}
use Rattle.fnc_journal.specs.declared.definition.Registration.{Registration}
use Rattle.fnc_journal.specs.History.{History}
use Rattle.fnc_journal.specs.Found.{registration}
use Rattle.fnc_journal.specs.Registered.{lane}
use Rattle.fnc_journal.specs.Slots.{Task, Operation}
use Rattle.fnc_journal.specs.Acts.{acts}
use Rattle.fnc_journal.specs.Standing.{ready}
use Rattle.fnc_journal.specs.Operations.{operation, open_operations, stands_at}
use Rattle.fnc_journal.specs.Startable.{
  Startable,
  alive,
  has_room,
  startable,
  startable_at,
  startable_ready,
  soonest,
  first_among,
  first,
}
use Rattle.fnc_journal.specs.Lawful.{Lawful}
use Rattle.fnc_journal.proofs.Closing.{open-found}
use Rattle.fnc_journal.proofs.Each.{found-each}
use Rattle.fnc_queue.specs.declared.waiting.Waiting.{Waiting}
use Rattle.fnc_queue.specs.Items.{item_of}
use Rattle.fnc_queue.specs.Lanes.{lane_count}
use Rattle.fnc_queue.specs.Places.{may_start, is_before, first_of}
use Rattle.fnc_queue.specs.Queued.{Queued}
use Rattle.fnc_queue.proofs.FirstLemmas.{IsLeast, Leads, leads}
use Rattle.fnc_records.specs.declared.operation.Standing.{Standing}
use Rattle.fnc_ops.specs.Kept.{Kept}
use Rattle.fnc_ops.specs.OpsRecords.{waiting}
use Rattle.fnc_records.specs.SlotFacts.{BothOr}
use Rattle.fnc_ops.specs.Stands.{Try, IsTry, IsTryOf, try_of, try_at, try_ready}
use Rattle.fnc_records.proofs.Searches.{found-passes}
use Rattle.fnc_core.specs.Wanted.{Waits, Lanes, item_for, cap_of}
use Rattle.fnc_core.proofs.KnownTasks.{IsKnown, defined, known-operation, standing-known}
use Rattle.fnc_core.proofs.RisingOperations.{AreRising, FindsItself, open-rising, open-found_itself}

some-same : {X : Type 0} (a b : X) → ◌≡◌ {A = Option X} (Some a) (Some b) → a ≡ b
some-same a b e = ap (λ x. unwrap_or x a) e

-- what holds of each item holds of that of an operation
item-each : (P : Waiting → Type 0) (req : ℕ) (items : List Waiting) (item : Waiting) → AllByRecursion P items →
    item_of req items ≡ Some item → P item
item-each P req [] item a e = cc
item-each P req (x ∷ items) item a e = go (x.req.0 == req) e (λ k. item-each P req items item a.1 k)
  where
    go : (b : Bool) → cond b (Some x) (item_of req items) ≡ Some item → (item_of req items ≡ Some item → P item) →
        P item
    go true f ih = subst P (some-same x item f) a.0
    go false f ih = ih f

-- the lesser by the moment at which it is ready, then by number
abbrev comes_before : Startable → Startable → Bool
comes_before a b = nat_lt a.ready b.ready || ((a.ready == b.ready) && nat_lt a.operation.req b.operation.req)

not-sooner : (a b i j : ℕ) → (nat_lt a b || ((a == b) && nat_lt i j)) ≡ false → nat_lt a b ≡ false
not-sooner a b i j e = grind arith

later-ready : (a b i j : ℕ) → (nat_lt a b || ((a == b) && nat_lt i j)) ≡ false → i < j → nat_lt b a ≡ true
later-ready a b i j e l = grind arith

-- the first of several starts is the one that comes before each other
module _ (h : History) (m : ℕ) where
  -- no start of the operation comes before this one
  abbrev IsNoSooner : Startable → Operation → Type 0
  IsNoSooner s o = (b : Startable) → startable h m o ≡ Some b → (b.operation ≡ o) × (comes_before b s ≡ false)

  first-from : (P : Startable → Type 0) (os : List Operation) →
      AllByRecursion (λ o. (b : Startable) → startable h m o ≡ Some b → P b) os →
      (b : Startable) → first_among h m os ≡ Some b → P b
  first-from P [] a b e = cc
  first-from P (o ∷ os) a b e = go (startable h m o) refl (first_among h m os) refl e (first-from P os a.1)
    where
      pick : (x y : Startable) (c : Bool) → P x → P y → Some (cond c y x) ≡ Some b → P b
      pick x y true p q f = subst P (some-same y b f) q
      pick x y false p q f = subst P (some-same x b f) p

      go : (x : Option Startable) → startable h m o ≡ x → (y : Option Startable) → first_among h m os ≡ y →
          soonest x y ≡ Some b →
          ((b : Startable) → first_among h m os ≡ Some b → P b) → P b
      go None k y n f ih = ih b (n ∙ f)
      go (Some x) k None n f ih = a.0 b (k ∙ f)
      go (Some x) k (Some y) n f ih = pick x y (nat_lt y.ready x.ready) (a.0 x k) (ih y n) f

  least-first : (s : Startable) (n : ℕ) (os : List Operation) → AreRising os →
      find (λ (p : Operation). p.req == n) os ≡ Some s.operation →
      startable h m s.operation ≡ Some s → AllByRecursion (IsNoSooner s) os → first_among h m os ≡ Some s
  least-first s n [] r f k a = cc
  least-first s n (o ∷ os) r f k a = go (o.req == n) f (λ g. least-first s n os r.1 g k a.1)
    where
      here : (x : Option Startable) → first_among h m os ≡ x → soonest (Some s) x ≡ Some s
      here None e = refl
      here (Some b) e =
          let least : comes_before b s ≡ false = first-from (λ b. comes_before b s ≡ false) os (each os a.1) b e in
          rw (not-sooner b.ready s.ready b.operation.req s.operation.req least) refl
        where
          each : (ps : List Operation) → AllByRecursion (IsNoSooner s) ps →
              AllByRecursion (λ o. (b : Startable) → startable h m o ≡ Some b → comes_before b s ≡ false) ps
          each [] a = tt
          each (p ∷ ps) a = ((λ b e. (a.0 b e).1), each ps a.1)

      later : find (λ (p : Operation). p.req == n) os ≡ Some s.operation → (x : Option Startable) →
          startable h m o ≡ x → soonest x (Some s) ≡ Some s
      later g None e = refl
      later g (Some b) e =
          let own = a.0 b e in
          let lower : o.req < s.operation.req = found-each (λ (p : Operation). o.req < p.req)
          (λ (p : Operation). p.req == n) os s.operation r.0 g in
          let below : b.operation.req < s.operation.req =
          subst (λ (p : Operation). p.req < s.operation.req) (sym own.0) lower in
          rw (later-ready b.ready s.ready b.operation.req s.operation.req own.1 below) refl

      go : (b : Bool) → cond b (Some o) (find (λ (p : Operation). p.req == n) os) ≡ Some s.operation →
          (find (λ (p : Operation). p.req == n) os ≡ Some s.operation → first_among h m os ≡ Some s) →
          soonest (startable h m o) (first_among h m os) ≡ Some s
      go true g ih =
          let same : startable h m o ≡ Some s = ap (startable h m) (some-same o s.operation g) ∙ k in
          ap (λ x. soonest x (first_among h m os)) same ∙ here (first_among h m os) refl
      go false g ih =
          ap (soonest (startable h m o)) (ih g) ∙ later g (startable h m o) refl

  none-first : (os : List Operation) → AllByRecursion (λ o. startable h m o ≡ None) os → first_among h m os ≡ None
  none-first [] a = refl
  none-first (o ∷ os) a = rw a.0 (none-first os a.1)

  -- a start is of the try that the operation waits for
  abbrev startable_by : Operation → Option Try → Option Startable
  startable_by o None = None
  startable_by o (Some y) =
      cond (nat_le y.ready m && has_room (alive (lane y.task.reg h) h) y.task.definition.cap)
      (Some (record { operation = o; task = y.task; ready = y.ready })) None

  startable-by : (o : Operation) → startable h m o ≡ startable_by o (try_of h m o)
  startable-by o = go (stands_at h m o)
    where
      ready_by : (t : Task) (x : Option ℕ) → startable_ready h m o t x ≡ startable_by o (try_ready t x)
      ready_by t None = refl
      ready_by t (Some at) = refl

      go : (x : Option Task) → startable_at h m o x ≡ startable_by o (try_at h m o x)
      go None = refl
      go (Some t) = ready_by t (ready o m (acts o.req h) t)

  try-stands : (o : Operation) (y : Try) → try_of h m o ≡ Some y → stands_at h m o ≡ Some y.task
  try-stands o y e = go (stands_at h m o) refl e
    where
      of_ready : (t : Task) (x : Option ℕ) → try_ready t x ≡ Some y → t ≡ y.task
      of_ready t None f = cc
      of_ready t (Some at) f = ap (λ (y : Try). y.task) (some-same (record { task = t; ready = at }) y f)

      go : (x : Option Task) → stands_at h m o ≡ x → try_at h m o x ≡ Some y → stands_at h m o ≡ Some y.task
      go None k f = cc
      go (Some t) k f = k ∙ ap Some (of_ready t (ready o m (acts o.req h) t) f)

  -- the start that an item stands for
  pub record IsStartOf (item : Waiting) (s : Startable) : Type 0 where
    pub number : item.req.0 ≡ s.operation.req
    pub lane_is : item.lane.0 ≡ lane s.task.reg h
    pub ready_is : item.ready ≡ s.ready
    pub found : find (λ (o : Operation). o.req == item.req.0) (open_operations h) ≡ Some s.operation
    pub open_is : operation s.operation.req h ≡ Some s.operation
    pub awaits : try_of h m s.operation ≡ Some (record { task = s.task; ready = s.ready })
    pub known : IsKnown h s.task

module _ (h : History) (m : ℕ) (v : Kept) (q : Queued) (lawful : Lawful h)
    (tries : (req : ℕ) → IsTryOf h m (waiting req v.operations)
    (find (λ (o : Operation). o.req == req) (open_operations h)))
    (waits : Waits h v q) (lanes : Lanes h q) where
  -- the item of the try that an operation waits for
  record IsItemOf (o : Operation) (item : Waiting) (y : Try) : Type 0 where
    pub number : item.req.0 ≡ o.req
    pub lane_is : item.lane.0 ≡ lane y.task.reg h
    pub ready_is : item.ready ≡ y.ready
    pub cap_is : item.cap ≡ y.task.definition.cap
    pub known : IsKnown h y.task

  -- an open operation that is found by its number
  record IsOpen (o : Operation) : Type 0 where
    pub itself : FindsItself (open_operations h) o
    pub open_is : operation o.req h ≡ Some o

  each-is_open : AllByRecursion IsOpen (open_operations h)
  each-is_open = go (open_operations h) (open-found_itself h lawful) (open-found h)
    where
      go : (os : List Operation) → AllByRecursion (FindsItself (open_operations h)) os →
          AllByRecursion (λ (o : Operation). operation o.req h ≡ Some o) os → AllByRecursion IsOpen os
      go [] a b = tt
      go (o ∷ os) a b = (record { itself = a.0; open_is = b.0 }, go os a.1 b.1)

  cap-known : (t : Task) → IsKnown h t → cap_of t.reg h ≡ t.definition.cap
  cap-known t k = go (registration t.reg h) refl k
    where
      go : (x : Option Registration) → registration t.reg h ≡ x → defined x ≡ Some t.definition →
          cap_of t.reg h ≡ t.definition.cap
      go None e f = cc
      go (Some r) e f = rw e (ap (λ d. d.cap) (some-same r.definition t.definition f))

  items-agree : (o : Operation) → IsOpen o → BothOr (IsItemOf o) (item_of o.req q.waiting) (try_of h m o)
  items-agree o i =
      subst (λ x. BothOr (IsItemOf o) x (try_of h m o)) (sym (waits o.req))
      (go (waiting o.req v.operations) (try_of h m o) refl
      (subst (IsTryOf h m (waiting o.req v.operations)) i.itself (tries o.req)))
    where
      go : (s : Option Standing) (x : Option Try) → try_of h m o ≡ x → BothOr (IsTry h o) s x →
          BothOr (IsItemOf o) (option_map (item_for h o.req) s) x
      go None None e b = tt
      go None (Some y) e b = absurd b
      go (Some s) None e b = absurd b
      go (Some s) (Some y) e b =
          let known : IsKnown h y.task = standing-known h o m (acts o.req h)
          (known-operation h o.req o i.open_is) y.task (try-stands h m o y e) in
          record {
            number = refl;
            lane_is = ap (λ n. lane n h) b.reg;
            ready_is = b.ready;
            cap_is = ap (λ n. cap_of n h) b.reg ∙ cap-known y.task known;
            known = known;
          }

  may-start : (o : Operation) (item : Waiting) (y : Try) → IsItemOf o item y →
      may_start m q.alive item ≡ (nat_le y.ready m && has_room (alive (lane y.task.reg h) h) y.task.definition.cap)
  may-start o item y i =
      ap₂ ◌&&◌ (ap (λ n. nat_le n m) i.ready_is)
      (ap₂ has_room (ap (λ n. lane_count n q.alive) i.lane_is ∙ lanes (lane y.task.reg h)) i.cap_is)

  -- an item that may start stands for a start
  start-of_item : (o : Operation) → IsOpen o → (item : Waiting) → item_of o.req q.waiting ≡ Some item →
      may_start m q.alive item ≡ true →
      (s : Startable) × (startable h m o ≡ Some s) × (s.operation ≡ o) × IsStartOf h m item s
  start-of_item o i item e may = go (try_of h m o) refl
      (subst (λ x. BothOr (IsItemOf o) x (try_of h m o)) e (items-agree o i))
    where
      go : (x : Option Try) → try_of h m o ≡ x → BothOr (IsItemOf o) (Some item) x →
          (s : Startable) × (startable h m o ≡ Some s) × (s.operation ≡ o) × IsStartOf h m item s
      go None k b = absurd b
      go (Some y) k b =
          let free : (nat_le y.ready m && has_room (alive (lane y.task.reg h) h) y.task.definition.cap) ≡ true =
          sym (may-start o item y b) ∙ may in (
            record { operation = o; task = y.task; ready = y.ready },
            startable-by h m o ∙ ap (startable_by h m o) k
                ∙ ap (λ c. cond c (Some (record { operation = o; task = y.task; ready = y.ready })) None) free,
            refl,
            record {
              number = b.number;
              lane_is = b.lane_is;
              ready_is = b.ready_is;
              found = ap (λ n. find (λ (p : Operation). p.req == n) (open_operations h)) b.number ∙ i.itself;
              open_is = i.open_is;
              awaits = k;
              known = b.known;
            },
          )

  -- a start has an item that may start
  record HasItem (o : Operation) (s : Startable) : Type 0 where
    pub item : Waiting
    pub waits_is : item_of o.req q.waiting ≡ Some item
    pub may : may_start m q.alive item ≡ true
    pub operation_is : s.operation ≡ o
    pub number : item.req.0 ≡ s.operation.req
    pub ready_is : item.ready ≡ s.ready

  item-of_start : (o : Operation) → IsOpen o → (s : Startable) → startable h m o ≡ Some s → HasItem o s
  item-of_start o i s e = go (item_of o.req q.waiting) refl (try_of h m o) refl (items-agree o i)
    where
      pick : (item : Waiting) (y : Try) → item_of o.req q.waiting ≡ Some item → IsItemOf o item y → (c : Bool) →
          may_start m q.alive item ≡ c →
          cond c (Some (record { operation = o; task = y.task; ready = y.ready })) None ≡ Some s → HasItem o s
      pick item y w b true c f =
          let same : record { operation = o; task = y.task; ready = y.ready } ≡ s =
          some-same (record { operation = o; task = y.task; ready = y.ready }) s f in
          record {
            item = item;
            waits_is = w;
            may = c;
            operation_is = ap (λ (s : Startable). s.operation) (sym same);
            number = b.number ∙ ap (λ (s : Startable). s.operation.req) same;
            ready_is = b.ready_is ∙ ap (λ (s : Startable). s.ready) same;
          }
      pick item y w b false c f = cc

      go : (z : Option Waiting) → item_of o.req q.waiting ≡ z → (x : Option Try) → try_of h m o ≡ x →
          BothOr (IsItemOf o) z x → HasItem o s
      go None w None k b = let none : ◌≡◌ {A = Option Startable} None (Some s) =
          sym (startable-by h m o ∙ ap (startable_by h m o) k) ∙ e in cc
      go None w (Some y) k b = absurd b
      go (Some item) w None k b = absurd b
      go (Some item) w (Some y) k b =
          pick item y w b (may_start m q.alive item) refl
          (ap (λ c. cond c (Some (record { operation = o; task = y.task; ready = y.ready })) None)
          (may-start o item y b) ∙ sym (startable-by h m o ∙ ap (startable_by h m o) k) ∙ e)

  -- where no item may start, nothing may
  none-startable : AllByRecursion (λ other. may_start m q.alive other ≡ false) q.waiting → first h m ≡ None
  none-startable a = none-first h m (open_operations h) (each (open_operations h) each-is_open)
    where
      here : (o : Operation) → IsOpen o → (x : Option Startable) → startable h m o ≡ x → startable h m o ≡ None
      here o i None e = e
      here o i (Some s) e =
          let k : HasItem o s = item-of_start o i s e in
          let held : may_start m q.alive k.item ≡ false =
          item-each (λ other. may_start m q.alive other ≡ false) o.req q.waiting k.item a k.waits_is in
          let both : true ≡ false = sym k.may ∙ held in
          cc

      each : (os : List Operation) → AllByRecursion IsOpen os → AllByRecursion (λ o. startable h m o ≡ None) os
      each [] i = tt
      each (o ∷ os) i = (here o i.0 (startable h m o) refl, each os i.1)

  -- the start of the item that comes before each other is the first
  least-startable : (item : Waiting) → IsLeast m q.alive item q.waiting → (s : Startable) → IsStartOf h m item s →
      startable h m s.operation ≡ Some s → first h m ≡ Some s
  least-startable item least s is e =
      least-first h m s item.req.0 (open_operations h) (open-rising h lawful) is.found e
      (each (open_operations h) each-is_open)
    where
      here : (o : Operation) → IsOpen o → IsNoSooner h m s o
      here o i b f =
          let k : HasItem o b = item-of_start o i b f in
          let not_before : is_before k.item item ≡ false =
          item-each (λ other. may_start m q.alive other ≡ true → is_before other item ≡ false) o.req q.waiting
          k.item least k.waits_is k.may in (
            k.operation_is,
            same k.item.ready b.ready item.ready s.ready k.item.req.0 b.operation.req item.req.0
                s.operation.req k.ready_is is.ready_is k.number is.number not_before,
          )
        where
          same : (a b c d i j k l : ℕ) → a ≡ b → c ≡ d → i ≡ j → k ≡ l →
              (nat_lt a c || ((a == c) && nat_lt i k)) ≡ false → (nat_lt b d || ((b == d) && nat_lt j l)) ≡ false
          same a b c d i j k l ab cd ij kl e = rw (← ab, ← cd, ← ij, ← kl) e

      each : (os : List Operation) → AllByRecursion IsOpen os → AllByRecursion (IsNoSooner h m s) os
      each [] i = tt
      each (o ∷ os) i = (here o i.0, each os i.1)

  -- the operation of an item is open
  open-of_item : (item : Waiting) → item_of item.req.0 q.waiting ≡ Some item →
      (o : Operation) × IsOpen o × (o.req ≡ item.req.0)
  open-of_item item own = go (find (λ (o : Operation). o.req == item.req.0) (open_operations h)) refl
      (waiting item.req.0 v.operations) refl (tries item.req.0) (sym (waits item.req.0) ∙ own)
    where
      go : (x : Option Operation) → find (λ (o : Operation). o.req == item.req.0) (open_operations h) ≡ x →
          (s : Option Standing) → waiting item.req.0 v.operations ≡ s →
          IsTryOf h m s x → option_map (item_for h item.req.0) s ≡ Some item →
          (o : Operation) × IsOpen o × (o.req ≡ item.req.0)
      go None k s w t f = cc
      go (Some o) k s w t f = (
        o,
        found-each IsOpen (λ (o : Operation). o.req == item.req.0) (open_operations h) o each-is_open k,
        eqb-true o.req item.req.0 (found-passes (λ (o : Operation). o.req == item.req.0) (open_operations h) o k),
      )

  -- the first item of the queue stands for the first start of the journal, and none where there is none
  pub first-starts : ((item : Waiting) → first_of m q ≡ Some item → item_of item.req.0 q.waiting ≡ Some item) →
      BothOr (IsStartOf h m) (first_of m q) (first h m)
  first-starts own = go (first_of m q) refl (leads m q.alive q.waiting)
    where
      some : (item : Waiting) → first_of m q ≡ Some item → may_start m q.alive item ≡ true →
          IsLeast m q.alive item q.waiting → BothOr (IsStartOf h m) (Some item) (first h m)
      some item e may least =
          let o = open-of_item item (own item e) in
          let s = start-of_item o.0 o.1 item (ap (λ n. item_of n q.waiting) o.2 ∙ own item e) may in
          let itself : startable h m s.0.operation ≡ Some s.0 = ap (startable h m) s.2 ∙ s.1 in
          subst (BothOr (IsStartOf h m) (Some item)) (sym (least-startable item least s.0 s.3 itself)) s.3

      go : (x : Option Waiting) → first_of m q ≡ x → Leads m q.alive q.waiting x → BothOr (IsStartOf h m) x (first h m)
      go None e l = subst (BothOr (IsStartOf h m) None) (sym (none-startable l)) tt
      go (Some item) e l = some item e l.1 l.2
