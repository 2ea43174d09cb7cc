-- What is told of the first start, where the parts rest at a moment.
use Rattle.std.proofs.Common.{ℕ, ◌≡◌, ◌==◌, refl, ap, ap₂, sym, ◌∙◌, subst, Option, Some, None, IfSome, Bor}
use Rattle.std.specs.Prelude.{find, IsNone}
use Rattle.std.specs.Option.{option_copied}
use Rattle.fnc_journal.specs.declared.definition.Definition.{Definition}
use Rattle.fnc_journal.specs.declared.definition.Registration.{Registration}
use Rattle.fnc_journal.specs.declared.entry.Reg.{Reg}
use Rattle.fnc_journal.specs.declared.entry.Req.{Req}
use Rattle.fnc_journal.specs.declared.entry.Run.{Run}
use Rattle.fnc_journal.specs.History.{History}
use Rattle.fnc_journal.specs.Found.{registration}
use Rattle.fnc_journal.specs.Device.{allowed}
use Rattle.fnc_journal.specs.Slots.{Task, Operation, time}
use Rattle.fnc_journal.specs.Operations.{operation, open_operations}
use Rattle.fnc_journal.specs.Startable.{Startable, first}
use Rattle.fnc_queue.specs.declared.waiting.Waiting.{Waiting}
use Rattle.fnc_queue.specs.Items.{item_of}
use Rattle.fnc_queue.specs.Places.{first_of}
use Rattle.fnc_queue.specs.Queued.{Queued, started}
use Rattle.fnc_records.specs.declared.operation.Standing.{Standing}
use Rattle.fnc_ops.specs.OpsRecords.{waiting}
use Rattle.fnc_records.specs.SlotFacts.{BothOr}
use Rattle.fnc_ops.specs.Stands.{Try, IsTry, IsTryOf}
use Rattle.fnc_ops.proofs.StandsTries.{waiting_found}
use Rattle.fnc_core.specs.Between.{Rests, IsNextStart}
use Rattle.fnc_core.specs.declared.change.Started.{Started}
use Rattle.fnc_core.specs.Limits.{time_of, limit_at}
use Rattle.fnc_core.specs.Parted.{Parted}
use Rattle.fnc_core.specs.Told.{IsTold}
use Rattle.fnc_core.proofs.KnownTasks.{IsKnown, defined}
use Rattle.fnc_core.proofs.FirstStarts.{IsStartOf, first-starts}

-- each operation waits for its try
rests-tries : (m : ℕ) (p : Parted) → Rests m p → (req : ℕ) →
    IsTryOf p.history m (waiting req p.ops.operations)
    (find (λ (o : Operation). o.req == req) (open_operations p.history))
rests-tries m p r req = waiting_found p.history m r.between.lawful req p.ops.operations r.settled_now r.between.at
    r.between.stands.each

-- the first item is its operation's own
abbrev pub HasOwn : ℕ → Queued → Type 0
HasOwn m q = (item : Waiting) → first_of m q ≡ Some item → item_of item.req.0 q.waiting ≡ Some item

some_item : (a b : Waiting) → ◌≡◌ {A = Option Waiting} (Some a) (Some b) → a ≡ b
some_item a b e = cc

pub own-taken : (m : ℕ) (q : Queued) (x : Option Waiting) → x ≡ first_of m q →
    IfSome x (λ item. item_of item.req.0 q.waiting ≡ Some item) → HasOwn m q
own-taken m q None e k item f = let both : ◌≡◌ {A = Option Waiting} None (Some item) = e ∙ f in cc
own-taken m q (Some x) e k item f = subst (λ (w : Waiting). item_of w.req.0 q.waiting ≡ Some w)
    (some_item x item (e ∙ f)) k

pub own-seen : (m : ℕ) (q : Queued) (x : Option (Bor Waiting)) → option_copied x ≡ first_of m q →
    IfSome x (λ item. item_of item.now.req.0 q.waiting ≡ Some item.now) → HasOwn m q
own-seen m q None e k = own-taken m q None e tt
own-seen m q (Some x) e k = own-taken m q (Some x.now) e k

-- the first item of the queue stands for the first start of the journal
pub rests-first : (m : ℕ) (p : Parted) → Rests m p → HasOwn m p.queue →
    BothOr (IsStartOf p.history m) (first_of m p.queue) (first p.history m)
rests-first m p r own = first-starts p.history m p.ops p.queue r.between.lawful
    (rests-tries m p r) r.between.waits r.between.lanes own

-- there is none where there is no item
pub none-first_item : (h : History) (m : ℕ) (x : Option Startable) → BothOr (IsStartOf h m) None x → x ≡ None
none-first_item h m None b = refl
none-first_item h m (Some s) b = absurd b

-- there is one where there is an item
pub some-first_item : (h : History) (m : ℕ) (item : Waiting) (x : Option Startable) →
    BothOr (IsStartOf h m) (Some item) x → (s : Startable) × (x ≡ Some s) × IsStartOf h m item s
some-first_item h m item None b = absurd b
some-first_item h m item (Some s) b = (s, refl, b)

-- its operation, by the item's number
pub found-open : (h : History) (m : ℕ) (item : Waiting) (s : Startable) → IsStartOf h m item s →
    operation item.req.0 h ≡ Some s.operation
found-open h m item s k = ap (λ n. operation n h) k.number ∙ k.open_is

-- the try of a start
abbrev pub try_for : Startable → Try
try_for s = record { task = s.task; ready = s.ready }

-- what is told of it
pub told-start : (h : History) (m : ℕ) (item : Waiting) (s : Startable) → IsStartOf h m item s → (x : Option Standing) →
    IsTryOf h m x (find (λ (o : Operation). o.req == item.req.0) (open_operations h)) →
    BothOr (IsTry h s.operation) x (Some (try_for s))
told-start h m item s k x t = subst (BothOr (IsTry h s.operation) x) k.awaits (subst (IsTryOf h m x) k.found t)

some_definition : (a b : Definition) → ◌≡◌ {A = Option Definition} (Some a) (Some b) → a ≡ b
some_definition a b e = cc

time-known : (h : History) (t : Task) → IsKnown h t → time_of t.reg t.kind h ≡ time t
time-known h t k = go (registration t.reg h) refl k
  where
    go : (x : Option Registration) → registration t.reg h ≡ x → defined x ≡ Some t.definition →
        time_of t.reg t.kind h ≡ time t
    go None e f = cc
    go (Some r) e f = rw e (ap (λ d. (allowed d t.kind).time) (some_definition r.definition t.definition f))

pub next-start : (m : ℕ) (p : Parted) (run : Run) (item : Waiting) (s : Startable) → first p.history m ≡ Some s →
    IsStartOf p.history m item s → (x : Standing) → IsTry p.history s.operation x (try_for s) → (z : Started) →
    IsTold p.history m run item.req x z → IsNextStart m p run z
next-start m p run item s f k x t z told = record {
  startable = s;
  is_first = f;
  run_is = told.run_is;
  req = ap (λ (r : Req). r.0) told.req_is ∙ k.number;
  slot = told.slot_is ∙ t.slot;
  reg = ap (λ (r : Reg). r.0) told.reg_is ∙ t.reg;
  kind = told.kind_is ∙ t.kind;
  attempt = told.attempt_is ∙ t.attempt;
  limit =
      told.limit_is s.operation (found-open p.history m item s k)
      ∙ ap₂ (limit_at m s.operation.over) (ap₂ (λ reg kind. time_of reg kind p.history) t.reg t.kind
      ∙ time-known p.history s.task k.known) t.limit;
}

-- the start that is told of the queue's first item
pub record IsFirstTold (m : ℕ) (p : Parted) (run : Run) (item : Waiting) (z : Started) : Type 0 where
  pub next : IsNextStart m p run z
  pub is_start : IsStartOf p.history m item next.startable

pub first-told : (m : ℕ) (p : Parted) → Rests m p → (run : Run) (item : Waiting) → first_of m p.queue ≡ Some item →
    item_of item.req.0 p.queue.waiting ≡ Some item → (y : Option Started) →
    BothOr (IsTold p.history m run item.req) (waiting item.req.0 p.ops.operations) y →
    (z : Started) × (y ≡ Some z) × IsFirstTold m p run item z
unfolding next-start
first-told m p rests run item e own y told =
    go (waiting item.req.0 p.ops.operations) y
    (told-start p.history m item s.0 s.2 (waiting item.req.0 p.ops.operations) (rests-tries m p rests item.req.0)) told
  where
    s : (s : Startable) × (first p.history m ≡ Some s) × IsStartOf p.history m item s
    s =
        some-first_item p.history m item (first p.history m)
        (subst (λ (x : Option Waiting). BothOr (IsStartOf p.history m) x (first p.history m)) e
        (rests-first m p rests (own-taken m p.queue (Some item) (sym e) own)))

    go : (x : Option Standing) (y : Option Started) → BothOr (IsTry p.history s.0.operation) x (Some (try_for s.0)) →
        BothOr (IsTold p.history m run item.req) x y → (z : Started) × (y ≡ Some z) × IsFirstTold m p run item z
    go None y t told = absurd t
    go (Some x) None t told = absurd told
    go (Some x) (Some z) t told =
        (z, refl, record { next = next-start m p run item s.0 s.1 s.2 x t z told; is_start = s.2 })

-- where one is there the other is
pub neither-none : {X Y : Type 0} (x : Option X) (y : Option Y) (a : X) (b : Y) → x ≡ Some a → y ≡ Some b →
    (IsNone x → y ≡ None) × (y ≡ None → IsNone x)
neither-none None y a b e f = cc
neither-none (Some x) None a b e f = cc
neither-none (Some x) (Some y) a b e f = (λ k. cc, λ k. cc)

-- the queue as it was where it had no first item
pub untaken : (m : ℕ) (q u : Queued) → u ≡ started (first_of m q) q → first_of m q ≡ None → u ≡ q
untaken m q u e f = e ∙ ap (λ (x : Option Waiting). started x q) f
