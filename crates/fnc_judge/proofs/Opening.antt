-- The open operations, one after another.
use Rattle.std.proofs.Common.{
  ℕ,
  List,
  [],
  ◌∷◌,
  ◌++◌,
  Bool,
  true,
  false,
  ◌≡◌,
  ◌≤◌,
  ◌+◌,
  ◌==◌,
  ◌&&◌,
  ◌||◌,
  not,
  ltb,
  ltb-true,
  ltb-false,
  lt-ltb,
  cond,
  refl,
  sym,
  ap,
  ◌∙◌,
  arith,
  Option,
  Some,
  None,
  length,
}
use Rattle.std.specs.Prelude.{
  if◌then◌else◌,
  find,
  filter,
  filter_map,
  map,
  is_none,
  is_some,
  option_map,
  option_and_then,
}
use Rattle.std.specs.List.{list_any, cons_option}
use Rattle.fnc_journal.specs.declared.event.Event.{Event}
use Rattle.fnc_journal.specs.History.{History}
use Rattle.fnc_journal.specs.Missing.{or_here, append_some, first_of, has_any}
use Rattle.fnc_journal.specs.Found.{Asked, asked, is_answered, has_exit}
use Rattle.fnc_journal.specs.Registered.{lane}
use Rattle.fnc_journal.specs.Slots as Slots
use Rattle.fnc_journal.specs.Operations.{
  operation,
  led,
  requests,
  request_here,
  unanswered,
  is_open,
  operation_here,
  operations,
  open_operations,
}
use Rattle.fnc_journal.specs.Startable.{Begun, Startable, begun_runs, startable, sooner, soonest, first_among}
use Rattle.fnc_search.specs.Pursued.{Pursued}
use Rattle.fnc_search.specs.Pursued as Pursued
use Rattle.fnc_judge.specs.Opened.{
  waiting,
  waiting_here,
  opened,
  opens,
  found_after,
  counts,
  alive_in,
  counts_here,
  startable_any,
}
use Rattle.fnc_search.specs.Pursued.{pursued_by, pursued_of}

-- the first of those that pass, with one more
first-append : (p : ℕ → Bool) (xs : List ℕ) (x : ℕ) →
    first_of (filter p (xs ++ x ∷ [])) ≡ or_here (first_of (filter p xs)) (cond (p x) (Some x) None)
first-append p [] x = go (p x)
  where
    go : (b : Bool) → first_of (cond b (x ∷ []) []) ≡ or_here None (cond b (Some x) None)
    go true = refl
    go false = refl
first-append p (y ∷ ys) x = go (p y) (p x) (first-append p ys x)
  where
    go : (b c : Bool) → first_of (filter p (ys ++ x ∷ [])) ≡ or_here (first_of (filter p ys)) (cond c (Some x) None) →
        first_of (cond b (y ∷ filter p (ys ++ x ∷ [])) (filter p (ys ++ x ∷ [])))
        ≡ or_here (first_of (cond b (y ∷ filter p ys) (filter p ys))) (cond c (Some x) None)
    go true true ih = refl
    go true false ih = refl
    go false c ih = ih

pub waiting-more : (all : History) (o m : ℕ) (event : Event) (h : History) →
    or_here (waiting all o h) (waiting_here all o event) ≡ waiting all o (record { moment = m; event = event } ∷ h)
waiting-more all o m event h = go (request_here o event)
  where
    flip : (b : Bool) (r : ℕ) →
        or_here (waiting all o h) (cond b None (Some r)) ≡ or_here (waiting all o h) (cond (not b) (Some r) None)
    flip true r = refl
    flip false r = refl

    go : (x : Option ℕ) →
        or_here (waiting all o h) (option_and_then (λ r. if is_answered r all then None else Some r) x)
        ≡ first_of (filter (λ r. not (is_answered r all)) (append_some (requests o h) x))
    go None = refl
    go (Some r) = flip (is_answered r all) r ∙ sym (first-append (λ r. not (is_answered r all)) (requests o h) r)

pub open-when : (o : ℕ) (h : History) → is_some (first_of (unanswered o h)) ≡ is_open o h
open-when o h = go (unanswered o h)
  where
    go : (xs : List ℕ) → is_some (first_of xs) ≡ has_any xs
    go [] = refl
    go (x ∷ xs) = refl

pub pursued-is : (n : ℕ) (h : History) → option_map Pursued.operation (pursued_of n h) ≡ operation n h
pursued-is n h = go (asked n h)
  where
    led-is : (a : Asked) (b : Bool) →
        option_map Pursued.operation (cond b (Some (record { req = n; asked = a })) None)
        ≡ cond b (Some (Slots.operation_of n a)) None
    led-is a true = refl
    led-is a false = refl

    go : (a : Option Asked) →
        option_map Pursued.operation (option_and_then (pursued_by n) a) ≡ option_and_then (led n) a
    go None = refl
    go (Some a) = led-is a (n == a.lead)

-- the open operations begun by some of the entries
abbrev opens_by : History → List ℕ → List Slots.Operation
opens_by all ns = filter_map (λ o. operation o all) (filter (λ o. is_open o all) ns)

opens-append : (all : History) (ns : List ℕ) (n : ℕ) →
    opens_by all (ns ++ n ∷ []) ≡ append_some (opens_by all ns) (cond (is_open n all) (operation n all) None)
opens-append all [] n = go (is_open n all) (operation n all) refl
  where
    go : (b : Bool) (x : Option Slots.Operation) → operation n all ≡ x →
        filter_map (λ o. operation o all) (cond b (n ∷ []) []) ≡ append_some [] (cond b x None)
    go true None e = rw e refl
    go true (Some x) e = rw e refl
    go false x e = refl
opens-append all (k ∷ ks) n = go (is_open k all) (opens-append all ks n)
  where
    inner : (y : Option Slots.Operation) (x : Option Slots.Operation) →
        opens_by all (ks ++ n ∷ []) ≡ append_some (opens_by all ks) x →
        cons_option y (opens_by all (ks ++ n ∷ [])) ≡ append_some (cons_option y (opens_by all ks)) x
    inner None x ih = ih
    inner (Some y) None ih = ap (λ os. y ∷ os) ih
    inner (Some y) (Some x) ih = ap (λ os. y ∷ os) ih

    go : (b : Bool) → opens_by all (ks ++ n ∷ [])
        ≡ append_some (opens_by all ks) (cond (is_open n all) (operation n all) None) →
        filter_map (λ o. operation o all)
        (cond b (k ∷ filter (λ o. is_open o all) (ks ++ n ∷ [])) (filter (λ o. is_open o all) (ks ++ n ∷ [])))
        ≡ append_some (filter_map (λ o. operation o all)
        (cond b (k ∷ filter (λ o. is_open o all) ks) (filter (λ o. is_open o all) ks)))
        (cond (is_open n all) (operation n all) None)
    go true ih = inner (operation k all) (cond (is_open n all) (operation n all) None) ih
    go false ih = ih

map-append : (ps : List Pursued) (p : Option Pursued) →
    map Pursued.operation (append_some ps p) ≡ append_some (map Pursued.operation ps) (option_map Pursued.operation p)
map-append ps None = refl
map-append [] (Some p) = refl
map-append (q ∷ ps) (Some p) = ap (λ os. Pursued.operation q ∷ os) (map-append ps (Some p))

opens-by : (all h : History) → map Pursued.operation (opens all h) ≡ opens_by all (operations h)
opens-by all [] = refl
opens-by all (e ∷ h) =
    map-append (opens all h) (opened all e.event)
    ∙ ap (λ os. append_some os (option_map Pursued.operation (opened all e.event))) (opens-by all h)
    ∙ go (operation_here e.event)
  where
    tested : (b : Bool) (n : ℕ) →
        option_map Pursued.operation (cond b (pursued_of n all) None) ≡ cond b (operation n all) None
    tested true n = pursued-is n all
    tested false n = refl

    go : (x : Option ℕ) →
        append_some (opens_by all (operations h))
        (option_map Pursued.operation (option_and_then (λ n. if is_open n all then pursued_of n all else None) x))
        ≡ opens_by all (append_some (operations h) x)
    go None = refl
    go (Some n) =
        ap (append_some (opens_by all (operations h))) (tested (is_open n all) n)
        ∙ sym (opens-append all (operations h) n)

pub opens-all : (h : History) → map Pursued.operation (opens h h) ≡ open_operations h
opens-all h = opens-by h h

-- what is found among them
pub found-more : (p : Pursued → Bool) (xs : List Pursued) (x : Option Pursued) →
    found_after p (find p xs) x ≡ find p (append_some xs x)
found-more p [] None = refl
found-more p [] (Some x) = refl
found-more p (y ∷ ys) x = go (p y) (found-more p ys x) x
  where
    split : (x : Option Pursued) → append_some (y ∷ ys) x ≡ y ∷ append_some ys x
    split None = refl
    split (Some x) = refl

    inner : (b : Bool) → p y ≡ b → (x : Option Pursued) → found_after p (find p ys) x ≡ find p (append_some ys x) →
        found_after p (cond b (Some y) (find p ys)) x ≡ cond b (Some y) (find p (append_some ys x))
    inner true e x ih = refl
    inner false e x ih = ih

    go : (b : Bool) → found_after p (find p ys) x ≡ find p (append_some ys x) → (z : Option Pursued) →
        found_after p (find p (y ∷ ys)) x ≡ find p (append_some (y ∷ ys) x)
    go b ih z = inner (p y) refl x ih ∙ sym (ap (find p) (split x))

pub find-map : (q : Slots.Operation → Bool) (ps : List Pursued) →
    option_map Pursued.operation (find (λ p. q (Pursued.operation p)) ps) ≡ find q (map Pursued.operation ps)
find-map q [] = refl
find-map q (p ∷ ps) = go (q (Pursued.operation p)) (find-map q ps)
  where
    go : (b : Bool) → option_map Pursued.operation (find (λ p. q (Pursued.operation p)) ps)
        ≡ find q (map Pursued.operation ps) →
        option_map Pursued.operation (cond b (Some p) (find (λ p. q (Pursued.operation p)) ps))
        ≡ cond b (Some (Pursued.operation p)) (find q (map Pursued.operation ps))
    go true ih = refl
    go false ih = ih

-- none passes where none is found
pub none-any : (q : Slots.Operation → Bool) (os : List Slots.Operation) → is_none (find q os) ≡ not (list_any q os)
none-any q [] = refl
none-any q (o ∷ os) = go (q o) (none-any q os)
  where
    go : (b : Bool) → is_none (find q os) ≡ not (list_any q os) →
        is_none (cond b (Some o) (find q os)) ≡ not (b || list_any q os)
    go true ih = refl
    go false ih = ih

-- whether there is an operation of a number
pub operation-some : (n : ℕ) (h : History) → is_some (pursued_of n h) ≡ is_some (operation n h)
operation-some n h = go (pursued_of n h) ∙ ap is_some (pursued-is n h)
  where
    go : (x : Option Pursued) → is_some x ≡ is_some (option_map Pursued.operation x)
    go None = refl
    go (Some p) = refl

-- the first that may start
soonest-none : (a : Option Startable) → soonest a None ≡ a
soonest-none None = refl
soonest-none (Some a) = refl

sooner-assoc : (a b c : Startable) → sooner (sooner a b) c ≡ sooner a (sooner b c)
sooner-assoc a b c = go (ltb b.ready a.ready) refl (ltb c.ready b.ready) refl (ltb c.ready a.ready) refl
  where
    go : (x : Bool) → ltb b.ready a.ready ≡ x → (y : Bool) → ltb c.ready b.ready ≡ y → (z : Bool) →
        ltb c.ready a.ready ≡ z → sooner (cond x b a) c ≡ sooner a (cond y c b)
    go true p true q z r =
        let less : ltb c.ready a.ready ≡ true =
        lt-ltb c.ready a.ready (omega (arith, ltb-true b.ready a.ready p, ltb-true c.ready b.ready q)) in
        rw (q, less) refl
    go true p false q z r = rw (p, q) refl
    go false p true q z r = refl
    go false p false q true r =
        absurd (omega (arith, ltb-false b.ready a.ready p, ltb-false c.ready b.ready q, ltb-true c.ready a.ready r))
    go false p false q false r = rw (p, r) refl

soonest-assoc : (a b c : Option Startable) → soonest (soonest a b) c ≡ soonest a (soonest b c)
soonest-assoc None b c = refl
soonest-assoc (Some a) None c = refl
soonest-assoc (Some a) (Some b) None = refl
soonest-assoc (Some a) (Some b) (Some c) = ap Some (sooner-assoc a b c)

first-append_some : (h : History) (m : ℕ) (os : List Slots.Operation) (o : Slots.Operation) →
    soonest (first_among h m os) (startable h m o) ≡ first_among h m (os ++ o ∷ [])
first-append_some h m [] o = sym (soonest-none (startable h m o))
first-append_some h m (k ∷ ks) o =
    soonest-assoc (startable h m k) (first_among h m ks) (startable h m o)
    ∙ ap (soonest (startable h m k)) (first-append_some h m ks o)

pub first-more : (h : History) (m : ℕ) (ps : List Pursued) (p : Option Pursued) →
    soonest (first_among h m (map Pursued.operation ps)) (startable_any h m p)
    ≡ first_among h m (map Pursued.operation (append_some ps p))
first-more h m ps None = soonest-none (first_among h m (map Pursued.operation ps))
first-more h m ps (Some p) =
    first-append_some h m (map Pursued.operation ps) (Pursued.operation p)
    ∙ ap (first_among h m) (sym (map-append ps (Some p)))

-- how many are alive
alive-append : (all : History) (l : ℕ) (bs : List Begun) (b : Begun) →
    cond (counts all l b) (alive_in all l bs + 1) (alive_in all l bs) ≡ alive_in all l (bs ++ b ∷ [])
alive-append all l [] b = go (not (has_exit b.run all)) (lane b.reg all == l) refl
  where
    go : (x y : Bool) → (lane b.reg all == l) ≡ y →
        cond (x && y) (0 + 1) 0 ≡ length (filter (λ (b : Begun). lane b.reg all == l) (cond x (b ∷ []) []))
    go true true e = rw e refl
    go true false e = rw e refl
    go false y e = refl
alive-append all l (d ∷ ds) b =
    go (not (has_exit d.run all)) (lane d.reg all == l) refl (counts all l b) (alive-append all l ds b)
  where
    go : (x y : Bool) → (lane d.reg all == l) ≡ y → (z : Bool) →
        cond z (alive_in all l ds + 1) (alive_in all l ds) ≡ alive_in all l (ds ++ b ∷ []) →
        cond z (length (filter (λ (b : Begun). lane b.reg all == l)
        (cond x (d ∷ filter (λ (b : Begun). not (has_exit b.run all)) ds)
        (filter (λ (b : Begun). not (has_exit b.run all)) ds))) + 1)
        (length (filter (λ (b : Begun). lane b.reg all == l)
        (cond x (d ∷ filter (λ (b : Begun). not (has_exit b.run all)) ds)
        (filter (λ (b : Begun). not (has_exit b.run all)) ds))))
        ≡ length (filter (λ (b : Begun). lane b.reg all == l)
        (cond x (d ∷ filter (λ (b : Begun). not (has_exit b.run all)) (ds ++ b ∷ []))
        (filter (λ (b : Begun). not (has_exit b.run all)) (ds ++ b ∷ []))))
    go true true e true ih =
        rw e (let n : alive_in all l ds + 1 ≡ alive_in all l (ds ++ b ∷ []) = ih in omega (arith, n))
    go true true e false ih = rw e (let n : alive_in all l ds ≡ alive_in all l (ds ++ b ∷ []) = ih in omega (arith, n))
    go true false e z ih = rw e ih
    go false y e z ih = ih

pub alive-more : (all : History) (l m : ℕ) (event : Event) (h : History) →
    cond (counts_here all l event) (alive_in all l (begun_runs h) + 1) (alive_in all l (begun_runs h))
    ≡ alive_in all l (begun_runs (record { moment = m; event = event } ∷ h))
alive-more all l m (Event.Start start) h =
    alive-append all l (begun_runs h) (record { run = start.run.0; reg = start.reg.0 })
alive-more all l m _ h = refl

pub alive-most : (all : History) (l : ℕ) (h : History) → alive_in all l (begun_runs h) ≤ length h
alive-most all l [] = omega arith
alive-most all l (e ∷ h) = go (counts_here all l e.event) (alive-more all l e.moment e.event h) (alive-most all l h)
  where
    go : (b : Bool) → cond b (alive_in all l (begun_runs h) + 1) (alive_in all l (begun_runs h))
        ≡ alive_in all l (begun_runs (e ∷ h)) → alive_in all l (begun_runs h) ≤ length h →
        alive_in all l (begun_runs (e ∷ h)) ≤ length (e ∷ h)
    go true p k = omega (arith, p, k)
    go false p k = omega (arith, p, k)
