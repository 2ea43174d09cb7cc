-- The runs that are alive are of registrations that are known; how many there are of a lane after an entry.
use Rattle.std.proofs.Common.{
  ℕ,
  List,
  [],
  ◌∷◌,
  ◌++◌,
  Bool,
  true,
  false,
  ◌≡◌,
  ◌+◌,
  refl,
  ap,
  sym,
  ◌∙◌,
  Option,
  Some,
  None,
  IsTrue,
  cond,
  not,
  is_some,
  arith,
  length,
  ◌==◌,
  eqb-true,
}
use Rattle.std.specs.Prelude.{filter, find, option_map}
use Rattle.std.specs.List.{AllByRecursion}
use Rattle.fnc_journal.specs.declared.event.Ended.{Ended}
use Rattle.fnc_journal.specs.declared.event.Start.{Start}
use Rattle.fnc_journal.specs.declared.event.Event.{Event}
use Rattle.fnc_journal.specs.History.{History}
use Rattle.fnc_journal.specs.Missing.{or_here, append_some}
use Rattle.fnc_journal.specs.Found.{started, started_here, registration, has_exit}
use Rattle.fnc_journal.specs.Registered.{lane}
use Rattle.fnc_journal.specs.Startable.{Begun, begun_here, begun_runs, alive_runs, alive, is_alive}
use Rattle.fnc_journal.specs.Lawful.{Lawful, in_order}
use Rattle.fnc_journal.proofs.Each.{each-map, each-append, each-filter, filter-same}
use Rattle.fnc_journal.proofs.Frames.{at, is_running, alive_runs-frame}
use Rattle.fnc_journal.proofs.Lawfulness.{and-right, in_order-of}
use Rattle.fnc_journal.proofs.Running.{alive_runs-exit}
use Rattle.fnc_ops.specs.Stands.{exit_entry}
use Rattle.fnc_ops.proofs.AliveCounts.{alive-apart, count_of, count-without, one_if}
use Rattle.fnc_core.proofs.Registrations.{registration-push, lane-push}

-- the registration of a run is known
abbrev pub IsKnownRun : History → Begun → Type 0
IsKnownRun h b = is_some (registration b.reg h) ≡ true

known-push : (m : ℕ) (event : Event) (h : History) (b : Begun) → IsKnownRun h b → IsKnownRun (at m event ∷ h) b
known-push m event h b k = ap is_some (registration-push b.reg m event h k) ∙ k

begun-known : (h : History) → Lawful h → AllByRecursion (IsKnownRun h) (begun_runs h)
begun-known [] l = tt
begun-known (e ∷ before) l =
    go e.event (in_order-of e.moment e.event before l.0.ordered)
    (each-map (IsKnownRun before) (IsKnownRun (e ∷ before)) (begun_runs before)
    (λ b k. known-push e.moment e.event before b k) (begun-known before l.1))
  where
    go : (event : Event) → IsTrue (in_order event before) →
        AllByRecursion (IsKnownRun (at e.moment event ∷ before)) (begun_runs before) →
        AllByRecursion (IsKnownRun (at e.moment event ∷ before)) (append_some (begun_runs before) (begun_here event))
    go (Event.Start start) i a =
        each-append (IsKnownRun (at e.moment (Event.Start start) ∷ before)) (begun_runs before)
        (record { run = start.run.0; reg = start.reg.0 }) a
        (known-push e.moment (Event.Start start) before (record { run = start.run.0; reg = start.reg.0 })
        (and-right _ _ i))
    go _ i a = a

pub alive-known : (h : History) → Lawful h → AllByRecursion (IsKnownRun h) (alive_runs h)
alive-known h l = each-filter (IsKnownRun h) (λ b. not (has_exit b.run h)) (begun_runs h) (begun-known h l)

-- an entry that neither starts nor ends a run leaves how many runs of a lane are alive
pub alive-entered : (m : ℕ) (event : Event) (h : History) → Lawful h → in_order event h ≡ true →
    is_running event ≡ false → (l : ℕ) → alive l (at m event ∷ h) ≡ alive l h
alive-entered m event h lawful o q l =
    ap (λ (bs : List Begun). length (filter (λ b. lane b.reg (at m event ∷ h) == l) bs)) (alive_runs-frame m event h q)
    ∙ ap length (filter-same (λ (b : Begun). lane b.reg (at m event ∷ h) == l) (λ (b : Begun). lane b.reg h == l)
    (alive_runs h)
    (each-map (IsKnownRun h) (λ (b : Begun). (lane b.reg (at m event ∷ h) == l) ≡ (lane b.reg h == l)) (alive_runs h)
    (λ b k. ap (λ n. n == l) (lane-push b.reg m event h lawful o k)) (alive-known h lawful)))

-- the run of a number among those that were started
abbrev begun_of : ℕ → Option Start → Option Begun
begun_of n s = option_map (λ (s : Start). record { run = n; reg = s.reg.0 }) s

abbrev begun : ℕ → ℕ → Begun
begun n reg = record { run = n; reg = reg }

find-append : (p : Begun → Bool) (xs : List Begun) (x : Begun) →
    find p (xs ++ x ∷ []) ≡ or_here (find p xs) (cond (p x) (Some x) None)
find-append p [] x = go (p x)
  where
    go : (b : Bool) → cond b (Some x) None ≡ or_here None (cond b (Some x) None)
    go true = refl
    go false = refl
find-append p (y ∷ ys) x = go (p y) (find-append p ys x)
  where
    first : (b : Bool) → ◌≡◌ {A = Option Begun} (Some y) (or_here (Some y) (cond b (Some x) None))
    first true = refl
    first false = refl

    go : (b : Bool) → find p (ys ++ x ∷ []) ≡ or_here (find p ys) (cond (p x) (Some x) None) →
        cond b (Some y) (find p (ys ++ x ∷ [])) ≡ or_here (cond b (Some y) (find p ys)) (cond (p x) (Some x) None)
    go true e = first (p x)
    go false e = e

begun-started : (n : ℕ) (h : History) → find (λ (b : Begun). n == b.run) (begun_runs h) ≡ begun_of n (started n h)
begun-started n [] = refl
begun-started n (e ∷ before) = go e.event (begun-started n before)
  where
    both : (x : Option Start) (s : Start) (run : ℕ) (c : Bool) → (n == run) ≡ c →
        or_here (begun_of n x) (cond c (Some (record { run = run; reg = s.reg.0 })) None) ≡ begun_of n
        (or_here x (cond c (Some s) None))
    both None s run true e = ap (λ (k : ℕ). Some (begun k s.reg.0)) (sym (eqb-true n run e))
    both None s run false e = refl
    both (Some x) s run true e = refl
    both (Some x) s run false e = refl

    go : (event : Event) → find (λ (b : Begun). n == b.run) (begun_runs before) ≡ begun_of n (started n before) →
        find (λ (b : Begun). n == b.run) (append_some (begun_runs before) (begun_here event)) ≡ begun_of n
        (or_here (started n before) (started_here n event))
    go (Event.Start start) ih =
        find-append (λ (b : Begun). n == b.run) (begun_runs before) (record { run = start.run.0; reg = start.reg.0 })
        ∙ ap (λ x. or_here x (cond (n == start.run.0) (Some (record { run = start.run.0; reg = start.reg.0 })) None)) ih
        ∙ both (started n before) start start.run.0 (n == start.run.0) refl
    go _ ih = ih

-- a test that the run of a number passes leaves it where it is
find-kept : (n : ℕ) (h : History) → has_exit n h ≡ false → (xs : List Begun) →
    find (λ (b : Begun). n == b.run) (filter (λ (b : Begun). not (has_exit b.run h)) xs) ≡ find
    (λ (b : Begun). n == b.run) xs
find-kept n h u [] = refl
find-kept n h u (x ∷ xs) = go (n == x.run) refl (has_exit x.run h) refl (find-kept n h u xs)
  where
    go : (b : Bool) → (n == x.run) ≡ b → (c : Bool) → has_exit x.run h ≡ c →
        find (λ (b : Begun). n == b.run) (filter (λ (b : Begun). not (has_exit b.run h)) xs) ≡ find
        (λ (b : Begun). n == b.run) xs →
        find (λ (b : Begun). n == b.run) (cond (not c) (x ∷ filter (λ (b : Begun). not (has_exit b.run h)) xs)
        (filter (λ (b : Begun). not (has_exit b.run h)) xs))
        ≡ cond b (Some x) (find (λ (b : Begun). n == b.run) xs)
    go true e true f ih = let same : has_exit n h ≡ true = ap (λ k. has_exit k h) (eqb-true n x.run e) ∙ f in cc
    go true e false f ih = rw e refl
    go false e true f ih = ih
    go false e false f ih = rw e ih

-- the run of a number, where it is alive
pub alive-begun : (n : ℕ) (h : History) → is_alive n h ≡ true → (s : Start) → started n h ≡ Some s →
    find (λ (b : Begun). n == b.run) (alive_runs h) ≡ Some (record { run = n; reg = s.reg.0 })
alive-begun n h a s e = find-kept n h (unended (has_exit n h)
    (and-right (is_some (started n h)) (not (has_exit n h)) a)) (begun_runs h) ∙ begun-started n h ∙ ap (begun_of n) e
  where
    unended : (b : Bool) → not b ≡ true → b ≡ false
    unended true k = cc
    unended false k = refl

-- after its exit its lane has one run less
pub alive-exit : (h : History) → Lawful h → (m : ℕ) (over : Ended) → is_alive over.run.0 h ≡ true → (s : Start) →
    started over.run.0 h ≡ Some s → (l : ℕ) →
    alive l h ≡ cond (lane s.reg.0 h == l) (alive l (exit_entry m over ∷ h) + 1) (alive l (exit_entry m over ∷ h))
alive-exit h lawful m over a s e l =
    let p : Begun → Bool = λ b. lane b.reg h == l in
    let now : alive l (exit_entry m over ∷ h) ≡ count_of p
    (filter (λ (b : Begun). not (b.run == over.run.0)) (alive_runs h)) =
    ap (λ (bs : List Begun). count_of p bs) (alive_runs-exit h m over) in
    let less : count_of p (filter (λ (b : Begun). not (b.run == over.run.0)) (alive_runs h)) + one_if
    (lane s.reg.0 h == l) ≡ alive l h =
    count-without p over.run.0 (alive_runs h) (record { run = over.run.0; reg = s.reg.0 }) (alive-apart h lawful)
    (alive-begun over.run.0 h a s e) in
    sym less ∙ ap (λ n. n + one_if (lane s.reg.0 h == l)) (sym now)
    ∙ with_one (lane s.reg.0 h == l) (alive l (exit_entry m over ∷ h))
  where
    with_one : (b : Bool) (n : ℕ) → n + one_if b ≡ cond b (n + 1) n
    with_one true n = refl
    with_one false n = omega arith
