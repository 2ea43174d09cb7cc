-- How many runs are alive after a start and after an exit.
use Rattle.std.proofs.Common.{
  ℕ,
  List,
  [],
  ◌∷◌,
  ◌++◌,
  Bool,
  true,
  false,
  ◌≡◌,
  ◌<◌,
  ◌≤◌,
  ◌+◌,
  ◌-◌,
  ◌==◌,
  refl,
  ap,
  sym,
  ◌∙◌,
  subst,
  Option,
  Some,
  None,
  cond,
  not,
  is_some,
  arith,
  length,
  eqb-true,
  eq-eqb,
  ne_eqb,
  IsTrue,
  ◌||◌,
}
use Rattle.std.specs.Prelude.{filter, find}
use Rattle.std.specs.List.{list_any, AllByRecursion}
use Rattle.fnc_journal.specs.declared.event.Ended.{Ended}
use Rattle.fnc_journal.specs.declared.event.Start.{Start}
use Rattle.fnc_journal.specs.declared.event.Event.{Event}
use Rattle.fnc_journal.specs.History.{History}
use Rattle.fnc_journal.specs.Found.{starts, has_exit}
use Rattle.fnc_journal.specs.Missing.{append_some}
use Rattle.fnc_journal.specs.Startable.{Begun, begun_here, begun_runs, alive_runs, is_alive}
use Rattle.fnc_journal.specs.Lawful.{Lawful, in_order}
use Rattle.fnc_journal.proofs.Each.{each-append, each-map}
use Rattle.fnc_journal.proofs.Lawfulness.{in_order-of, and-left}
use Rattle.fnc_journal.proofs.Running.{alive_runs-start, alive_runs-exit, alive-listed}
use Rattle.fnc_ops.specs.Stands.{start_entry, exit_entry}
use Rattle.fnc_ops.proofs.Apart.{AreApart, apart-append, apart-filter}

false-true : (b : Bool) → b ≡ false → b ≡ true → ⊥
false-true b e f = cc

-- the number of a run
abbrev pub run_of : Begun → ℕ
run_of b = b.run

-- each run's number is below that of the next run
begun-small : (h : History) → Lawful h → AllByRecursion (λ (b : Begun). b.run < starts h) (begun_runs h)
begun-small [] l = tt
begun-small (e ∷ before) l = go e.event (in_order-of e.moment e.event before l.0.ordered) (begun-small before l.1)
  where
    go : (event : Event) → IsTrue (in_order event before) → AllByRecursion (λ (b : Begun). b.run < starts before)
        (begun_runs before) →
        AllByRecursion (λ (b : Begun). b.run < starts (record { moment = e.moment; event = event } ∷ before))
        (append_some (begun_runs before) (begun_here event))
    go (Event.Start start) i a =
        let same : start.run.0 ≡ starts before = eqb-true start.run.0 (starts before) (and-left _ _ (and-left _ _ i)) in
        each-append (λ (b : Begun). b.run < starts before + 1) (begun_runs before) (record {
          run = start.run.0;
          reg =
              start.reg.0;
        })
        (each-map (λ (b : Begun). b.run < starts before) (λ (b : Begun). b.run < starts before + 1) (begun_runs before)
        (λ b k. omega (arith, k)) a) (omega (arith, same))
    go _ i a = a

begun-apart : (h : History) → Lawful h → AreApart run_of (begun_runs h)
begun-apart [] l = tt
begun-apart (e ∷ before) l = go e.event (in_order-of e.moment e.event before l.0.ordered) (begun-apart before l.1)
  where
    go : (event : Event) → IsTrue (in_order event before) → AreApart run_of (begun_runs before) →
        AreApart run_of (append_some (begun_runs before) (begun_here event))
    go (Event.Start start) i d =
        let same : start.run.0 ≡ starts before = eqb-true start.run.0 (starts before) (and-left _ _ (and-left _ _ i)) in
        apart-append run_of (begun_runs before) (record { run = start.run.0; reg = start.reg.0 })
        (each-map (λ (b : Begun). b.run < starts before) (λ (b : Begun). (start.run.0 == b.run) ≡ false)
        (begun_runs before) (λ b k. ne_eqb start.run.0 b.run (λ g. omega (arith, k, same, g)))
        (begun-small before l.1)) d
    go _ i d = d

pub alive-apart : (h : History) → Lawful h → AreApart run_of (alive_runs h)
alive-apart h l = apart-filter run_of (λ b. not (has_exit b.run h)) (begun_runs h) (begun-apart h l)

-- how many of these runs are of a kind
abbrev pub count_of : (Begun → Bool) → List Begun → ℕ
count_of p bs = length (filter p bs)

-- one where a test holds, else none
abbrev pub one_if : Bool → ℕ
one_if true = 1
one_if false = 0

count-cons : (p : Begun → Bool) (b : Begun) (bs : List Begun) → count_of p (b ∷ bs) ≡ one_if (p b) + count_of p bs
count-cons p b bs = go (p b)
  where
    go : (x : Bool) → length (cond x (b ∷ filter p bs) (filter p bs)) ≡ one_if x + count_of p bs
    go true = omega arith
    go false = omega arith

count-append : (p : Begun → Bool) (bs : List Begun) (c : Begun) → count_of p (bs ++ c ∷ []) ≡ count_of p bs + one_if
    (p c)
count-append p [] c = count-cons p c [] ∙ omega arith
count-append p (b ∷ bs) c =
    let ih : count_of p (bs ++ c ∷ []) ≡ count_of p bs + one_if (p c) = count-append p bs c in
    let left : count_of p (b ∷ (bs ++ c ∷ [])) ≡ one_if (p b) + count_of p (bs ++ c ∷ []) =
    count-cons p b (bs ++ c ∷ []) in
    let right : count_of p (b ∷ bs) ≡ one_if (p b) + count_of p bs = count-cons p b bs in
    left ∙ omega (arith, ih, right)

abbrev without : ℕ → List Begun → List Begun
without n bs = filter (λ (b : Begun). not (b.run == n)) bs

-- where no run has the number nothing is taken away
without-none : (n : ℕ) (bs : List Begun) → AllByRecursion (λ (b : Begun). (b.run == n) ≡ false) bs → without n bs ≡ bs
without-none n [] a = refl
without-none n (b ∷ bs) a = rw (a.0, without-none n bs a.1) refl

-- of the runs of a kind there is one less, where the run that is taken away is of that kind
pub count-without : (p : Begun → Bool) (n : ℕ) (bs : List Begun) (b : Begun) → AreApart run_of bs →
    find (λ (c : Begun). n == c.run) bs ≡ Some b →
    count_of p (without n bs) + one_if (p b) ≡ count_of p bs
count-without p n [] b d e = cc
count-without p n (c ∷ bs) b d e = go (n == c.run) refl e (λ k. count-without p n bs b d.1 k)
  where
    some_begun : (x y : Begun) → ◌≡◌ {A = Option Begun} (Some x) (Some y) → x ≡ y
    some_begun x y e = cc

    go : (x : Bool) → (n == c.run) ≡ x → cond x (Some c) (find (λ (c : Begun). n == c.run) bs) ≡ Some b →
        (find (λ (c : Begun). n == c.run) bs ≡ Some b → count_of p (without n bs) + one_if (p b) ≡ count_of p bs) →
        count_of p (without n (c ∷ bs)) + one_if (p b) ≡ count_of p (c ∷ bs)
    go true k f ih =
        let same : n ≡ c.run = eqb-true n c.run k in
        let found : c ≡ b = some_begun c b f in
        let self : (c.run == n) ≡ true = eq-eqb c.run n (sym same) in
        let others : without n bs ≡ bs =
        without-none n bs (subst (λ w. AllByRecursion (λ (b : Begun). (b.run == w) ≡ false) bs) (sym same) d.0) in
        let here : without n (c ∷ bs) ≡ bs = rw self others in
        let right : count_of p (c ∷ bs) ≡ one_if (p c) + count_of p bs = count-cons p c bs in
        let left : count_of p (without n (c ∷ bs)) ≡ count_of p bs = ap (count_of p) here in
        let one : one_if (p c) ≡ one_if (p b) = ap (λ w. one_if (p w)) found in
        omega (arith, left, right, one)
    go false k f ih =
        let other : (c.run == n) ≡ false = ne_eqb c.run n (λ g. false-true (n == c.run) k (eq-eqb n c.run (sym g))) in
        let here : without n (c ∷ bs) ≡ c ∷ without n bs = rw other refl in
        let rest : count_of p (without n bs) + one_if (p b) ≡ count_of p bs = ih f in
        let left : count_of p (without n (c ∷ bs)) ≡ one_if (p c) + count_of p (without n bs) = ap (count_of p) here
        ∙ count-cons p c (without n bs) in
        let right : count_of p (c ∷ bs) ≡ one_if (p c) + count_of p bs = count-cons p c bs in
        omega (arith, left, right, rest)

found-any : (n : ℕ) (bs : List Begun) → list_any (λ (b : Begun). n == b.run) bs ≡ true →
    is_some (find (λ (c : Begun). n == c.run) bs) ≡ true
found-any n [] e = cc
found-any n (b ∷ bs) e = go (n == b.run) e (λ k. found-any n bs k)
  where
    go : (x : Bool) → (x || list_any (λ (b : Begun). n == b.run) bs) ≡ true →
        (list_any (λ (b : Begun). n == b.run) bs ≡ true → is_some (find (λ (c : Begun). n == c.run) bs) ≡ true) →
        is_some (cond x (Some b) (find (λ (c : Begun). n == c.run) bs)) ≡ true
    go true k ih = refl
    go false k ih = ih k

all-counted : (bs : List Begun) → count_of (λ b. true) bs ≡ length bs
all-counted [] = refl
all-counted (b ∷ bs) = let ih : count_of (λ b. true) bs ≡ length bs = all-counted bs in omega (arith, ih)

-- one more is alive after a start
pub alive-started : (h : History) → Lawful h → (m : ℕ) (start : Start) → start.run.0 ≡ starts h →
    length (alive_runs (start_entry m start ∷ h)) ≡ length (alive_runs h) + 1
alive-started h l m start e =
    let now : alive_runs (start_entry m start ∷ h) ≡ alive_runs h ++ record { run = start.run.0; reg = start.reg.0 } ∷
    [] = alive_runs-start h l m start e in
    let more : count_of (λ b. true) (alive_runs h ++ record { run = start.run.0; reg = start.reg.0 } ∷ []) ≡ count_of
    (λ b. true) (alive_runs h) + 1 = count-append (λ b. true) (alive_runs h) (record {
      run = start.run.0;
      reg =
          start.reg.0;
    }) in
    let all : count_of (λ b. true) (alive_runs h) ≡ length (alive_runs h) = all-counted (alive_runs h) in
    ap length now ∙ sym (all-counted _) ∙ more ∙ ap (λ n. n + 1) all

-- and one less after the exit of one of them
pub alive-ended : (h : History) → Lawful h → (m : ℕ) (over : Ended) → is_alive over.run.0 h ≡ true →
    length (alive_runs h) - 1 ≡ length (alive_runs (exit_entry m over ∷ h))
alive-ended h l m over e = go (find (λ (c : Begun). over.run.0 == c.run) (alive_runs h)) refl
    (found-any over.run.0 (alive_runs h) (alive-listed over.run.0 h ∙ e))
  where
    go : (x : Option Begun) → find (λ (c : Begun). over.run.0 == c.run) (alive_runs h) ≡ x → is_some x ≡ true →
        length (alive_runs h) - 1 ≡ length (alive_runs (exit_entry m over ∷ h))
    go None k f = cc
    go (Some b) k f =
        let less : count_of (λ b. true) (without over.run.0 (alive_runs h)) + 1 ≡ count_of (λ b. true) (alive_runs h) =
        count-without (λ b. true) over.run.0 (alive_runs h) b (alive-apart h l) k in
        let before : count_of (λ b. true) (alive_runs h) ≡ length (alive_runs h) = all-counted (alive_runs h) in
        let after : count_of (λ b. true) (without over.run.0 (alive_runs h)) ≡ length
        (without over.run.0 (alive_runs h)) = all-counted (without over.run.0 (alive_runs h)) in
        let now : length (alive_runs (exit_entry m over ∷ h)) ≡ length (without over.run.0 (alive_runs h)) =
        ap length (alive_runs-exit h m over) in
        omega (arith, less, before, after, now)

length_append_one : (bs : List Begun) (c : Begun) → length (bs ++ c ∷ []) ≡ length bs + 1
length_append_one [] c = refl
length_append_one (b ∷ bs) c = let ih : length (bs ++ c ∷ []) ≡ length bs + 1 = length_append_one bs c in
    omega (arith, ih)

filter-few : (p : Begun → Bool) (bs : List Begun) → length (filter p bs) ≤ length bs
filter-few p [] = omega arith
filter-few p (b ∷ bs) = go (p b) (filter-few p bs)
  where
    go : (x : Bool) → length (filter p bs) ≤ length bs → length (cond x (b ∷ filter p bs) (filter p bs)) ≤ length
        (b ∷ bs)
    go true k = omega (arith, k)
    go false k = omega (arith, k)

begun-few : (h : History) → length (begun_runs h) ≤ length h
begun-few [] = omega arith
begun-few (e ∷ before) = go (begun_here e.event) (begun-few before)
  where
    go : (x : Option Begun) → length (begun_runs before) ≤ length before → length (append_some (begun_runs before) x) ≤
        length (e ∷ before)
    go None k = omega (arith, k)
    go (Some b) k = let more : length (begun_runs before ++ b ∷ []) ≡ length (begun_runs before) + 1 =
        length_append_one (begun_runs before) b in omega (arith, k, more)

-- no more runs are alive than the journal has entries
pub alive-few : (h : History) → length (alive_runs h) ≤ length h
alive-few h =
    let one : length (alive_runs h) ≤ length (begun_runs h) = filter-few (λ b. not (has_exit b.run h)) (begun_runs h) in
    let two : length (begun_runs h) ≤ length h = begun-few h in
    omega (arith, one, two)
