-- Where no line is left to be made, no run is alive, and nothing is left to be done.
use Rattle.std.proofs.Common.{ℕ, zero, suc, List, [], ◌∷◌, Bool, true, false, ◌≡◌, ◌≤◌, ◌<◌, ◌+◌, ◌&&◌, not, cond, refl, ap, ◌∙◌, Option, Some, None, is_some, arith, ltb, eq-eqb, inl, inr}
use Rattle.std.proofs.lemmas.Bool.{ltb-false, ltb-true}
use Rattle.std.specs.List.{AllByRecursion}
use Rattle.std.specs.Prelude.{filter, ◌⊎◌}
use Rattle.fnc_journal.specs.declared.event.Event.{Event}
use Rattle.fnc_journal.specs.declared.event.Start.{Start}
use Rattle.fnc_journal.specs.History.{History}
use Rattle.fnc_journal.specs.Lawful.{Lawful}
use Rattle.fnc_journal.specs.Missing.{append_some, or_here}
use Rattle.fnc_journal.specs.Served.{AtRest}
use Rattle.fnc_journal.specs.Startable.{Begun, alive_runs, begun_here, begun_runs, first, is_alive}
use Rattle.fnc_journal.specs.Found.{has_exit, started, started_here, starts}
use Rattle.fnc_journal.proofs.Each.{each-append, each-map}
use Rattle.fnc_answered.specs.Done.{IsDone}
use Rattle.fnc_core.specs.Cored.{Cored, Sound}
use Rattle.fnc_replay.specs.Rests.{Rests}
use Rattle.fnc_workload.proofs.Least.{is_some-or, unstarted-dead}
use Rattle.fnc_workload.specs.Lines.{Course, IsWhole, least_alive, least_from, next_line, standing}
use Rattle.fnc_workload.specs.Steps.{closing, next, opening, step}
use Rattle.fnc_workload.specs.declared.making.Making.{Making}

some-none : {X : Type 0} (x : X) → Some x ≡ None → ⊥
some-none x q = cc

-- where no line comes next, there is no least run that is alive
over-least : (s : Making) (count : ℕ) (alive : Option ℕ) → next s count alive ≡ None → alive ≡ None
over-least s count alive q = go (ltb s.made 72) (ltb s.made (72 + count)) alive q
  where
    go : (a b : Bool) (living : Option ℕ) →
        cond a (Some (record { line = opening s.made; making = record s { made = s.made + 1 } }))
        (cond b (Some (step s alive)) (closing s living)) ≡ None →
        living ≡ None
    go true b living q = absurd (some-none _ q)
    go false true living q = absurd (some-none _ q)
    go false false None q = refl
    go false false (Some run) q = absurd (some-none _ q)

-- then none among those that were sought is alive
least-none : (n from : ℕ) (h : History) → least_from n from h ≡ None → (run : ℕ) → from ≤ run → run < from + n →
    is_alive run h ≡ false
least-none zero from h q run a b = absurd (omega (arith, a, b))
least-none (suc n) from h q run a b =
    go (is_alive from h) refl
    (λ r less. least-none n (from + 1) h r run (omega (arith, less)) (omega (arith, b))) q
  where
    pick : (t : Bool) → ltb from run ≡ t → is_alive from h ≡ false → (from < run → is_alive run h ≡ false) →
        is_alive run h ≡ false
    pick true p dead later = later (ltb-true from run p)
    pick false p dead later =
        let more = ltb-false from run p in
        let same : run ≡ from = omega (arith, a, more) in ap (λ r. is_alive r h) same ∙ dead

    go : (t : Bool) → is_alive from h ≡ t →
        (least_from n (from + 1) h ≡ None → from < run → is_alive run h ≡ false) →
        cond t (Some from) (least_from n (from + 1) h) ≡ None → is_alive run h ≡ false
    go true p later q = absurd (some-none from q)
    go false p later q = pick (ltb from run) refl p (later q)

none-alive : (h : History) → Lawful h → least_alive h ≡ None → (run : ℕ) → is_alive run h ≡ false
none-alive h l q run = pick (ltb run (starts h)) refl
  where
    pick : (t : Bool) → ltb run (starts h) ≡ t → is_alive run h ≡ false
    pick true p =
        let less = ltb-true run (starts h) p in
        least-none (starts h) 0 h q run (omega arith) (omega (arith, less))
    pick false p = unstarted-dead h l run (ltb-false run (starts h) p)

-- each run that was begun was started
begun-started : (h : History) → AllByRecursion (λ b. is_some (started b.run h) ≡ true) (begun_runs h)
begun-started [] = tt
begun-started (e ∷ before) = go e.event (begun-started before)
  where
    go : (event : Event) → AllByRecursion (λ b. is_some (started b.run before) ≡ true) (begun_runs before) →
        AllByRecursion (λ b. is_some (or_here (started b.run before) (started_here b.run event)) ≡ true)
        (append_some (begun_runs before) (begun_here event))
    go (Event.Start start) ih =
        each-append _ (begun_runs before) (record { run = start.run.0; reg = start.reg.0 })
        (each-map _ _ (begun_runs before)
        (λ b k. is_some-or (started b.run before) (started_here b.run (Event.Start start)) k) ih)
        (itself (started start.run.0 before))
      where
        itself : (o : Option Start) → is_some (or_here o (started_here start.run.0 (Event.Start start))) ≡ true
        itself None = rw (eq-eqb start.run.0 start.run.0 refl) refl
        itself (Some x) = rw (eq-eqb start.run.0 start.run.0 refl) refl
    go _ ih = ih

ended-of : (b c : Bool) → (b && not c) ≡ false → b ≡ true → not c ≡ false
ended-of true c q p = q
ended-of false c q p = cc

filter-none : (p : Begun → Bool) (xs : List Begun) → AllByRecursion (λ b. p b ≡ false) xs → filter p xs ≡ []
filter-none p [] a = refl
filter-none p (x ∷ xs) a = rw a.0 (filter-none p xs a.1)

unrunning : (c : Course) (h : History) → Lawful h → next_line c h ≡ None → alive_runs h ≡ []
unrunning c h l q =
    filter-none (λ b. not (has_exit b.run h)) (begun_runs h)
    (each-map _ _ (begun_runs h)
    (λ b k. ended-of (is_some (started b.run h)) (has_exit b.run h)
    (none-alive h l (over-least (standing c h) c.count (least_alive h) q) b.run) k)
    (begun-started h))

-- a workload of which all lines were made has nothing left to do
pub is-done : (c : Course) (v : Cored) → Sound v → Rests v → IsWhole c v → IsDone v.last v.history
is-done c v k r w = record {
  came = k.came;
  settled_now = k.settled_now;
  idle = go r.rest;
  unrunning = unrunning c v.history k.lawful w.1;
}
  where
    go : (v.history ≡ []) ⊎ AtRest v.last v.history → first v.history v.last ≡ None
    go (inl e) = ap (λ (h : History). first h v.last) e
    go (inr t) = t.idle
