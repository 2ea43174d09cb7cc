-- What a start and an exit change of the runs that are alive.
use Rattle.std.proofs.Common.{
  ℕ,
  List,
  [],
  ◌∷◌,
  ◌++◌,
  Bool,
  true,
  false,
  ◌≡◌,
  refl,
  ap,
  ◌∙◌,
  arith,
  ◌==◌,
  ◌||◌,
  ◌&&◌,
  not,
  cond,
  is_some,
  sym,
  eqb-true,
  Option,
  Some,
  None,
}
use Rattle.std.specs.Prelude.{filter}
use Rattle.std.specs.List.{list_any}
use Rattle.fnc_journal.specs.declared.event.Event.{Event}
use Rattle.fnc_journal.specs.declared.event.Ended.{Ended}
use Rattle.fnc_journal.specs.declared.event.Start.{Start}
use Rattle.fnc_journal.specs.History.{History}
use Rattle.fnc_journal.specs.Found.{starts, started, started_here, has_exit}
use Rattle.fnc_journal.specs.Missing.{or_here, append_some}
use Rattle.fnc_journal.specs.Startable.{Begun, begun_here, begun_runs, alive_runs, is_alive}
use Rattle.fnc_journal.specs.Lawful.{Lawful}
use Rattle.fnc_journal.proofs.Each.{filter-append, filter-or, any-append_one}
use Rattle.fnc_journal.proofs.Fresh.{unstarted_unended}

-- a start makes its run alive
pub alive_runs-start : (h : History) → Lawful h → (m : ℕ) (start : Start) → start.run.0 ≡ starts h →
    alive_runs (record { moment = m; event = Event.Start start } ∷ h) ≡ alive_runs h ++ record { run = start.run.0; reg = start.reg.0 } ∷ []
alive_runs-start h l m start e =
    filter-append (λ b. not (has_exit b.run h)) (begun_runs h) (record { run = start.run.0; reg = start.reg.0 })
    (ap not (unstarted_unended h l start.run.0 (omega (arith, e))))

-- an exit takes its run away
pub alive_runs-exit : (h : History) (m : ℕ) (ended : Ended) →
    alive_runs (record { moment = m; event = Event.Exit ended } ∷ h) ≡ filter (λ (b : Begun). not (b.run == ended.run.0)) (alive_runs h)
alive_runs-exit h m ended = filter-or (λ b. b.run == ended.run.0) (λ b. has_exit b.run h) (begun_runs h)

-- a run is alive exactly where it is among the runs that are alive
begun-started : (n : ℕ) (h : History) → list_any (λ (b : Begun). n == b.run) (begun_runs h) ≡ is_some (started n h)
begun-started n [] = refl
begun-started n (e ∷ before) = go e.event (begun-started n before)
  where
    some_here : (x y : Option Start) → is_some (or_here x y) ≡ (is_some x || is_some y)
    some_here None None = refl
    some_here None (Some y) = refl
    some_here (Some x) None = refl
    some_here (Some x) (Some y) = refl

    any-append : (xs : List Begun) (b : Begun) → list_any (λ (b : Begun). n == b.run) (xs ++ b ∷ []) ≡ (list_any (λ (b : Begun). n == b.run) xs || (n == b.run))
    any-append xs b = any-append_one (λ (b : Begun). n == b.run) xs b

    or-none : (b : Bool) → b ≡ (b || false)
    or-none true = refl
    or-none false = refl

    or-some : (b c : Bool) (s : Start) → (b || c) ≡ (b || is_some (cond c (Some s) None))
    or-some b true s = refl
    or-some b false s = refl

    go : (event : Event) → list_any (λ (b : Begun). n == b.run) (begun_runs before) ≡ is_some (started n before) →
        list_any (λ (b : Begun). n == b.run) (append_some (begun_runs before) (begun_here event)) ≡ is_some (or_here (started n before) (started_here n event))
    go (Event.Start start) ih =
        any-append (begun_runs before) (record { run = start.run.0; reg = start.reg.0 })
        ∙ ap (λ b. b || (n == start.run.0)) ih
        ∙ or-some (is_some (started n before)) (n == start.run.0) start
        ∙ sym (some_here (started n before) (cond (n == start.run.0) (Some start) None))
    go _ ih = ih ∙ or-none (is_some (started n before)) ∙ sym (some_here (started n before) None)

any-kept : (n : ℕ) (h : History) (xs : List Begun) →
    list_any (λ (b : Begun). n == b.run) (filter (λ (b : Begun). not (has_exit b.run h)) xs) ≡ (list_any (λ (b : Begun). n == b.run) xs && not (has_exit n h))
any-kept n h [] = refl
any-kept n h (x ∷ xs) = go (has_exit x.run h) refl (n == x.run) refl (any-kept n h xs)
  where
    gone : (b : Bool) → (b && false) ≡ false
    gone true = refl
    gone false = refl

    go : (b : Bool) → has_exit x.run h ≡ b → (c : Bool) → (n == x.run) ≡ c →
        list_any (λ (b : Begun). n == b.run) (filter (λ (b : Begun). not (has_exit b.run h)) xs) ≡ (list_any (λ (b : Begun). n == b.run) xs && not (has_exit n h)) →
        list_any (λ (b : Begun). n == b.run) (cond (not b) (x ∷ filter (λ (b : Begun). not (has_exit b.run h)) xs) (filter (λ (b : Begun). not (has_exit b.run h)) xs))
        ≡ ((c || list_any (λ (b : Begun). n == b.run) xs) && not (has_exit n h))
    go true k true e ih =
        let same : has_exit n h ≡ true = ap (λ r. has_exit r h) (eqb-true n x.run e) ∙ k in
        ih ∙ ap (λ b. list_any (λ (b : Begun). n == b.run) xs && not b) same ∙ gone (list_any (λ (b : Begun). n == b.run) xs) ∙ sym (ap (λ b. not b) same)
    go true k false e ih = ih
    go false k true e ih = let same : has_exit n h ≡ false = ap (λ r. has_exit r h) (eqb-true n x.run e) ∙ k in rw (e, same) refl
    go false k false e ih = rw e ih

pub alive-listed : (n : ℕ) (h : History) → list_any (λ (b : Begun). n == b.run) (alive_runs h) ≡ is_alive n h
alive-listed n h = any-kept n h (begun_runs h) ∙ ap (λ b. b && not (has_exit n h)) (begun-started n h)
