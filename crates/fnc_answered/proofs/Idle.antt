-- The last run of a slot, where it has no exit, is a run of the journal that is alive.
use Rattle.std.proofs.Common.{
  ℕ,
  List,
  [],
  ◌∷◌,
  Bool,
  true,
  false,
  ◌≡◌,
  refl,
  ap,
  sym,
  ◌∙◌,
  Option,
  Some,
  None,
  IsTrue,
  is_some,
  arith,
  ◌==◌,
  ◌||◌,
  cond,
  eqb-true,
  eq-eqb,
  ne_eqb,
}
use Rattle.std.specs.Prelude.{option_map, unwrap_or}
use Rattle.std.specs.List.{list_any}
use Rattle.fnc_journal.specs.declared.event.Event.{Event}
use Rattle.fnc_journal.specs.declared.event.Start.{Start}
use Rattle.fnc_journal.specs.declared.entry.Slot.{Slot}
use Rattle.fnc_journal.specs.History.{History}
use Rattle.fnc_journal.specs.Missing.{or_here}
use Rattle.fnc_journal.specs.Same.{same_slot}
use Rattle.fnc_journal.specs.Found.{starts, started, has_exit}
use Rattle.fnc_journal.specs.Acts.{Act, acts, act_here, cons_act, slot_of_run, last_run, Last}
use Rattle.fnc_journal.specs.Startable.{Begun, alive_runs, is_alive}
use Rattle.fnc_journal.specs.Lawful.{Lawful, in_order}
use Rattle.fnc_journal.proofs.Lawfulness.{and-left, in_order-of, fresh_run}
use Rattle.fnc_journal.proofs.LawfulSteps.{same_slot-self}
use Rattle.fnc_journal.proofs.AliveRuns.{slot_same}
use Rattle.fnc_journal.proofs.Frames.{at, or_here-some}
use Rattle.fnc_journal.proofs.Fresh.{unstarted_unended}
use Rattle.fnc_journal.proofs.Running.{alive-listed}
use Rattle.fnc_journal.proofs.RunsOfOne.{runner-of}

alive_same : (a b : ℕ) → Last.Alive a ≡ Last.Alive b → a ≡ b
alive_same a b e = cc

some_slot : (a b : Slot) → ◌≡◌ {A = Option Slot} (Some a) (Some b) → a ≡ b
some_slot a b e = cc

-- a run of a slot that has no exit
abbrev IsRunOf : History → ℕ → ℕ → Slot → Type 0
IsRunOf h o run s = (slot_of_run run (acts o h) ≡ Some s) × (has_exit run h ≡ false)

last-alive : (h : History) → Lawful h → (o run : ℕ) (s : Slot) → last_run s (acts o h) ≡ Last.Alive run →
    IsRunOf h o run s
last-alive [] l o run s f = cc
last-alive (e ∷ before) l o run s f =
    go e.event (in_order-of e.moment e.event before l.0.ordered) f (λ k. last-alive before l.1 o run s k)
  where
    go : (event : Event) → IsTrue (in_order event before) →
        last_run s (cons_act (act_here o e.moment (acts o before) event) (acts o before)) ≡ Last.Alive run →
        (last_run s (acts o before) ≡ Last.Alive run → IsRunOf before o run s) →
        IsRunOf (at e.moment event ∷ before) o run s
    go (Event.Start start_) i f ih = whose (o == start_.req.0) f
      where
        new : start_.run.0 ≡ starts before
        new = eqb-true start_.run.0 (starts before) (and-left _ _ (and-left _ _ i))

        test : (b : Bool) → same_slot s start_.slot ≡ b →
            unwrap_or (cond b (Some (Last.Alive start_.run.0)) None) (last_run s (acts o before)) ≡ Last.Alive run →
            (or_here (slot_of_run run (acts o before)) (cond (run == start_.run.0) (Some start_.slot) None) ≡ Some s)
            × (has_exit run before ≡ false)
        test true t f =
            let this : start_.run.0 ≡ run = alive_same start_.run.0 run f in
            let none : slot_of_run run (acts o before) ≡ None = fresh_run before l.1 o run (omega (arith, this, new)) in
            let same : (run == start_.run.0) ≡ true = eq-eqb run start_.run.0 (sym this) in (
              rw (none, same) (ap Some (sym (slot_same s start_.slot t))),
              unstarted_unended before l.1 run (omega (arith, this, new)),
            )
        test false t f =
            let k : IsRunOf before o run s = ih f in
            (ap (λ x. or_here x (cond (run == start_.run.0) (Some start_.slot) None)) k.0 ∙ or_here-some s _, k.1)

        whose : (b : Bool) →
            last_run s (cons_act (cond b (Some (Act.Begun e.moment start_.run.0 start_.slot)) None) (acts o before))
            ≡ Last.Alive run →
            (slot_of_run run
            (cons_act (cond b (Some (Act.Begun e.moment start_.run.0 start_.slot)) None) (acts o before))
            ≡ Some s)
            × (has_exit run before ≡ false)
        whose true f = test (same_slot s start_.slot) refl f
        whose false f = ih f
    go (Event.Exit ended_) i f ih = whose (slot_of_run ended_.run.0 (acts o before)) refl f
      where
        other : (x : Option Slot) → slot_of_run ended_.run.0 (acts o before) ≡ x → (x ≡ Some s → ⊥) →
            IsRunOf before o run s → ((run == ended_.run.0) || has_exit run before) ≡ false
        other x p ne k =
            let apart : (run == ended_.run.0) ≡ false
            = ne_eqb run ended_.run.0 (λ g. ne (sym p ∙ ap (λ n. slot_of_run n (acts o before)) (sym g) ∙ k.0)) in
            rw (apart, k.1) refl

        none_here : ◌≡◌ {A = Option Slot} None (Some s) → ⊥
        none_here g = cc

        clash : (w : Slot) → same_slot s w ≡ false → ◌≡◌ {A = Option Slot} (Some w) (Some s) → ⊥
        clash w t g =
            let self : same_slot s w ≡ true = ap (λ k. same_slot s k) (some_slot w s g) ∙ same_slot-self s in cc

        whose : (x : Option Slot) → slot_of_run ended_.run.0 (acts o before) ≡ x →
            last_run s (cons_act (option_map (λ w. Act.Ended e.moment w ended_.exit ended_.listed) x) (acts o before))
            ≡ Last.Alive run →
            (slot_of_run run
            (cons_act (option_map (λ w. Act.Ended e.moment w ended_.exit ended_.listed) x) (acts o before))
            ≡ Some s)
            × (((run == ended_.run.0) || has_exit run before) ≡ false)
        whose None p f = let k : IsRunOf before o run s = ih f in (k.0, other None p none_here k)
        whose (Some w) p f = test (same_slot s w) refl f
          where
            test : (b : Bool) → same_slot s w ≡ b →
                unwrap_or (cond b (Some (Last.EndedAt e.moment)) None) (last_run s (acts o before)) ≡ Last.Alive run →
                (or_here (slot_of_run run (acts o before)) None ≡ Some s)
                × (((run == ended_.run.0) || has_exit run before) ≡ false)
            test true t f = cc
            test false t f = let k : IsRunOf before o run s = ih f in (k.0, other (Some w) p (clash w t) k)
    go _ i f ih = ih f

run-started : (x : Option Start) (o : ℕ) → option_map (λ (s : Start). s.req.0) x ≡ Some o → is_some x ≡ true
run-started None o e = cc
run-started (Some s) o e = refl

none-listed : (run : ℕ) (xs : List Begun) → xs ≡ [] → list_any (λ (b : Begun). run == b.run) xs ≡ false
none-listed run xs e = rw e refl

-- where no run is alive, none is the last of its slot
pub no-last : (h : History) → Lawful h → alive_runs h ≡ [] → (o run : ℕ) (s : Slot) →
    last_run s (acts o h) ≡ Last.Alive run → ⊥
no-last h l none o run s f =
    let k : IsRunOf h o run s = last-alive h l o run s f in
    let begun : is_some (started run h) ≡ true = run-started (started run h) o (runner-of h l o run s k.0) in
    let lives : is_alive run h ≡ true = rw (begun, k.1) refl in
    let listed : is_alive run h ≡ false = sym (alive-listed run h) ∙ none-listed run (alive_runs h) none in
    cc
