-- In a lawful journal each run is of one operation.
use Rattle.std.proofs.Common.{
  ℕ,
  [],
  ◌∷◌,
  Bool,
  true,
  false,
  ◌≡◌,
  refl,
  ap,
  sym,
  ◌∙◌,
  Option,
  Some,
  None,
  IsTrue,
  arith,
  ◌==◌,
  cond,
  eqb-true,
  false-eqb,
}
use Rattle.std.specs.Prelude.{option_map}
use Rattle.fnc_journal.specs.declared.event.Event.{Event}
use Rattle.fnc_journal.specs.declared.event.Start.{Start}
use Rattle.fnc_journal.specs.declared.entry.Slot.{Slot}
use Rattle.fnc_journal.specs.History.{History}
use Rattle.fnc_journal.specs.Missing.{or_here}
use Rattle.fnc_journal.specs.Found.{starts, started, started_here}
use Rattle.fnc_journal.specs.Acts.{Act, acts, act_here, cons_act, slot_of_run}
use Rattle.fnc_journal.specs.Lawful.{Lawful, in_order}
use Rattle.fnc_journal.proofs.Lawfulness.{and-left, in_order-of}
use Rattle.fnc_journal.proofs.Fresh.{fresh_start}

-- the operation for which a run was started
abbrev pub runner : ℕ → History → Option ℕ
runner n h = option_map (λ (s : Start). s.req.0) (started n h)

-- what was started stays started
runner-more : (x y : Option Start) (o : ℕ) → option_map (λ (s : Start). s.req.0) x ≡ Some o → option_map (λ (s : Start). s.req.0) (or_here x y) ≡ Some o
runner-more None y o e = cc
runner-more (Some s) None o e = e
runner-more (Some s) (Some t) o e = e

runner-new : (x y : Option Start) (o : ℕ) → x ≡ None → option_map (λ (s : Start). s.req.0) y ≡ Some o → option_map (λ (s : Start). s.req.0) (or_here x y) ≡ Some o
runner-new None None o e f = f
runner-new None (Some s) o e f = f
runner-new (Some s) y o e f = cc

-- a run that an operation's acts name was started for it
pub runner-of : (h : History) → Lawful h → (o n : ℕ) (s : Slot) → slot_of_run n (acts o h) ≡ Some s → runner n h ≡ Some o
runner-of [] l o n s e = cc
runner-of (e ∷ before) l o n s f = go e.event (in_order-of e.moment e.event before l.0.ordered) f (λ w k. runner-of before l.1 o n w k)
  where
    go : (event : Event) → IsTrue (in_order event before) → slot_of_run n (cons_act (act_here o e.moment (acts o before) event) (acts o before)) ≡ Some s →
        ((w : Slot) → slot_of_run n (acts o before) ≡ Some w → runner n before ≡ Some o) →
        option_map (λ (s : Start). s.req.0) (or_here (started n before) (started_here n event)) ≡ Some o
    go (Event.Start start) i f ih = whose (o == start.req.0) refl f
      where
        new : start.run.0 ≡ starts before
        new = eqb-true start.run.0 (starts before) (and-left _ _ (and-left _ _ i))

        earlier : (x : Option Slot) → slot_of_run n (acts o before) ≡ x → or_here x (cond (n == start.run.0) (Some start.slot) None) ≡ Some s → (o == start.req.0) ≡ true →
            option_map (λ (s : Start). s.req.0) (or_here (started n before) (cond (n == start.run.0) (Some start) None)) ≡ Some o
        earlier (Some w) k g q = runner-more (started n before) (cond (n == start.run.0) (Some start) None) o (ih w k)
        earlier None k g q = this (n == start.run.0) refl g
          where
            this : (b : Bool) → (n == start.run.0) ≡ b → or_here None (cond b (Some start.slot) None) ≡ Some s →
                option_map (λ (s : Start). s.req.0) (or_here (started n before) (cond b (Some start) None)) ≡ Some o
            this true t g =
                let same : n ≡ start.run.0 = eqb-true n start.run.0 t in
                runner-new (started n before) (Some start) o (fresh_start before l.1 n (omega (arith, same, new))) (ap Some (sym (eqb-true o start.req.0 q)))
            this false t g = cc

        whose : (b : Bool) → (o == start.req.0) ≡ b → slot_of_run n (cons_act (cond b (Some (Act.Begun e.moment start.run.0 start.slot)) None) (acts o before)) ≡ Some s →
            option_map (λ (s : Start). s.req.0) (or_here (started n before) (cond (n == start.run.0) (Some start) None)) ≡ Some o
        whose true q g = earlier (slot_of_run n (acts o before)) refl g q
        whose false q g = runner-more (started n before) (cond (n == start.run.0) (Some start) None) o (ih s g)
    go (Event.Exit ended_) i f ih = runner-more (started n before) None o (ended (slot_of_run ended_.run.0 (acts o before)) f)
      where
        ended : (x : Option Slot) → slot_of_run n (cons_act (option_map (λ w. Act.Ended e.moment w ended_.exit ended_.listed) x) (acts o before)) ≡ Some s → runner n before ≡ Some o
        ended None g = ih s g
        ended (Some w) g = ih s g
    go _ i f ih = runner-more (started n before) None o (ih s f)

some_same : {a b : ℕ} → ◌≡◌ {A = Option ℕ} (Some a) (Some b) → a ≡ b
some_same e = cc

-- no other operation's acts name it
pub run-of_other : (h : History) → Lawful h → (o p n : ℕ) (s : Slot) → slot_of_run n (acts p h) ≡ Some s → (o == p) ≡ false → slot_of_run n (acts o h) ≡ None
run-of_other h l o p n s f e = go (slot_of_run n (acts o h)) refl
  where
    go : (x : Option Slot) → slot_of_run n (acts o h) ≡ x → x ≡ None
    go None k = refl
    go (Some w) k = absurd (false-eqb o p (sym e) (some_same (sym (runner-of h l o n w k) ∙ runner-of h l p n s f)))
