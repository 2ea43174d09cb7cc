-- What the entries of a lawful journal say by their numbers alone: of which slot a run is, and what lies before a request.
use Rattle.std.proofs.Common.{
  ℕ,
  [],
  ◌∷◌,
  Bool,
  true,
  false,
  ◌≡◌,
  ◌==◌,
  ◌<◌,
  refl,
  ap,
  sym,
  ◌∙◌,
  Option,
  Some,
  None,
  IsTrue,
  arith,
  cond,
  length,
  ltb,
  le-ltb,
  eqb-true,
}
use Rattle.fnc_journal.specs.declared.event.Event.{Event}
use Rattle.fnc_journal.specs.declared.entry.Slot.{Slot}
use Rattle.fnc_journal.specs.History.{History}
use Rattle.fnc_journal.specs.Missing.{or_here}
use Rattle.fnc_journal.specs.Found.{asks, starts, started, started_here, is_ask_of}
use Rattle.fnc_journal.specs.Links.{ask_at}
use Rattle.fnc_journal.specs.Acts.{Act, acts, act_here, cons_act, slot_of_run}
use Rattle.fnc_journal.specs.Lawful.{Lawful, in_order}
use Rattle.fnc_journal.specs.Prefix.{prefix}
use Rattle.std.specs.Prelude.{option_map}
use Rattle.fnc_journal.proofs.Lawfulness.{and-left, in_order-of}
use Rattle.fnc_journal.proofs.Fresh.{fresh_start}
use Rattle.fnc_journal.proofs.Prefixes.{prefix-all}
use Rattle.fnc_search.specs.Seen.{slot_for}
use Rattle.fnc_search.proofs.Pointed.{first_at-less}

-- the first entries of a lawful journal are lawful
pub lawful-prefix : (h : History) → Lawful h → (n : ℕ) → Lawful (prefix n h)
lawful-prefix [] l n = l
lawful-prefix (e ∷ before) l n = go (ltb (length before) n) (lawful-prefix before l.1 n)
  where
    go : (b : Bool) → Lawful (prefix n before) → Lawful (cond b (e ∷ before) (prefix n before))
    go true k = l
    go false k = k

-- the slot of a run is that of its start
pub run-slot : (h : History) → Lawful h → (o n : ℕ) → slot_of_run n (acts o h) ≡ slot_for o (started n h)
run-slot [] l o n = refl
run-slot (e ∷ before) l o n = go e.event (in_order-of e.moment e.event before l.0.ordered) (run-slot before l.1 o n)
  where
    go : (event : Event) → IsTrue (in_order event before) → slot_of_run n (acts o before) ≡ slot_for o (started n before) →
        slot_of_run n (cons_act (act_here o e.moment (acts o before) event) (acts o before))
        ≡ slot_for o (or_here (started n before) (started_here n event))
    go (Event.Start start) i ih = whose (o == start.req.0) refl (n == start.run.0) refl
      where
        fresh : (n == start.run.0) ≡ true → started n before ≡ None
        fresh k =
            let new : start.run.0 ≡ starts before = eqb-true start.run.0 (starts before) (and-left _ _ (and-left _ _ i)) in
            let same : n ≡ start.run.0 = eqb-true n start.run.0 k in
            fresh_start before l.1 n (omega (arith, same, new))

        whose : (b : Bool) → (o == start.req.0) ≡ b → (c : Bool) → (n == start.run.0) ≡ c →
            slot_of_run n (cons_act (cond b (Some (Act.Begun e.moment start.run.0 start.slot)) None) (acts o before))
            ≡ slot_for o (or_here (started n before) (cond c (Some start) None))
        whose true q true k =
            let none : started n before ≡ None = fresh k in
            let gone : slot_of_run n (acts o before) ≡ None = ih ∙ ap (slot_for o) none in
            rw (k, gone, none, q) refl
        whose true q false k = rw k ih
        whose false q true k =
            let none : started n before ≡ None = fresh k in
            let gone : slot_of_run n (acts o before) ≡ None = ih ∙ ap (slot_for o) none in
            rw (gone, none, q) refl
        whose false q false k = ih
    go (Event.Exit ended_) i ih = ended (slot_of_run ended_.run.0 (acts o before))
      where
        ended : (x : Option Slot) →
            slot_of_run n (cons_act (option_map (λ w. Act.Ended e.moment w ended_.exit ended_.listed) x) (acts o before))
            ≡ slot_for o (started n before)
        ended None = ih
        ended (Some w) = ih
    go _ i ih = ih

-- before the request of a number come as many requests as it says
pub asks-there : (h : History) → Lawful h → (o i : ℕ) → ask_at o h ≡ Some i → asks (prefix i h) ≡ o
asks-there [] l o i p = cc
asks-there (e ∷ before) l o i p =
    go (ask_at o before) refl e.event (in_order-of e.moment e.event before l.0.ordered) p (λ k. asks-there before l.1 o i k)
  where
    some-earlier : (x : ℕ) (b : Option ℕ) → or_here (Some x) b ≡ Some x
    some-earlier x None = refl
    some-earlier x (Some y) = refl

    go : (x : Option ℕ) → ask_at o before ≡ x → (event : Event) → IsTrue (in_order event before) →
        or_here x (cond (is_ask_of o event) (Some (length before)) None) ≡ Some i →
        (ask_at o before ≡ Some i → asks (prefix i before) ≡ o) →
        asks (cond (ltb (length before) i) (record { moment = e.moment; event = event } ∷ before) (prefix i before)) ≡ o
    go (Some j) q event ord p ih =
        let same : Some j ≡ Some i = sym (some-earlier j (cond (is_ask_of o event) (Some (length before)) None)) ∙ p in
        let less : i < length before = first_at-less (is_ask_of o) before i (q ∙ same) in
        rw (le-ltb (length before) i (omega (arith, less))) (ih (q ∙ same))
    go None q (Event.Ask ask) ord p ih = this (o == ask.req.0) refl p
      where
        this : (b : Bool) → (o == ask.req.0) ≡ b → or_here None (cond b (Some (length before)) None) ≡ Some i →
            asks (cond (ltb (length before) i) (record { moment = e.moment; event = Event.Ask ask } ∷ before) (prefix i before)) ≡ o
        this true k p =
            let same : length before ≡ i = cc in
            let n : ask.req.0 ≡ asks before =
            eqb-true ask.req.0 (asks before) (and-left _ _ (and-left _ _ (and-left _ _ (and-left _ _ ord)))) in
            rw (le-ltb (length before) i (omega (arith, same)), prefix-all before i (omega (arith, same)))
            (sym n ∙ sym (eqb-true o ask.req.0 k))
        this false k p = cc
    go None q _ ord p ih = cc
