-- The records stand for the journal with the exit of a run.
use Rattle.std.proofs.Common.{
  ℕ,
  List,
  [],
  ◌∷◌,
  Bool,
  true,
  false,
  ◌≡◌,
  ◌≤◌,
  ◌<◌,
  ◌+◌,
  ◌^◌,
  ◌==◌,
  refl,
  ap,
  sym,
  ◌∙◌,
  subst,
  Option,
  Some,
  None,
  cond,
  not,
  is_some,
  arith,
  length,
  map,
  ◌&&◌,
  eqb-true,
  eq-eqb,
}
use Rattle.std.proofs.lemmas.Bool.{not-true}
use Rattle.std.specs.Prelude.{option_map}
use Rattle.std.specs.List.{AllZip, list_all}
use Rattle.fnc_journal.specs.declared.event.Ended.{Ended}
use Rattle.fnc_journal.specs.declared.event.Start.{Start}
use Rattle.fnc_journal.specs.declared.event.Event.{Event}
use Rattle.fnc_journal.specs.declared.entry.Slot.{Slot}
use Rattle.fnc_journal.specs.History.{History}
use Rattle.fnc_journal.specs.Missing.{or_here}
use Rattle.fnc_journal.specs.Found.{started, started_here, has_exit}
use Rattle.fnc_journal.specs.Slots.{Operation}
use Rattle.fnc_journal.specs.Acts.{Act, Last, acts, act_here, cons_act, slot_of_run, slot_here, last_run}
use Rattle.fnc_journal.specs.Due.{is_confirmed}
use Rattle.fnc_journal.specs.Lawful.{Lawful}
use Rattle.fnc_journal.specs.Operations.{open_operations, unanswered}
use Rattle.fnc_journal.specs.Startable.{is_alive}
use Rattle.fnc_journal.proofs.ActsLemmas.{acts-exit, acts-other_exit}
use Rattle.fnc_journal.proofs.AliveRuns.{alive_is_last}
use Rattle.fnc_journal.proofs.Frames.{or_here-some}
use Rattle.fnc_journal.proofs.Lawfulness.{and-right}
use Rattle.fnc_journal.proofs.RunsOfOne.{runner-of, run-of_other}
use Rattle.fnc_records.specs.KeptOperation.{KeptOperation}
use Rattle.fnc_records.specs.LevelFacts.{AreFew}
use Rattle.fnc_records.specs.LevelRecords.{is_queried, level_ended}
use Rattle.fnc_records.specs.OperationRecords.{only, operation_ended, ranked_if_queried, ranked_levels}
use Rattle.fnc_records.specs.OperationFacts.{IsOperation, last_begun, left_levels}
use Rattle.fnc_ops.specs.OpsRecords.{ended}
use Rattle.fnc_ops.specs.Stands.{IsKept, Stands, StandEach, AreAt, exit_entry, numbers}
use Rattle.fnc_records.proofs.LeftTries.{left-ranked, left-ended}
use Rattle.fnc_records.proofs.OperationSteps.{operation-ended}
use Rattle.fnc_records.proofs.StandingSlots.{run-query, alive-last, alive-late}
use Rattle.fnc_ops.proofs.StandsSteps.{acts-few}

-- what a run was started for, it is a run of
slot-more : (n : ℕ) (x : Option Act) (xs : List Act) (s : Slot) → slot_of_run n xs ≡ Some s →
    slot_of_run n (cons_act x xs) ≡ Some s
slot-more n None xs s e = e
slot-more n (Some a) xs s e = ap (λ y. or_here y (slot_here n a)) e ∙ or_here-some s (slot_here n a)

or_none : {X : Type 0} (x : Option X) → or_here None x ≡ x
or_none None = refl
or_none (Some x) = refl

some_started : (a b : Start) → ◌≡◌ {A = Option Start} (Some a) (Some b) → a ≡ b
some_started a b e = cc

pub own-run : (h : History) → Lawful h → (n : ℕ) (st : Start) → started n h ≡ Some st →
    slot_of_run n (acts st.req.0 h) ≡ Some st.slot
own-run [] l n st e = cc
own-run (e ∷ before) l n st f = go (started n before) refl f (λ x k. own-run before l.1 n x k)
  where
    none_yet : started n before ≡ None → (o : ℕ) (x : Option Slot) → slot_of_run n (acts o before) ≡ x → x ≡ None
    none_yet k o None g = refl
    none_yet k o (Some s) g =
        let ran : option_map (λ (s : Start). s.req.0) (started n before) ≡ Some o = runner-of before l.1 o n s g in
        let none : option_map (λ (s : Start). s.req.0) (started n before) ≡ None =
        ap (option_map (λ (s : Start). s.req.0)) k in cc

    here : (event : Event) → started n before ≡ None → started_here n event ≡ Some st →
        slot_of_run n (cons_act (act_here st.req.0 e.moment (acts st.req.0 before) event) (acts st.req.0 before)) ≡
        Some st.slot
    here (Event.Start start) k g = this (n == start.run.0) refl g
      where
        this : (b : Bool) → (n == start.run.0) ≡ b → cond b (Some start) None ≡ Some st →
            slot_of_run n (cons_act (act_here st.req.0 e.moment (acts st.req.0 before) (Event.Start start))
            (acts st.req.0 before)) ≡ Some st.slot
        this true t g =
            let same : start ≡ st = some_started _ st g in
            subst (λ (w : Start). slot_of_run n
            (cons_act (act_here w.req.0 e.moment (acts w.req.0 before) (Event.Start start)) (acts w.req.0 before))
            ≡ Some w.slot) same
            (let self : (start.req.0 == start.req.0) ≡ true = eq-eqb start.req.0 start.req.0 refl in
            let none : slot_of_run n (acts start.req.0 before) ≡ None =
            none_yet k start.req.0 (slot_of_run n (acts start.req.0 before)) refl in
            rw (self, t, none) refl)
        this false t g = cc
    here _ k g = cc

    go : (x : Option Start) → started n before ≡ x → or_here x (started_here n e.event) ≡ Some st →
        ((y : Start) → x ≡ Some y → slot_of_run n (acts y.req.0 before) ≡ Some y.slot) →
        slot_of_run n (cons_act (act_here st.req.0 e.moment (acts st.req.0 before) e.event) (acts st.req.0 before)) ≡
        Some st.slot
    go None k g ih = here e.event k (sym (or_none (started_here n e.event)) ∙ g)
    go (Some x) k g ih =
        let same : x ≡ st = some_started x st (sym (or_here-some x (started_here n e.event)) ∙ g) in
        slot-more n (act_here st.req.0 e.moment (acts st.req.0 before) e.event) (acts st.req.0 before) st.slot
        (subst (λ (w : Start). slot_of_run n (acts w.req.0 before) ≡ Some w.slot) same (ih x refl))

-- what becomes known leaves the rest of a record
module _ (m : ℕ) (r : KeptOperation) where
  pub req-ranked : (ranked_if_queried m r).req ≡ r.req
  req-ranked = go (not r.ranked && list_all (is_queried m) r.levels)
    where
      go : (b : Bool) → (cond b (record r { ranked = true; levels = ranked_levels 1 r.levels }) r).req ≡ r.req
      go true = refl
      go false = refl

  pub moment-ranked : (ranked_if_queried m r).moment ≡ r.moment
  moment-ranked = go (not r.ranked && list_all (is_queried m) r.levels)
    where
      go : (b : Bool) → (cond b (record r { ranked = true; levels = ranked_levels 1 r.levels }) r).moment ≡ r.moment
      go true = refl
      go false = refl

  pub members-ranked : (ranked_if_queried m r).members ≡ r.members
  members-ranked = go (not r.ranked && list_all (is_queried m) r.levels)
    where
      go : (b : Bool) → (cond b (record r { ranked = true; levels = ranked_levels 1 r.levels }) r).members ≡ r.members
      go true = refl
      go false = refl

  pub confirmed-ranked : (ranked_if_queried m r).confirmed ≡ r.confirmed
  confirmed-ranked = go (not r.ranked && list_all (is_queried m) r.levels)
    where
      go : (b : Bool) → (cond b (record r { ranked = true; levels = ranked_levels 1 r.levels }) r).confirmed ≡
          r.confirmed
      go true = refl
      go false = refl

  pub untried-ranked : (ranked_if_queried m r).untried ≡ r.untried
  untried-ranked = go (not r.ranked && list_all (is_queried m) r.levels)
    where
      go : (b : Bool) → (cond b (record r { ranked = true; levels = ranked_levels 1 r.levels }) r).untried ≡ r.untried
      go true = refl
      go false = refl

  pub enough-ranked : left_levels r.levels ≤ r.untried → left_levels (ranked_if_queried m r).levels ≤
      (ranked_if_queried m r).untried
  enough-ranked le =
      let left : left_levels (ranked_if_queried m r).levels ≡ left_levels r.levels = left-ranked m r in
      let untried : (ranked_if_queried m r).untried ≡ r.untried = untried-ranked in
      omega (arith, left, untried, le)

-- the over.exit of a run that is alive
module _ (h : History) (l : Lawful h) (m : ℕ) (over : Ended) (few : length h + 1 < 2 ^ 32)
    (alive : is_alive over.run.0 h ≡ true) where
  abbrev after : History
  after = exit_entry m over ∷ h

  ended-one : (st : Start) → started over.run.0 h ≡ Some st → (r : KeptOperation) (o : Operation) → Stands h r o →
      r.moment ≡ m → o.req ≡ st.req.0 → Stands after (operation_ended st.slot over.exit over.listed m r) o
  ended-one st e r o s at same =
      let f : slot_of_run over.run.0 (acts o.req h) ≡ Some st.slot = ap (λ q. slot_of_run over.run.0 (acts q h)) same
      ∙ own-run h l over.run.0 st e in
      let now : IsOperation m (acts o.req h) r o = subst (λ n. IsOperation n (acts o.req h) r o) at s.operation in
      let few_acts : AreFew (acts o.req h) = (let k : length (acts o.req h) ≤ length h = acts-few o.req h in
      omega (arith, k, few)) in
      let last : last_run st.slot (acts o.req h) ≡ Last.Alive over.run.0 = alive_is_last h l o.req over.run.0 st.slot f
      (not-true (has_exit over.run.0 h) (and-right (is_some (started over.run.0 h)) (not (has_exit over.run.0 h))
      alive)) in
      let next : IsOperation m (Act.Ended m st.slot over.exit over.listed ∷ acts o.req h)
      (operation_ended st.slot over.exit over.listed m r) o =
      operation-ended o m st.slot over.exit over.listed (acts o.req h) few_acts (last_begun st.slot (acts o.req h))
      (alive-last (acts o.req h) st.slot over.run.0 last) r (λ u. run-query over.run.0 (acts o.req h) st.slot
      (now.unranked u).queried f) (alive-late o m (acts o.req h) r now st.slot over.run.0 last) now in
      let levels_after : KeptOperation = record r {
        levels = map (level_ended st.slot over.exit over.listed r.over m)
            r.levels;
      } in
      let kept : IsKept (Act.Ended m st.slot over.exit over.listed ∷ acts o.req h) (unanswered o.req h)
      (is_confirmed o h) (operation_ended st.slot over.exit over.listed m r) o =
      record {
        operation = subst (λ n. IsOperation n (Act.Ended m st.slot over.exit over.listed ∷ acts o.req h)
            (operation_ended st.slot over.exit over.listed m r) o) (sym (moment-ranked m levels_after ∙ at)) next;
        waiting_are = ap numbers (members-ranked m levels_after) ∙ s.waiting_are;
        confirmed_is = confirmed-ranked m levels_after ∙ s.confirmed_is;
        untried_is = untried-ranked m levels_after ∙ s.untried_is;
        enough = enough-ranked m levels_after (let le : left_levels r.levels ≤ r.untried = s.enough in
            let same : left_levels levels_after.levels ≡ left_levels r.levels =
            left-ended st.slot over.exit over.listed r.over m r.levels in omega (arith, le, same));
        few_runs = s.few_runs;
      } in
      subst (λ xs. IsKept xs (unanswered o.req h) (is_confirmed o h) (operation_ended st.slot over.exit over.listed m
      r) o) (sym (acts-exit o.req m over st.slot h f)) kept

  ended-other : (st : Start) → started over.run.0 h ≡ Some st → (r : KeptOperation) (o : Operation) → Stands h r o →
      (o.req == st.req.0) ≡ false → Stands after r o
  ended-other st e r o s other =
      subst (λ xs. IsKept xs (unanswered o.req h) (is_confirmed o h) r o)
      (sym (acts-other_exit o.req m over h (run-of_other h l o.req st.req.0 over.run.0 st.slot
      (own-run h l over.run.0 st e) other))) s

  ended-of : (st : Start) → started over.run.0 h ≡ Some st → (r : KeptOperation) (o : Operation) → Stands h r o →
      r.moment ≡ m → Stands after (only st.req.0 (operation_ended st.slot over.exit over.listed m) r) o
  ended-of st e r o s at =
      let same : (r.req == st.req.0) ≡ (o.req == st.req.0) = ap (λ n. n == st.req.0) s.operation.req in
      subst (λ b. Stands after (cond b (operation_ended st.slot over.exit over.listed m r) r) o) (sym same)
      (go (o.req == st.req.0) refl)
    where
      go : (b : Bool) → (o.req == st.req.0) ≡ b →
          Stands after (cond b (operation_ended st.slot over.exit over.listed m r) r) o
      go true k = ended-one st e r o s at (eqb-true o.req st.req.0 k)
      go false k = ended-other st e r o s k

  ended-all : (st : Start) → started over.run.0 h ≡ Some st → (rs : List KeptOperation) (os : List Operation) →
      AllZip (Stands h) rs os → AreAt m rs →
      AllZip (Stands after) (map (only st.req.0 (operation_ended st.slot over.exit over.listed m)) rs) os
  ended-all st e [] [] z a = tt
  ended-all st e [] (o ∷ os) z a = absurd z
  ended-all st e (r ∷ rs) [] z a = absurd z
  ended-all st e (r ∷ rs) (o ∷ os) z a = (ended-of st e r o z.0 a.0, ended-all st e rs os z.1 a.1)

  pub stands-ended : (st : Start) → started over.run.0 h ≡ Some st → (rs : List KeptOperation) → StandEach rs h →
      AreAt m rs → StandEach (ended st over m rs) after
  stands-ended st e rs z a = ended-all st e rs (open_operations h) z a
