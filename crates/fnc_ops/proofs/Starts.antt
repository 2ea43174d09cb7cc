-- A start of the try that an operation waits for makes no answer due, and afterwards the operation waits for none.
use Rattle.std.proofs.Common.{
  ℕ,
  List,
  [],
  ◌∷◌,
  Bool,
  true,
  false,
  ◌≡◌,
  ◌==◌,
  refl,
  ap,
  sym,
  ◌∙◌,
  subst,
  Option,
  Some,
  None,
  cond,
  not,
  is_some,
  map,
  eqb-true,
}
use Rattle.std.specs.Prelude.{find, option_and_then, unwrap_or}
use Rattle.std.specs.List.{AllZip, AllByRecursion}
use Rattle.fnc_journal.specs.declared.event.Start.{Start}
use Rattle.fnc_journal.specs.declared.entry.Slot.{Slot}
use Rattle.fnc_journal.specs.History.{History}
use Rattle.fnc_journal.specs.Slots.{Task, Operation, Rank, queries}
use Rattle.fnc_journal.specs.Acts.{Act, Last, acts, cons_act, last_run}
use Rattle.fnc_journal.specs.Standing as Standing
use Rattle.fnc_journal.specs.Standing.{ranks, ready, ready_after}
use Rattle.fnc_journal.specs.Same.{same_slot}
use Rattle.fnc_journal.specs.Due.{due, is_confirmed}
use Rattle.fnc_journal.specs.Operations.{operation, open_operations, stands_at, is_due, settled}
use Rattle.fnc_journal.proofs.ActsLemmas.{acts-start}
use Rattle.fnc_journal.proofs.Closing.{open-found}
use Rattle.fnc_journal.proofs.Each.{any-same, each-map, found-each}
use Rattle.fnc_journal.proofs.LawfulSteps.{same_slot-self}
use Rattle.fnc_journal.proofs.SlotLemmas.{same-begun}
use Rattle.fnc_journal.proofs.StandingLemmas.{Same, EachSame, EachRank, ranks-same, standing-same, due-same}
use Rattle.fnc_records.specs.declared.slot.SlotRecord.{SlotRecord}
use Rattle.fnc_records.specs.KeptOperation.{KeptOperation}
use Rattle.fnc_records.specs.SlotFacts.{BothOr}
use Rattle.fnc_records.specs.LevelFacts.{IsShort}
use Rattle.fnc_records.specs.OperationRecords as OperationRecords
use Rattle.fnc_records.specs.OperationRecords.{only, start_standing, standing_slot, waiting_at}
use Rattle.fnc_records.specs.OperationFacts.{IsOperation}
use Rattle.fnc_ops.specs.OpsRecords as OpsRecords
use Rattle.fnc_ops.specs.OpsRecords.{is_of}
use Rattle.fnc_ops.specs.Stands.{
  Stands,
  StandEach,
  AreAt,
  Try,
  AwaitsTry,
  EachAwaits,
  try_of,
  try_at,
  try_ready,
  start_entry,
}
use Rattle.fnc_records.proofs.EarlyMoments.{queries-short, ranks-short}
use Rattle.fnc_records.proofs.OperationAnswers.{IsShortSlot, standing_slot_is}
use Rattle.fnc_records.proofs.Searches.{found-passes}
use Rattle.fnc_ops.proofs.StandsTries.{IsAt, each-at, operation-at, idle_is, ready-for}
use Rattle.fnc_ops.proofs.Waits.{at-map, moment-only, moment-started}
use Rattle.fnc_records.proofs.Zip.{zip_each}

some_operation : (a b : Operation) → ◌≡◌ {A = Option Operation} (Some a) (Some b) → a ≡ b
some_operation a b e = cc

-- only one open operation has a number
pub each-awaits : (h : History) (m req : ℕ) (y : Try) → AwaitsTry h m req y → EachAwaits h m req y
each-awaits h m req y e = go (find (λ o. o.req == req) (open_operations h)) refl e
  where
    go : (x : Option Operation) → find (λ o. o.req == req) (open_operations h) ≡ x →
        option_and_then (try_of h m) x ≡ Some y → EachAwaits h m req y
    go None k f = cc
    go (Some p) k f =
        let this : operation p.req h ≡ Some p = found-each (λ o. operation o.req h ≡ Some o) (λ o. o.req == req)
        (open_operations h) p (open-found h) k in
        let number : p.req ≡ req = eqb-true p.req req (found-passes (λ o. o.req == req) (open_operations h) p k) in
        each-map (λ o. operation o.req h ≡ Some o) (λ o. (o.req == req) ≡ true → try_of h m o ≡ Some y)
        (open_operations h)
        (λ o q n.
        let same : p.req ≡ o.req = number ∙ sym (eqb-true o.req req n) in
        subst (λ w. try_of h m w ≡ Some y) (some_operation p o (sym this ∙ ap (λ k. operation k h) same ∙ q)) f)
        (open-found h)

-- where the operation waits for no try, its record tells of none
waits-none : (h : History) (m : ℕ) (r : KeptOperation) (o : Operation) → Stands h r o → r.moment ≡ m →
    try_of h m o ≡ None → OperationRecords.waiting r ≡ None
waits-none h m r o s at e =
    subst (λ n. option_and_then (waiting_at (OperationRecords.since n r) r.over) (standing_slot n r) ≡ None) (sym at)
    (go (standing_slot m r) (stands_at h m o) (standing_slot_is o m (acts o.req h) r (operation-at h m r o s at)) e)
  where
    no-try : (t : Task) (x : Option ℕ) → try_ready t x ≡ None → is_some x ≡ false
    no-try t None f = refl
    no-try t (Some at) f = cc

    go : (x : Option SlotRecord) (y : Option Task) → BothOr (IsShortSlot o (acts o.req h)) x y → try_at h m o y ≡ None →
        option_and_then (waiting_at (OperationRecords.since m r) r.over) x ≡ None
    go None None b f = refl
    go None (Some t) b f = absurd b
    go (Some s) None b f = absurd b
    go (Some s) (Some t) b f = rw (idle_is h m o (acts o.req h) s t b.is ∙ no-try t (ready o m (acts o.req h) t) f) refl

-- each record speaks at the moment at which it spoke
pub at-started : (m req : ℕ) (rs : List KeptOperation) → AreAt m rs → AreAt m (map (only req (start_standing m)) rs)
at-started m req rs a = at-map m (only req (start_standing m)) (moment-only req (start_standing m)
    (λ r. moment-started m (standing_slot m r) r)) rs a

-- a start of any slot of an operation
module _ (o : Operation) (m run : ℕ) (s : Slot) (xs : List Act) (r : KeptOperation) (i : IsOperation m xs r o) where
  abbrev begun : List Act
  begun = Act.Begun m run s ∷ xs

  same-short : (ts : List Task) → AllByRecursion (IsShort o) ts → EachSame o m begun m xs ts
  same-short ts a = each-map (IsShort o) (Same o.over m begun m xs) ts (λ t k. same-begun t o.over m run s xs k.begins)
      a

  queries-begun : EachSame o m begun m xs (queries o)
  queries-begun = same-short (queries o) (queries-short o m xs r i)

  ranks-begun : EachRank o m begun m xs (ranks o m begun)
  ranks-begun =
      subst (EachRank o m begun m xs) (sym (ranks-same o m begun m xs queries-begun))
      (each-map (λ (l : Rank). AllByRecursion (IsShort o) l.firsts × AllByRecursion (IsShort o) l.ons)
      (λ l. EachSame o m begun m xs l.firsts × EachSame o m begun m xs l.ons) (ranks o m xs)
      (λ l a. (same-short l.firsts a.0, same-short l.ons a.1)) (ranks-short o m xs r i))

  -- leaves where the operation stands, and what is due to it
  standing-begun : Standing.standing o m begun ≡ Standing.standing o m xs
  standing-begun = standing-same o m begun m xs queries-begun ranks-begun

  due-begun : (b : Bool) → due o m b begun ≡ due o m b xs
  due-begun b = due-same o m begun m xs b refl queries-begun ranks-begun

-- in the journal
module _ (h : History) (m : ℕ) (start : Start) where
  abbrev after : History
  after = start_entry m start ∷ h

  due-started : (r : KeptOperation) (o : Operation) → IsAt h m r o → is_due after m o ≡ is_due h m o
  due-started r o k = go (o.req == start.req.0)
    where
      go : (b : Bool) →
          is_some (due o m (is_confirmed o h) (cons_act (cond b (Some (Act.Begun m start.run.0 start.slot)) None)
          (acts o.req h))) ≡ is_due h m o
      go true = ap is_some (due-begun o m start.run.0 start.slot (acts o.req h) r (operation-at h m r o k.stands k.at)
          (is_confirmed o h))
      go false = refl

  -- no answer becomes due
  pub settled-started : (rs : List KeptOperation) → StandEach rs h → AreAt m rs → settled h m ≡ true →
      settled after m ≡ true
  settled-started rs z a s =
      ap not (any-same (is_due after m) (is_due h m) (open_operations h)
      (zip_each (IsAt h m) (λ o. is_due after m o ≡ is_due h m o) due-started rs (open_operations h)
      (each-at h m rs s a z))) ∙ s

  none-awaited : (t : Task) → t.slot ≡ start.slot → (r : KeptOperation) (o : Operation) → IsAt h m r o →
      (o.req == start.req.0) ≡ true → stands_at h m o ≡ Some t → try_of after m o ≡ None
  none-awaited t e r o k n f =
      let more : acts o.req after ≡ Act.Begun m start.run.0 start.slot ∷ acts o.req h = acts-start o.req m start h n in
      let stands : stands_at after m o ≡ Some t = ap (Standing.standing o m) more ∙ standing-begun o m start.run.0
      start.slot (acts o.req h) r (operation-at h m r o k.stands k.at) ∙ f in
      let self : same_slot t.slot start.slot ≡ true = ap (same_slot t.slot) (sym e) ∙ same_slot-self t.slot in
      let alive : last_run t.slot (Act.Begun m start.run.0 start.slot ∷ acts o.req h) ≡ Last.Alive start.run.0 =
      ap (λ b. unwrap_or (cond b (Some (Last.Alive start.run.0)) None) (last_run t.slot (acts o.req h))) self in
      let unready : ready o m (acts o.req after) t ≡ None = ap (λ xs. ready o m xs t) more
      ∙ ap (ready_after o m (Act.Begun m start.run.0 start.slot ∷ acts o.req h) t) alive in
      ap (try_at after m o) stands ∙ ap (try_ready t) unready

  each-none : (y : Try) → y.task.slot ≡ start.slot → (rs : List KeptOperation) (os : List Operation) →
      AllZip (IsAt h m) rs os → AllByRecursion (λ o. (o.req == start.req.0) ≡ true → try_of h m o ≡ Some y) os →
      AllByRecursion (λ o. (o.req == start.req.0) ≡ true → try_of after m o ≡ None) os
  each-none y e [] [] z a = tt
  each-none y e [] (o ∷ os) z a = absurd z
  each-none y e (r ∷ rs) [] z a = absurd z
  each-none y e (r ∷ rs) (o ∷ os) z a = (
    λ n. none-awaited y.task e r o z.0 n (ready-for h m o y (a.0 n)).stands,
    each-none y e rs os z.1 a.1,
  )

  waiting-none : (rs : List KeptOperation) (os : List Operation) → AllZip (Stands after) rs os → AreAt m rs →
      AllByRecursion (λ o. (o.req == start.req.0) ≡ true → try_of after m o ≡ None) os →
      OpsRecords.waiting start.req.0 rs ≡ None
  waiting-none [] [] z a n = refl
  waiting-none [] (o ∷ os) z a n = absurd z
  waiting-none (r ∷ rs) [] z a n = absurd z
  waiting-none (r ∷ rs) (o ∷ os) z a n = go (r.req == start.req.0) refl (waiting-none rs os z.1 a.1 n.1)
    where
      go : (b : Bool) → (r.req == start.req.0) ≡ b → OpsRecords.waiting start.req.0 rs ≡ None →
          option_and_then OperationRecords.waiting (cond b (Some r) (find (is_of start.req.0) rs)) ≡ None
      go true e ih = waits-none after m r o z.0 a.0 (n.0 (sym (ap (λ k. k == start.req.0) z.0.operation.req) ∙ e))
      go false e ih = ih

  -- the operation waits for no try
  pub waits-started : (y : Try) → y.task.slot ≡ start.slot → AwaitsTry h m start.req.0 y → settled h m ≡ true →
      (rs : List KeptOperation) → StandEach rs h → AreAt m rs →
      StandEach (map (only start.req.0 (start_standing m)) rs) after → OpsRecords.waiting start.req.0
      (map (only start.req.0 (start_standing m)) rs) ≡ None
  waits-started y e w s rs z a n =
      waiting-none (map (only start.req.0 (start_standing m)) rs) (open_operations h) n (at-started m start.req.0 rs a)
      (each-none y e rs (open_operations h) (each-at h m rs s a z) (each-awaits h m start.req.0 y w))
