-- Where an operation stands and which try it waits for, by its record and by the journal.
use Rattle.std.proofs.Common.{
  ℕ,
  List,
  [],
  ◌∷◌,
  true,
  false,
  ◌≡◌,
  ◌≤◌,
  ◌<◌,
  ◌^◌,
  ◌==◌,
  refl,
  ap,
  sym,
  ◌∙◌,
  subst,
  Option,
  Some,
  None,
  cond,
  is_some,
  arith,
}
use Rattle.std.proofs.lemmas.Bool.{not-true}
use Rattle.std.specs.Prelude.{find, option_and_then, unwrap_or}
use Rattle.std.specs.List.{AllZip, AllByRecursion, list_any}
use Rattle.fnc_journal.specs.declared.limits.TheConstants.{MOST_TRIES}
use Rattle.fnc_journal.specs.History.{History}
use Rattle.fnc_journal.specs.Slots.{Task, Operation, tries}
use Rattle.fnc_journal.specs.Acts.{Act, Last, acts, runs, last_run}
use Rattle.fnc_journal.specs.Standing.{since, ready, ready_after}
use Rattle.fnc_journal.specs.Operations.{operation, open_operations, stands_at, is_due, settled}
use Rattle.fnc_journal.specs.Lawful.{Lawful}
use Rattle.fnc_journal.proofs.Closing.{open-found}
use Rattle.fnc_records.specs.declared.operation.Standing.{Standing}
use Rattle.fnc_records.specs.declared.slot.LastRun.{LastRun}
use Rattle.fnc_records.specs.declared.slot.SlotRecord.{SlotRecord}
use Rattle.fnc_records.specs.KeptOperation.{KeptOperation}
use Rattle.fnc_records.specs.SlotFacts.{IsSlot, BothOr, last_of}
use Rattle.fnc_records.specs.OperationRecords as OperationRecords
use Rattle.fnc_records.specs.OperationRecords.{is_idle, standing_at, standing_slot, waiting_at}
use Rattle.fnc_records.specs.OperationFacts.{IsOperation, IsStandingAt, IsStanding, last_begun}
use Rattle.fnc_ops.specs.OpsRecords as OpsRecords
use Rattle.fnc_ops.specs.OpsRecords.{is_of}
use Rattle.fnc_ops.specs.Stands.{
  Stands,
  StandEach,
  AreAt,
  IsStandingAtMoment,
  IsStandingOf,
  Try,
  IsTry,
  IsTryOf,
  try_of,
  try_at,
  try_ready,
  SpeaksAt,
}
use Rattle.fnc_records.proofs.EarlyMoments.{since-early}
use Rattle.fnc_records.proofs.OperationAnswers.{IsShortSlot, standing_slot_is, standing_at_is, standing_is}
use Rattle.fnc_records.proofs.Searches.{none-each, found-passes}
use Rattle.fnc_records.proofs.SlotAnswers.{Agrees, last-agrees}
use Rattle.fnc_ops.proofs.Tries.{HasTries, not-over, standing-tries}
use Rattle.fnc_records.proofs.Zip.{zip_find}

-- what is known of an open operation and of its record at a moment at which no answer is due
pub record IsAt (h : History) (m : ℕ) (r : KeptOperation) (o : Operation) : Type 0 where
  pub stands : Stands h r o
  pub at : r.moment ≡ m
  pub found : operation o.req h ≡ Some o
  pub calm : is_due h m o ≡ false

-- what is known of an open operation and of its record, which speaks at a moment if it has a number
record IsSpeaking (h : History) (m req : ℕ) (r : KeptOperation) (o : Operation) : Type 0 where
  pub stands : Stands h r o
  pub at : (r.req == req) ≡ true → r.moment ≡ m
  pub found : operation o.req h ≡ Some o

module _ (h : History) (m : ℕ) where
  zip-at : (rs : List KeptOperation) (os : List Operation) → AllZip (Stands h) rs os → AreAt m rs →
      AllByRecursion (λ (o : Operation). operation o.req h ≡ Some o) os → AllByRecursion (λ o. is_due h m o ≡ false)
      os →
      AllZip (IsAt h m) rs os
  zip-at [] [] z a f c = tt
  zip-at [] (o ∷ os) z a f c = absurd z
  zip-at (r ∷ rs) [] z a f c = absurd z
  zip-at (r ∷ rs) (o ∷ os) z a f c = (
    record { stands = z.0; at = a.0; found = f.0; calm = c.0 },
    zip-at rs os z.1 a.1
        f.1 c.1,
  )

  pub each-at : (rs : List KeptOperation) → settled h m ≡ true → AreAt m rs → StandEach rs h →
      AllZip (IsAt h m) rs (open_operations h)
  each-at rs s a z = zip-at rs (open_operations h) z a (open-found h) (none-each (is_due h m) (open_operations h)
      (not-true (list_any (is_due h m) (open_operations h)) s))

  found-at : (req : ℕ) (rs : List KeptOperation) → settled h m ≡ true → AreAt m rs → StandEach rs h →
      BothOr (IsAt h m) (find (is_of req) rs) (find (λ o. o.req == req) (open_operations h))
  found-at req rs s a z = zip_find (IsAt h m) (is_of req) (λ o. o.req == req)
      (λ r o k. ap (λ n. n == req) k.stands.operation.req) rs (open_operations h) (each-at rs s a z)

  pub operation-at : (r : KeptOperation) (o : Operation) → Stands h r o → r.moment ≡ m →
      IsOperation m (acts o.req h) r o
  operation-at r o s at = subst (λ n. IsOperation n (acts o.req h) r o) at s.operation

  -- the slot at which an operation stands has had no more runs than its allowed tries
  pub tries-at : (r : KeptOperation) (o : Operation) → IsAt h m r o → (t : Task) → stands_at h m o ≡ Some t →
      HasTries (acts o.req h) t
  tries-at r o k t e = standing-tries o m (acts o.req h) (not-over h m o k.calm) r (operation-at r o k.stands k.at) t e

  few-runs : (r : KeptOperation) (o : Operation) → IsAt h m r o → (t : Task) → stands_at h m o ≡ Some t →
      runs t.slot (acts o.req h) < 255
  few-runs r o k t e =
      let both = tries-at r o k t e in
      let few : runs t.slot (acts o.req h) ≤ tries t = both.few in
      let most : tries t ≤ MOST_TRIES = both.most in
      omega (arith, few, most)

  early-at : Lawful h → (r : KeptOperation) (o : Operation) → IsAt h m r o → since o m (acts o.req h) < 2 ^ 63
  early-at l r o k = since-early h l m r o k.found (operation-at r o k.stands k.at)

  -- where it stands, whether an answer is due or not
  standing-at : Lawful h → (r : KeptOperation) (o : Operation) → Stands h r o → r.moment ≡ m →
      operation o.req h ≡ Some o → IsStandingAtMoment h m (OperationRecords.standing r.moment r) (Some o)
  standing-at l r o s at found =
      let now : IsOperation m (acts o.req h) r o = operation-at r o s at in
      subst (λ n. IsStanding o m (acts o.req h) (OperationRecords.standing n r) (stands_at h m o)) (sym at)
      (standing_is o m (acts o.req h) r now (since-early h l m r o found now)
      (λ t e. let few : runs t.slot (acts o.req h) ≤ MOST_TRIES = s.few_runs t.slot in omega (arith, few)))

  zip-speaking : (req : ℕ) (rs : List KeptOperation) (os : List Operation) → AllZip (Stands h) rs os →
      SpeaksAt m req rs → AllByRecursion (λ (o : Operation). operation o.req h ≡ Some o) os →
      AllZip (IsSpeaking h m req) rs os
  zip-speaking req [] [] z a f = tt
  zip-speaking req [] (o ∷ os) z a f = absurd z
  zip-speaking req (r ∷ rs) [] z a f = absurd z
  zip-speaking req (r ∷ rs) (o ∷ os) z a f =
      (record { stands = z.0; at = a.0; found = f.0 }, zip-speaking req rs os z.1 a.1 f.1)

  pub standing_found : Lawful h → (req : ℕ) (rs : List KeptOperation) → SpeaksAt m req rs → StandEach rs h →
      IsStandingOf h m req (OpsRecords.standing req rs)
  standing_found l req rs a z =
      go (find (is_of req) rs) (find (λ o. o.req == req) (open_operations h)) refl
      (zip_find (IsSpeaking h m req) (is_of req) (λ o. o.req == req)
      (λ r o k. ap (λ n. n == req) k.stands.operation.req) rs (open_operations h)
      (zip-speaking req rs (open_operations h) z a (open-found h)))
    where
      go : (x : Option KeptOperation) (y : Option Operation) → find (is_of req) rs ≡ x →
          BothOr (IsSpeaking h m req) x y →
          IsStandingAtMoment h m (option_and_then (λ o. OperationRecords.standing o.moment o) x) y
      go None None e b = refl
      go None (Some o) e b = absurd b
      go (Some r) None e b = absurd b
      go (Some r) (Some o) e b = standing-at l r o b.stands (b.at (found-passes (is_of req) rs r e)) b.found

  -- whether no run of its slot is alive
  idle_by : (o : Operation) (xs : List Act) (t : Task) (begun : ℕ) (l : LastRun) (k : Last) → Agrees begun l k →
      is_idle l ≡ is_some (ready_after o m xs t k)
  idle_by o xs t begun LastRun.NoRun Last.NoRun a = refl
  idle_by o xs t begun (LastRun.Alive at) (Last.Alive run) a = refl
  idle_by o xs t begun (LastRun.EndedAt at) (Last.EndedAt n) a = refl
  idle_by o xs t begun LastRun.NoRun (Last.Alive run) a = absurd a
  idle_by o xs t begun LastRun.NoRun (Last.EndedAt n) a = absurd a
  idle_by o xs t begun (LastRun.Alive at) Last.NoRun a = absurd a
  idle_by o xs t begun (LastRun.Alive at) (Last.EndedAt n) a = absurd a
  idle_by o xs t begun (LastRun.EndedAt at) Last.NoRun a = absurd a
  idle_by o xs t begun (LastRun.EndedAt at) (Last.Alive run) a = absurd a

  pub idle-ready : (o : Operation) (xs : List Act) (t : Task) → is_idle (last_of t.slot xs) ≡ is_some (ready o m xs t)
  idle-ready o xs t = idle_by o xs t (last_begun t.slot xs) (last_of t.slot xs) (last_run t.slot xs)
      (last-agrees t.slot xs)

  pub idle_is : (o : Operation) (xs : List Act) (s : SlotRecord) (t : Task) → IsSlot o xs s t →
      is_idle s.last ≡ is_some (ready o m xs t)
  idle_is o xs s t i = ap is_idle i.last_is ∙ idle-ready o xs t

  -- what a record tells of the try that it waits for, at a moment
  abbrev told_at : KeptOperation → ℕ → Option Standing
  told_at r n = option_and_then (waiting_at (OperationRecords.since n r) r.over) (standing_slot n r)

  abbrev told : KeptOperation → SlotRecord → Standing
  told r s = standing_at (OperationRecords.since m r) r.over s

  -- the try that it waits for
  waiting-at : Lawful h → (r : KeptOperation) (o : Operation) → IsAt h m r o → IsTryOf h m (OperationRecords.waiting r)
      (Some o)
  waiting-at l r o k =
      subst (λ n. BothOr (IsTry h o) (told_at r n) (try_of h m o)) (sym k.at)
      (go (standing_slot m r) (stands_at h m o) (few-runs r o k) (standing_slot_is o m (acts o.req h) r now))
    where
      now : IsOperation m (acts o.req h) r o
      now = operation-at r o k.stands k.at

      is-try : (s : SlotRecord) (t : Task) → IsStandingAt o m (acts o.req h) (told r s) t → (at : ℕ) →
          ready o m (acts o.req h) t ≡ Some at → IsTry h o (told r s) (record { task = t; ready = at })
      is-try s t i at e = record {
        slot = i.slot;
        reg = i.reg;
        kind = i.kind;
        attempt = i.attempt;
        ready = i.ready ∙ ap (λ x. unwrap_or x (last_begun t.slot (acts o.req h))) e;
        limit = i.limit;
      }

      pick : (s : SlotRecord) (t : Task) → IsStandingAt o m (acts o.req h) (told r s) t → (x : Option ℕ) →
          ready o m (acts o.req h) t ≡ x →
          BothOr (IsTry h o) (cond (is_some x) (Some (told r s)) None) (try_ready t x)
      pick s t i None e = tt
      pick s t i (Some at) e = is-try s t i at e

      go : (x : Option SlotRecord) (y : Option Task) → ((t : Task) → y ≡ Some t → runs t.slot (acts o.req h) < 255) →
          BothOr (IsShortSlot o (acts o.req h)) x y →
          BothOr (IsTry h o) (option_and_then (waiting_at (OperationRecords.since m r) r.over) x)
          (option_and_then (λ t. try_ready t (ready o m (acts o.req h) t)) y)
      go None None f b = tt
      go None (Some t) f b = absurd b
      go (Some s) None f b = absurd b
      go (Some s) (Some t) f b =
          subst (λ c. BothOr (IsTry h o) (cond c (Some (told r s)) None) (try_ready t (ready o m (acts o.req h) t)))
          (sym (idle_is o (acts o.req h) s t b.is))
          (pick s t (standing_at_is o m (acts o.req h) r now (early-at l r o k) s t b (f t refl))
          (ready o m (acts o.req h) t) refl)

  pub waiting_found : Lawful h → (req : ℕ) (rs : List KeptOperation) → settled h m ≡ true → AreAt m rs →
      StandEach rs h → IsTryOf h m (OpsRecords.waiting req rs) (find (λ o. o.req == req) (open_operations h))
  waiting_found l req rs s a z = go (find (is_of req) rs) (find (λ o. o.req == req) (open_operations h))
      (found-at req rs s a z)
    where
      go : (x : Option KeptOperation) (y : Option Operation) → BothOr (IsAt h m) x y →
          IsTryOf h m (option_and_then OperationRecords.waiting x) y
      go None None b = refl
      go None (Some o) b = absurd b
      go (Some r) None b = absurd b
      go (Some r) (Some o) b = waiting-at l r o b

-- it stands at the slot of the try that it waits for, which is ready
pub record IsReadyFor (h : History) (m : ℕ) (o : Operation) (y : Try) : Type 0 where
  pub stands : stands_at h m o ≡ Some y.task
  pub ready_is : ready o m (acts o.req h) y.task ≡ Some y.ready

some_try : (a b : Try) → ◌≡◌ {A = Option Try} (Some a) (Some b) → a ≡ b
some_try a b e = cc

pub ready-for : (h : History) (m : ℕ) (o : Operation) (y : Try) → try_of h m o ≡ Some y → IsReadyFor h m o y
ready-for h m o y e = go (stands_at h m o) refl e
  where
    pick : (t : Task) → stands_at h m o ≡ Some t → (x : Option ℕ) → ready o m (acts o.req h) t ≡ x →
        try_ready t x ≡ Some y → IsReadyFor h m o y
    pick t k None f g = cc
    pick t k (Some at) f g = subst (IsReadyFor h m o) (some_try (record { task = t; ready = at }) y g)
        (record { stands = k; ready_is = f })

    go : (x : Option Task) → stands_at h m o ≡ x → try_at h m o x ≡ Some y → IsReadyFor h m o y
    go None k f = cc
    go (Some t) k f = pick t k (ready o m (acts o.req h) t) refl f
