-- The job of the start that may be made first, by what the journal says of its device, its request and its slot.
use Rattle.std.proofs.Common.{ℕ, List, [], ◌∷◌, ◌+◌, ◌==◌, ◌&&◌, Bool, true, false, ◌≡◌, refl, ap, sym, ◌∙◌, subst, Option, Some, None, cond, nat_le, eq-eqb}
use Rattle.std.specs.Prelude.{IsTrue, is_some, min, nat_lt, option_map, option_and_then, unwrap_or}
use Rattle.std.specs.List.{AllByRecursion}
use Rattle.std.proofs.lemmas.Bool.{and_parts}
use Rattle.fnc_journal.specs.declared.definition.Definition.{Definition}
use Rattle.fnc_journal.specs.declared.definition.Registration.{Registration}
use Rattle.fnc_journal.specs.declared.entry.Kind.{Kind}
use Rattle.fnc_journal.specs.declared.entry.Slot.{Slot}
use Rattle.fnc_journal.specs.declared.event.Event.{Event}
use Rattle.fnc_journal.specs.declared.event.Request.{Request}
use Rattle.fnc_journal.specs.declared.event.Start.{Start}
use Rattle.fnc_journal.specs.History.{History}
use Rattle.fnc_journal.specs.Found.{Asked, asked, registration, request}
use Rattle.fnc_journal.specs.Slots.{Task, Operation, operation_of, time}
use Rattle.fnc_journal.specs.Same.{same_slot}
use Rattle.fnc_journal.specs.Acts.{Act, acts, begun_at, limit}
use Rattle.fnc_journal.specs.Missing.{or_here}
use Rattle.fnc_journal.specs.Standing.{ready}
use Rattle.fnc_journal.specs.Operations.{led, operation, open_operations, stands_at}
use Rattle.fnc_journal.specs.Registered.{lane}
use Rattle.fnc_journal.specs.Startable.{
  Startable,
  alive,
  first,
  first_among,
  has_room,
  soonest,
  startable,
  startable_at,
  startable_ready,
}
use Rattle.fnc_journal.proofs.ActsLemmas.{acts-start}
use Rattle.fnc_journal.proofs.Closing.{open-found}
use Rattle.fnc_journal.proofs.LawfulSteps.{same_slot-self}
use Rattle.fnc_journal.proofs.RequestTargets.{request-target}
use Rattle.fnc_core.specs.declared.change.Started.{Started}
use Rattle.fnc_core.specs.Between.{entry, limit_from, start_of}
use Rattle.fnc_core.specs.Cored.{IsFirstStart}
use Rattle.fnc_core.proofs.KnownTasks.{IsKnown, defined, known-operation, standing-known}
use Rattle.fnc_jobs.specs.declared.job.Job.{Job}
use Rattle.fnc_jobs.specs.JobOf.{IsJobOf, job_with, job_for, job_in, task_of}

-- a start is of an operation of the journal, at the slot where it stands
module _ (h : History) (m : ℕ) where
  record IsOfJournal (s : Startable) : Type 0 where
    open_is : operation s.operation.req h ≡ Some s.operation
    stands : stands_at h m s.operation ≡ Some s.task

  startable-is : (o : Operation) → operation o.req h ≡ Some o → (s : Startable) → startable h m o ≡ Some s →
      IsOfJournal s
  startable-is o found s e = go (stands_at h m o) refl e
    where
      made : (t : Task) → stands_at h m o ≡ Some t → (at : ℕ) (c : Bool) →
          cond c (Some (record { operation = o; task = t; ready = at })) None ≡ Some s → IsOfJournal s
      made t k at true f =
          let this : Startable = record { operation = o; task = t; ready = at } in
          let same : this ≡ s = cc in
          subst IsOfJournal same (record { open_is = found; stands = k })
      made t k at false f = cc

      readied : (t : Task) → stands_at h m o ≡ Some t → (x : Option ℕ) → startable_ready h m o t x ≡ Some s →
          IsOfJournal s
      readied t k None f = cc
      readied t k (Some at) f =
          made t k at (nat_le at m && has_room (alive (lane t.reg h) h) t.definition.cap) f

      go : (x : Option Task) → stands_at h m o ≡ x → startable_at h m o x ≡ Some s → IsOfJournal s
      go None k f = cc
      go (Some t) k f = readied t k (ready o m (acts o.req h) t) f

  among-is : (os : List Operation) → AllByRecursion (λ (o : Operation). operation o.req h ≡ Some o) os →
      (s : Startable) → first_among h m os ≡ Some s → IsOfJournal s
  among-is [] a s e = cc
  among-is (o ∷ os) a s e = go (startable h m o) refl (first_among h m os) refl e (among-is os a.1)
    where
      pick : (x y : Startable) (c : Bool) → IsOfJournal x → IsOfJournal y → Some (cond c y x) ≡ Some s →
          IsOfJournal s
      pick x y true p q f = let same : y ≡ s = cc in subst IsOfJournal same q
      pick x y false p q f = let same : x ≡ s = cc in subst IsOfJournal same p

      go : (x : Option Startable) → startable h m o ≡ x → (y : Option Startable) → first_among h m os ≡ y →
          soonest x y ≡ Some s →
          ((b : Startable) → first_among h m os ≡ Some b → IsOfJournal b) → IsOfJournal s
      go None k y n f ih = ih s (n ∙ f)
      go (Some x) k None n f ih = startable-is o a.0 s (k ∙ f)
      go (Some x) k (Some y) n f ih = pick x y (nat_lt y.ready x.ready) (startable-is o a.0 x k) (ih y n) f

  first-is : (s : Startable) → first h m ≡ Some s → IsOfJournal s
  first-is s e = among-is (open_operations h) (open-found h) s e

  first-known : (s : Startable) → first h m ≡ Some s → IsKnown h s.task
  first-known s e =
      let is : IsOfJournal s = first-is s e in
      standing-known h s.operation m (acts s.operation.req h)
      (known-operation h s.operation.req s.operation is.open_is) s.task is.stands

-- the limit of a slot once it is started
limit-begun : (t : Task) (over m run : ℕ) (slot : Slot) (xs : List Act) → same_slot t.slot slot ≡ true →
    limit t over (Act.Begun m run slot ∷ xs) ≡ Some (limit_from m over t (limit t over xs))
limit-begun t over m run slot xs same = rw same (go (begun_at t.slot xs))
  where
    go : (x : Option ℕ) → option_map (min over) (option_map (λ n. n + time t) (or_here x (Some m))) ≡
        Some (limit_from m over t (option_map (min over) (option_map (λ n. n + time t) x)))
    go None = refl
    go (Some at) = refl

-- the target of an operation is that of its request
operation-target : (h : History) (r : ℕ) (o : Operation) (q : Request) → operation r h ≡ Some o →
    request r h ≡ Some q → o.target ≡ q.target
operation-target h r o q e f = go (asked r h) refl e (sym (ap (option_map (λ (q : Request). q.target)) f) ∙ request-target h r)
  where
    leads : (b : Bool) (a : Asked) → cond b (Some (operation_of r a)) None ≡ Some o → o.target ≡ a.target
    leads true a p = let same : operation_of r a ≡ o = cc in ap (λ (o : Operation). o.target) (sym same)
    leads false a p = cc

    go : (x : Option Asked) → asked r h ≡ x → option_and_then (led r) x ≡ Some o →
        Some q.target ≡ option_map (λ (a : Asked). a.target) (asked r h) → o.target ≡ q.target
    go None k p t = cc
    go (Some a) k p t =
        let told : Some q.target ≡ Some a.target = t ∙ ap (option_map (λ (a : Asked). a.target)) k in
        let same : q.target ≡ a.target = cc in
        leads (r == a.lead) a p ∙ sym same

tasks : (a b : Slot) (i j : ℕ) (d e : Definition) (k l : Kind) → a ≡ b → i ≡ j → d ≡ e → k ≡ l →
    ◌≡◌ {A = Task} (record { slot = a; reg = i; definition = d; kind = k })
    (record { slot = b; reg = j; definition = e; kind = l })
tasks a b i j d e k l p q r s = rw (p, q, r, s) refl

module _ (h : History) (m : ℕ) (s : Started) (f : IsFirstStart h m s) where
  abbrev made : Startable
  made = f.startable

  opened : operation s.req.0 h ≡ Some made.operation
  opened = ap (λ n. operation n h) f.req ∙ (first-is h m made f.is_first).open_is

  -- its registration and its request stand in the journal
  pub is-registered : IsTrue (is_some (registration s.reg.0 h))
  is-registered = go (registration s.reg.0 h)
      (ap (λ n. defined (registration n h)) f.reg ∙ first-known h m made f.is_first)
    where
      go : (x : Option Registration) → defined x ≡ Some made.task.definition → IsTrue (is_some x)
      go None e = cc
      go (Some g) e = refl

  pub is-requested : IsTrue (is_some (request s.req.0 h))
  is-requested = go (asked s.req.0 h) opened (request s.req.0 h) (request-target h s.req.0)
    where
      go : (x : Option Asked) → option_and_then (led s.req.0) x ≡ Some made.operation → (y : Option Request) →
          option_map (λ (q : Request). q.target) y ≡ option_map (λ (a : Asked). a.target) x → IsTrue (is_some y)
      go None e y t = cc
      go (Some a) e None t = cc
      go (Some a) e (Some q) t = refl

  defined-so : (g : Registration) → registration s.reg.0 h ≡ Some g → g.definition ≡ made.task.definition
  defined-so g e =
      let d = sym (ap defined e) ∙ ap (λ n. defined (registration n h)) f.reg ∙ first-known h m made f.is_first in
      cc

  same-task : (g : Registration) → registration s.reg.0 h ≡ Some g → task_of (start_of s) g ≡ made.task
  same-task g e =
      let d : g.definition ≡ made.task.definition = defined-so g e in
      let slot : s.slot ≡ made.task.slot = f.slot in
      let reg : s.reg.0 ≡ made.task.reg = f.reg in
      let kind : s.kind ≡ made.task.kind = f.kind in
      tasks s.slot made.task.slot s.reg.0 made.task.reg g.definition made.task.definition s.kind made.task.kind slot
      reg d kind

  abbrev after : History
  after = entry m (Event.Start (start_of s)) ∷ h

  same-limit : (g : Registration) → registration s.reg.0 h ≡ Some g →
      limit (task_of (start_of s) g) made.operation.over (acts s.req.0 after) ≡ Some s.limit
  same-limit g e =
      ap (limit (task_of (start_of s) g) made.operation.over)
      (acts-start s.req.0 m (start_of s) h (eq-eqb s.req.0 s.req.0 refl))
      ∙ limit-begun (task_of (start_of s) g) made.operation.over m s.run.0 s.slot (acts s.req.0 h)
      (same_slot-self s.slot)
      ∙ ap (λ t. Some (limit_from m made.operation.over t (limit t made.operation.over (acts s.req.0 h))))
      (same-task g e)
      ∙ ap (λ n. Some (limit_from m made.operation.over made.task (limit made.task made.operation.over (acts n h))))
      f.req
      ∙ ap Some (sym f.limit)

  -- the job says what the journal says of the start
  pub job-is : (g : Registration) (q : Request) → registration s.reg.0 h ≡ Some g → request s.req.0 h ≡ Some q →
      IsJobOf h m s (job_with m (start_of s) g q.target s.limit)
  job-is g q e k =
      ap (option_and_then (λ g. option_and_then (job_for after m (start_of s) g) (operation s.req.0 after))) e
      ∙ ap (option_and_then (job_for after m (start_of s) g)) opened
      ∙ ap (option_map (job_with m (start_of s) g made.operation.target)) (same-limit g e)
      ∙ ap (λ t. Some (job_with m (start_of s) g t s.limit))
      (operation-target h s.req.0 made.operation q opened k)
