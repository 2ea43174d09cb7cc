-- The parts after an input that is no request, no start and no exit.
use Rattle.std.proofs.Common.{
  ℕ,
  ◌∷◌,
  Bool,
  true,
  false,
  ◌≡◌,
  ◌≤◌,
  ◌+◌,
  ◌==◌,
  ◌||◌,
  refl,
  ap,
  ap₂,
  sym,
  ◌∙◌,
  subst,
  Option,
  Some,
  None,
  cond,
  arith,
  length,
  eq-eqb,
  is_some,
}
use Rattle.std.specs.Prelude.{option_map}
use Rattle.fnc_journal.specs.declared.definition.Registration.{Registration}
use Rattle.fnc_journal.specs.declared.event.Event.{Event}
use Rattle.fnc_journal.specs.Bounds.{IsBounded}
use Rattle.fnc_journal.specs.declared.limits.TheConstants.{GREATEST_JOURNAL}
use Rattle.fnc_journal.specs.History.{History}
use Rattle.fnc_journal.specs.Missing.{or_here}
use Rattle.fnc_journal.specs.Found.{is_input, registration}
use Rattle.fnc_journal.specs.Operations.{open_operations, settled}
use Rattle.fnc_journal.specs.Owed.{owed}
use Rattle.fnc_journal.specs.Startable.{alive_runs}
use Rattle.fnc_journal.specs.Lawful.{in_order, exit_of, leads, pending, calm_entry}
use Rattle.fnc_journal.proofs.Frames.{is_waiting, is_running, or_here-some, open_operations-frame, alive_runs-frame}
use Rattle.fnc_records.specs.declared.operation.Standing.{Standing}
use Rattle.fnc_ops.specs.Kept.{Kept}
use Rattle.fnc_ops.specs.OpsRecords.{waiting, AllWait}
use Rattle.fnc_ops.specs.Stands.{StandsFor, AreAt, AreBounded}
use Rattle.fnc_queue.specs.Queued.{Queued}
use Rattle.fnc_ops.proofs.StandsQuiet.{is_untold, stands-quiet}
use Rattle.fnc_core.specs.Between.{Between, Rests, Adds, RoomFor, is_quiet, IsBoundedEvent, MayContinue, entry}
use Rattle.fnc_journal.specs.Known.{LeavesFewNames}
use Rattle.fnc_core.specs.Parted.{Parted}
use Rattle.fnc_core.specs.Wanted.{Waits, HasPlaces, wanted, item_for, held}
use Rattle.fnc_core.proofs.HeldOpen.{held_of, held-stands}
use Rattle.fnc_core.proofs.Registrations.{lane-push, cap-push}
use Rattle.fnc_core.proofs.KnownFew.{knows-push}
use Rattle.fnc_core.proofs.KnownTries.{waiting-known}
use Rattle.fnc_core.proofs.LivingRuns.{alive-entered}
use Rattle.fnc_core.proofs.OwedSteps.{owed-frame}
use Rattle.fnc_core.proofs.Resting.{lawful-entered}

-- definitions stay within their bounds
some_registration : (q r : Registration) → ◌≡◌ {A = Option Registration} (Some q) (Some r) → q ≡ r
some_registration q r e = cc

pub bounded-push : (m : ℕ) (event : Event) (h : History) → AreBounded h → IsBoundedEvent event →
    AreBounded (entry m event ∷ h)
bounded-push m (Event.Device device) h b k n r e = go (registration n h) refl (n == device.reg.0) e
  where
    go : (x : Option Registration) → registration n h ≡ x → (c : Bool) →
        or_here x (cond c (Some device.registration) None) ≡ Some r → IsBounded r.definition
    go None f true g = subst (λ (x : Registration). IsBounded x.definition)
        (some_registration device.registration r g) k
    go None f false g = cc
    go (Some q) f c g = b n r (f ∙ sym (or_here-some q (cond c (Some device.registration) None)) ∙ g)
bounded-push m _ h b k n r e = b n r e

-- an entry that is no start keeps the calm, and one that is no reply asks for no other
calm-kept : (m : ℕ) (event : Event) (h : History) → is_running event ≡ false → calm_entry (entry m event) h ≡ true
calm-kept m (Event.Start start) h q = cc
calm-kept m _ h q = refl

pending-kept : (m : ℕ) (event : Event) (h : History) → is_waiting event ≡ false → pending (entry m event ∷ h) ≡ None
pending-kept m (Event.Reply reply) h q = cc
pending-kept m _ h q = refl

no_exit : (event : Event) (h : History) → is_running event ≡ false → exit_of event h ≡ true
no_exit (Event.Exit ended) h q = cc
no_exit _ h q = refl

no_lead : (m : ℕ) (event : Event) (h : History) → is_waiting event ≡ false → leads event m h ≡ true
no_lead m (Event.Ask ask) h q = cc
no_lead m _ h q = refl

an_input : (event : Event) → is_waiting event ≡ false → is_running event ≡ false → is_input event ≡ true
an_input (Event.Reply reply) q r = cc
an_input (Event.Start start) q r = cc
an_input _ q r = refl

module _ (m : ℕ) (event : Event) (p : Parted) (rests : Rests m p) (quiet : is_waiting event ≡ false)
    (still : is_running event ≡ false) (ordered : in_order event p.history ≡ true) where
  abbrev after : History
  after = entry m event ∷ p.history

  -- what an operation wants it wants afterwards
  pub wanted-entered : (v : Kept) (req : ℕ) → StandsFor v p.history → wanted after req v ≡ wanted p.history req v
  wanted-entered v req s = go (waiting req v.operations) refl
    where
      go : (x : Option Standing) → waiting req v.operations ≡ x →
          option_map (item_for after req) x ≡ option_map (item_for p.history req) x
      go None e = refl
      go (Some t) e =
          let known : is_some (registration t.reg.0 p.history) ≡ true = waiting-known p.history req v s t e in
          ap₂ (λ (l : ℕ) (c : Option ℕ). Some (record
          { req = record { 0 = req }; lane = record { 0 = l }; ready = t.ready; cap = c }))
          (lane-push t.reg.0 m event p.history rests.between.lawful ordered known)
          (cap-push t.reg.0 m event p.history known)

  waits-entered : (v : Kept) → AllWait p.ops v → Waits after v p.queue
  waits-entered v w req = rests.between.waits req ∙ sym (wanted-entered p.ops req rests.between.stands)
      ∙ sym (ap (option_map (item_for after req)) (w req))

  -- the records of the same operations have as many items
  held-entered : (v : Kept) → StandsFor v after →
      held v.operations p.queue.waiting ≡ held p.ops.operations p.queue.waiting
  held-entered v s =
      held-stands after p.queue.waiting v.operations (open_operations after) s.each
      ∙ ap (λ os. held_of os p.queue.waiting) (open_operations-frame m event p.history quiet)
      ∙ sym (held-stands p.history p.queue.waiting p.ops.operations
      (open_operations p.history) rests.between.stands.each)

  places-entered : (v : Kept) → StandsFor v after → HasPlaces after v p.queue
  places-entered v s =
      let owes : owed after ≡ owed p.history = owed-frame m event p.history quiet still in
      let holds : held v.operations p.queue.waiting ≡ held p.ops.operations p.queue.waiting = held-entered v s in
      let runs : length (alive_runs after) ≡ length (alive_runs p.history) =
      ap length (alive_runs-frame m event p.history still) in
      let places : owed p.history ≤ p.queue.spare + held p.ops.operations p.queue.waiting + length
      (alive_runs p.history) = rests.between.has_places in
      let now : owed after ≤ p.queue.spare + held v.operations p.queue.waiting + length (alive_runs after) =
      omega (arith, owes, holds, runs, places) in
      now

  -- the parts with one more entry, and with records that stand for it
  pub between-entered : (q : Parted) → Adds m event p q → q.queue ≡ p.queue → IsBoundedEvent event →
      LeavesFewNames m event p.history → RoomFor p 1 → StandsFor q.ops after → AreAt m q.ops.operations →
      AllWait p.ops q.ops → Between m q
  between-entered q a same bounded names room s at w =
      subst (λ (h : History). Between m (record { history = h; limit = q.limit; ops = q.ops; queue = q.queue }))
      (sym a.history)
      (subst (λ (u : Queued). Between m (record { history = after; limit = q.limit; ops = q.ops; queue = u }))
      (sym same) made)
    where
      made : Between m (record { history = after; limit = q.limit; ops = q.ops; queue = p.queue })
      made = record {
        lawful = lawful-entered m p rests event (an_input event quiet still) ordered (no_exit event p.history still)
            (no_lead m event p.history quiet);
        calm = (calm-kept m event p.history still, rests.between.calm);
        small = let limit : q.limit ≡ p.limit = a.limit in let small : p.limit ≤ GREATEST_JOURNAL =
            rests.between.small in omega (arith, limit, small);
        came = omega arith;
        early = rests.between.early;
        bounded = bounded-push m event p.history rests.between.bounded bounded;
        few = knows-push m event p.history rests.between.few bounded names;
        stands = s;
        at = at;
        waits = waits-entered q.ops w;
        lanes = λ l. rests.between.lanes l ∙ sym (alive-entered m event p.history rests.between.lawful ordered still l);
        has_places = places-entered q.ops s;
        room =
            let owes : owed after ≡ owed p.history = owed-frame m event p.history quiet still in
            let limit : q.limit ≡ p.limit = a.limit in
            let left : length p.history + owed p.history + 1 ≤ p.limit = room in
            let now : length after + owed after ≤ q.limit = omega (arith, owes, limit, left) in
            now;
        continues = subst (MayContinue after m) (sym (pending-kept m event p.history quiet)) tt;
        settled_then = ap (λ b. b || settled after m) (eq-eqb m m refl);
      }

-- an entry that touches no operation changes nothing of what is due
pub settled-quiet : (m n : ℕ) (event : Event) (h : History) → is_quiet event ≡ true →
    settled (entry m event ∷ h) n ≡ settled h n
settled-quiet m n (Event.Ask ask) h q = cc
settled-quiet m n (Event.Exit ended) h q = cc
settled-quiet m n (Event.Confirm confirmation) h q = cc
settled-quiet m n (Event.Start start) h q = cc
settled-quiet m n (Event.Reply reply) h q = cc
settled-quiet m n _ h q = refl

-- it is neither request nor reply, neither start nor exit, and the records say nothing of it
quiet-waiting : (event : Event) → is_quiet event ≡ true → is_waiting event ≡ false
quiet-waiting (Event.Ask ask) q = cc
quiet-waiting (Event.Reply reply) q = cc
quiet-waiting _ q = refl

quiet-running : (event : Event) → is_quiet event ≡ true → is_running event ≡ false
quiet-running (Event.Start start) q = cc
quiet-running (Event.Exit ended) q = cc
quiet-running _ q = refl

quiet-untold : (event : Event) → is_quiet event ≡ true → is_untold event ≡ true
quiet-untold (Event.Ask ask) q = cc
quiet-untold (Event.Exit ended) q = cc
quiet-untold (Event.Confirm confirmation) q = cc
quiet-untold (Event.Start start) q = cc
quiet-untold (Event.Reply reply) q = cc
quiet-untold _ q = refl

-- the parts after it
pub rests-entered : (m : ℕ) (event : Event) (p q : Parted) → Rests m p → is_quiet event ≡ true →
    in_order event p.history ≡ true → IsBoundedEvent event → LeavesFewNames m event p.history → RoomFor p 1 →
    Adds m event p q → q.queue ≡ p.queue → q.ops ≡ p.ops → Rests m q
rests-entered m event p q r quiet ordered bounded names room a same kept = record {
  between =
      between-entered m event p r (quiet-waiting event quiet)
      (quiet-running event quiet) ordered q a same bounded names room
      (subst (λ (v : Kept). StandsFor v (entry m event ∷ p.history)) (sym kept)
      (stands-quiet p.ops m event p.history (quiet-untold event quiet) r.between.stands))
      (subst (λ (v : Kept). AreAt m v.operations) (sym kept) r.between.at)
      (λ n. ap (λ (v : Kept). waiting n v.operations) kept);
  settled_now = ap (λ (h : History). settled h m) a.history ∙ settled-quiet m m event p.history quiet ∙ r.settled_now;
}
