-- The parts after the exit of a run: its lane has one run less, its exit is owed no more, and its operation may wait
-- for another try.
use Rattle.std.proofs.Common.{
  ℕ,
  ◌∷◌,
  Bool,
  true,
  false,
  ◌≡◌,
  ◌≤◌,
  ◌<◌,
  ◌+◌,
  ◌-◌,
  ◌==◌,
  ◌||◌,
  refl,
  ap,
  sym,
  ◌∙◌,
  subst,
  cond,
  arith,
  length,
  eq-eqb,
  eqb-true,
  ne_eqb,
  false-eqb,
  is_some,
  not,
}
use Rattle.std.specs.Prelude.{Some, option_map}
use Rattle.fnc_journal.specs.declared.limits.TheConstants.{GREATEST_JOURNAL}
use Rattle.fnc_journal.specs.declared.event.Ended.{Ended}
use Rattle.fnc_journal.specs.declared.event.Start.{Start}
use Rattle.fnc_journal.specs.declared.event.Event.{Event}
use Rattle.fnc_journal.specs.History.{History}
use Rattle.fnc_journal.specs.Found.{started, has_exit}
use Rattle.fnc_journal.specs.Registered.{lane}
use Rattle.fnc_journal.specs.Operations.{open_operations, settled}
use Rattle.fnc_journal.specs.Owed.{owed}
use Rattle.fnc_journal.specs.Startable.{alive_runs, alive, is_alive}
use Rattle.fnc_journal.specs.Lawful.{Lawful}
use Rattle.fnc_journal.proofs.Lawfulness.{and-left}
use Rattle.fnc_ops.specs.Kept.{Kept}
use Rattle.fnc_ops.specs.OpsRecords.{OthersWait}
use Rattle.fnc_ops.specs.Stands.{StandsFor, AreAt}
use Rattle.fnc_ops.proofs.AliveCounts.{alive-ended}
use Rattle.fnc_queue.specs.Items.{Changes, item_of}
use Rattle.fnc_queue.specs.Lanes.{lane_count, CountsOneMore}
use Rattle.fnc_queue.specs.Queued.{Queued, ended}
use Rattle.fnc_core.specs.Between.{Between, Rests, Adds, entry}
use Rattle.fnc_core.specs.Parted.{Parted}
use Rattle.fnc_core.proofs.KnownFew.{knows-undevice}
use Rattle.fnc_core.specs.Wanted.{Waits, Lanes, HasPlaces, wanted, item_for, held, one_if_held}
use Rattle.fnc_core.proofs.Entered.{bounded-push}
use Rattle.fnc_core.proofs.HeldOpen.{held_of, held-stands}
use Rattle.fnc_core.proofs.LivingRuns.{alive-exit}
use Rattle.fnc_core.proofs.OwedSteps.{owed-exit}
use Rattle.fnc_core.proofs.Places.{records-apart, places-requeued}
use Rattle.fnc_core.proofs.Resting.{lawful-entered}

-- what is one more than two numbers, or the same as both
cancel : (b : Bool) (x a c : ℕ) → x ≡ cond b (a + 1) a → x ≡ cond b (c + 1) c → a ≡ c
cancel true x a c e f = omega (arith, e, f)
cancel false x a c e f = omega (arith, e, f)

module _ (m : ℕ) (p : Parted) (rests : Rests m p) (over : Ended) (lives : is_alive over.run.0 p.history ≡ true)
    (s : Start) (was : started over.run.0 p.history ≡ Some s) where
  abbrev after : History
  after = entry m (Event.Exit over) ∷ p.history

  -- its lane has a run
  pub lane-runs : 0 < lane_count (lane s.reg.0 p.history) p.queue.alive
  lane-runs =
      let own : (lane s.reg.0 p.history == lane s.reg.0 p.history) ≡ true =
      eq-eqb (lane s.reg.0 p.history) (lane s.reg.0 p.history) refl in
      let one : alive (lane s.reg.0 p.history) p.history ≡ alive (lane s.reg.0 p.history) after + 1 =
      alive-exit p.history rests.between.lawful m over lives s was (lane s.reg.0 p.history)
      ∙ ap (λ b. cond b (alive (lane s.reg.0 p.history) after + 1) (alive (lane s.reg.0 p.history) after)) own in
      let counted : lane_count (lane s.reg.0 p.history) p.queue.alive ≡ alive (lane s.reg.0 p.history) p.history =
      rests.between.lanes (lane s.reg.0 p.history) in
      omega (arith, one, counted)

  owes-less : owed after + 1 ≡ owed p.history
  owes-less = owed-exit p.history rests.between.lawful m over lives

  -- its exit has room
  pub room-ended : length p.history < p.limit
  room-ended =
      let owes : owed after + 1 ≡ owed p.history = owes-less in
      let room : length p.history + owed p.history ≤ p.limit = rests.between.room in
      omega (arith, owes, room)

  lawful-ended : Lawful after
  lawful-ended = lawful-entered m p rests (Event.Exit over) refl
      (and-left (is_some (started over.run.0 p.history)) (not (has_exit over.run.0 p.history)) lives) lives refl

  -- the others wait for what they waited for, and its operation has the item that it wants
  waits-ended : (v : Kept) (u q : Queued) → OthersWait s.req.0 p.ops v → u ≡ ended (lane s.reg.0 p.history) p.queue →
      Changes s.req.0 (wanted after s.req.0 v) u.waiting q.waiting → Waits after v q
  waits-ended v u q w e c req = c req ∙ go (s.req.0 == req) refl
    where
      others : (s.req.0 == req) ≡ false → item_of req u.waiting ≡ wanted after req v
      others k =
          let other : (req == s.req.0) ≡ false = ne_eqb req s.req.0 (λ g. false-eqb s.req.0 req (sym k) (sym g)) in
          ap (λ (x : Queued). item_of req x.waiting) e ∙ rests.between.waits req
          ∙ sym (ap (option_map (item_for p.history req)) (w req other))

      go : (b : Bool) → (s.req.0 == req) ≡ b →
          cond b (wanted after s.req.0 v) (item_of req u.waiting) ≡ wanted after req v
      go true k = ap (λ n. wanted after n v) (eqb-true s.req.0 req k)
      go false k = others k

  -- of each lane as many runs are in the queue as are alive
  lanes-ended : (u q : Queued) → CountsOneMore (lane s.reg.0 p.history) u.alive p.queue.alive → q.alive ≡ u.alive →
      Lanes after q
  lanes-ended u q c e l =
      ap (lane_count l) e
      ∙ cancel (lane s.reg.0 p.history == l) (lane_count l p.queue.alive) (lane_count l u.alive) (alive l after) (c l)
      (rests.between.lanes l ∙ alive-exit p.history rests.between.lawful m over lives s was l)

  -- the queue has the places that are owed
  places-ended : (v : Kept) (u : Queued) → StandsFor v after → u ≡ ended (lane s.reg.0 p.history) p.queue →
      HasPlaces after v u
  places-ended v u z e =
      let owes : owed after + 1 ≡ owed p.history = owes-less in
      let runs : length (alive_runs p.history) - 1 ≡ length (alive_runs after) =
      alive-ended p.history rests.between.lawful m over lives in
      let spare : u.spare ≡ p.queue.spare + 1 = ap (λ (x : Queued). x.spare) e in
      let items : u.waiting ≡ p.queue.waiting = ap (λ (x : Queued). x.waiting) e in
      let holds : held v.operations u.waiting ≡ held p.ops.operations p.queue.waiting =
      held-stands after u.waiting v.operations (open_operations after) z.each
      ∙ ap (held_of (open_operations p.history)) items
      ∙ sym (held-stands p.history p.queue.waiting p.ops.operations
      (open_operations p.history) rests.between.stands.each) in
      let places : owed p.history ≤ p.queue.spare + held p.ops.operations p.queue.waiting + length
      (alive_runs p.history) = rests.between.has_places in
      let now : owed after ≤ u.spare + held v.operations u.waiting + length (alive_runs after) =
      omega (arith, owes, runs, spare, holds, places) in
      now

  -- the parts with the exit
  pub between-ended : (u : Queued) (q : Parted) → Adds m (Event.Exit over) p q →
      u ≡ ended (lane s.reg.0 p.history) p.queue → CountsOneMore (lane s.reg.0 p.history) u.alive p.queue.alive →
      Changes s.req.0 (wanted q.history s.req.0 q.ops) u.waiting q.queue.waiting → q.queue.alive ≡ u.alive →
      q.queue.spare + one_if_held s.req.0 q.queue.waiting ≡ u.spare + one_if_held s.req.0 u.waiting →
      StandsFor q.ops after → AreAt m q.ops.operations → OthersWait s.req.0 p.ops q.ops → Between m q
  between-ended u q a e counts changes same spare z at others =
      subst (λ (h : History). Between m (record { history = h; limit = q.limit; ops = q.ops; queue = q.queue }))
      (sym a.history) made
    where
      changed : Changes s.req.0 (wanted after s.req.0 q.ops) u.waiting q.queue.waiting
      changed = subst (λ (h : History). Changes s.req.0 (wanted h s.req.0 q.ops) u.waiting q.queue.waiting) a.history
          changes

      made : Between m (record { history = after; limit = q.limit; ops = q.ops; queue = q.queue })
      made = record {
        lawful = lawful-ended;
        calm = (refl, rests.between.calm);
        small = let limit : q.limit ≡ p.limit = a.limit in let small : p.limit ≤ GREATEST_JOURNAL =
            rests.between.small in omega (arith, limit, small);
        came = omega arith;
        early = rests.between.early;
        bounded = bounded-push m (Event.Exit over) p.history rests.between.bounded tt;
        few = knows-undevice m (Event.Exit over) p.history refl rests.between.few tt;
        stands = z;
        at = at;
        waits = waits-ended q.ops u q.queue others e changed;
        lanes = lanes-ended u q.queue counts same;
        has_places = places-requeued after q.ops u q.queue s.req.0 (records-apart after q.ops lawful-ended z)
            (places-ended q.ops u z e) changed spare;
        room =
            let owes : owed after + 1 ≡ owed p.history = owes-less in
            let limit : q.limit ≡ p.limit = a.limit in
            let left : length p.history + owed p.history ≤ p.limit = rests.between.room in
            let now : length after + owed after ≤ q.limit = omega (arith, owes, limit, left) in
            now;
        continues = tt;
        settled_then = ap (λ b. b || settled after m) (eq-eqb m m refl);
      }
