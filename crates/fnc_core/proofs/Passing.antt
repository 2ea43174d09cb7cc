-- Time passes between two events: the records and the queue speak of a later moment, and the journal stays.
use Rattle.std.proofs.Common.{
  ℕ,
  List,
  [],
  ◌∷◌,
  Bool,
  true,
  false,
  ◌≡◌,
  ◌+◌,
  ◌≤◌,
  ◌==◌,
  ◌||◌,
  not,
  refl,
  ap,
  ap₂,
  sym,
  ◌∙◌,
  subst,
  arith,
  Option,
  Some,
  None,
  is_some,
  cond,
  map,
  length,
  eqb-true,
  false-eqb,
  ne_eqb,
}
use Rattle.std.specs.Prelude.{option_map, find}
use Rattle.std.specs.List.{list_any}
use Rattle.fnc_journal.specs.declared.limits.TheConstants.{GREATEST_MOMENT}
use Rattle.fnc_journal.specs.History.{History}
use Rattle.fnc_journal.specs.Slots.{Operation}
use Rattle.fnc_journal.specs.Operations.{open_operations, is_due, first_due, settled}
use Rattle.fnc_journal.specs.Owed.{owed}
use Rattle.fnc_journal.specs.Startable.{alive_runs}
use Rattle.fnc_journal.specs.Lawful.{Pending, pending, last_moment}
use Rattle.fnc_ops.specs.Kept.{Kept}
use Rattle.fnc_records.specs.KeptOperation.{KeptOperation}
use Rattle.fnc_ops.specs.OpsRecords.{OthersWait}
use Rattle.fnc_ops.specs.Stands.{StandsFor, AreAt, AreBy}
use Rattle.fnc_queue.specs.declared.waiting.Waiting.{Waiting}
use Rattle.fnc_queue.specs.Items.{Changes, is_waiting, item_of}
use Rattle.fnc_queue.specs.Lanes.{lane_count}
use Rattle.fnc_queue.specs.Queued.{Queued}
use Rattle.fnc_core.specs.Parted.{Parted}
use Rattle.fnc_core.specs.Wanted.{Waits, HasPlaces, held, item_for, wanted}
use Rattle.fnc_core.specs.Between.{Between, Rests, MayContinue}

-- what speaks at a moment speaks at no later one
pub by-then : (last m : ℕ) → last ≤ m → (rs : List KeptOperation) → AreAt last rs → AreBy m rs
by-then last m le [] a = tt
by-then last m le (r ∷ rs) a = let at : r.moment ≡ last = a.0 in (omega (arith, le, at), by-then last m le rs a.1)

-- records of the same numbers have as many items
pub held-same : (items : List Waiting) (rs ss : List KeptOperation) → map (λ r. r.req) ss ≡ map (λ r. r.req) rs →
    held ss items ≡ held rs items
held-same items [] [] e = refl
held-same items [] (s ∷ ss) e = cc
held-same items (r ∷ rs) [] e = cc
held-same items (r ∷ rs) (s ∷ ss) e =
    let own : s.req ≡ r.req = cc in
    let rest : map (λ r. r.req) ss ≡ map (λ r. r.req) rs = cc in
    ap₂ (λ n k. cond (is_waiting n items) (k + 1) k) own (held-same items rs ss rest)

-- a place for each entry that is owed, with other records of the same operations
pub places-same : (h : History) (v new : Kept) (q : Queued) → HasPlaces h v q →
    map (λ r. r.req) new.operations ≡ map (λ r. r.req) v.operations → HasPlaces h new q
places-same h v new q p e = subst (λ n. owed h ≤ q.spare + n + length (alive_runs h))
    (sym (held-same q.waiting v.operations new.operations e)) p

-- where one operation was taken and has the item that it wants, all have theirs
pub waits-taken : (h : History) (req : ℕ) (v w : Kept) (q new : Queued) → Waits h v q → OthersWait req v w →
    Changes req (wanted h req w) q.waiting new.waiting → Waits h w new
waits-taken h req v w q new waits others changes n = changes n ∙ go (req == n) refl
  where
    go : (b : Bool) → (req == n) ≡ b → cond b (wanted h req w) (item_of n q.waiting) ≡ wanted h n w
    go true e = ap (λ k. wanted h k w) (eqb-true req n e)
    go false e =
        let other : (n == req) ≡ false = ne_eqb n req (λ g. false-eqb req n (sym e) (sym g)) in
        waits n ∙ ap (option_map (item_for h n)) (sym (others n other))

-- where nothing is due no reply must follow
any-found : (p : Operation → Bool) (xs : List Operation) → list_any p xs ≡ is_some (find p xs)
any-found p [] = refl
any-found p (x ∷ xs) = go (p x) (any-found p xs)
  where
    go : (b : Bool) → list_any p xs ≡ is_some (find p xs) → (b || list_any p xs) ≡ is_some (cond b (Some x) (find p xs))
    go true e = refl
    go false e = e

pub unpending : (h : History) (m : ℕ) → settled h m ≡ true → MayContinue h m (pending h) → pending h ≡ None
unpending h m s c = go (pending h) c
  where
    due : (x : Option Operation) → not (is_some x) ≡ true → (n : ℕ) → option_map (λ (o : Operation). o.req) x ≡ Some n →
        ⊥
    due None e n f = cc
    due (Some o) e n f = cc

    go : (x : Option Pending) → MayContinue h m x → x ≡ None
    go None k = refl
    go (Some p) k = absurd (due (first_due h m)
        (ap not (sym (any-found (is_due h m) (open_operations h))) ∙ s) p.operation k.operation)

-- a journal that is settled now was settled at its last entry
pub settled-since : (h : History) (last : ℕ) → settled h last ≡ true →
    ((last_moment h == last) || settled h (last_moment h)) ≡ true → settled h (last_moment h) ≡ true
settled-since h last s e = go (last_moment h == last) refl e
  where
    go : (b : Bool) → (last_moment h == last) ≡ b → (b || settled h (last_moment h)) ≡ true →
        settled h (last_moment h) ≡ true
    go true k f = ap (settled h) (eqb-true (last_moment h) last k) ∙ s
    go false k f = f

or-second : (b c : Bool) → c ≡ true → (b || c) ≡ true
or-second true c e = refl
or-second false c e = e

-- the parts at a later moment
pub between-later : (last m : ℕ) (old : Parted) (ops : Kept) (queue : Queued) → Rests last old → last ≤ m →
    m ≤ GREATEST_MOMENT → StandsFor ops old.history → AreAt m ops.operations →
    Waits old.history ops queue → queue.alive ≡ old.queue.alive → HasPlaces old.history ops queue →
    Between m (record { history = old.history; limit = old.limit; ops = ops; queue = queue })
between-later last m old ops queue r le early stands at waits alive places = record {
  lawful = r.between.lawful;
  calm = r.between.calm;
  small = r.between.small;
  came = let came : last_moment old.history ≤ last = r.between.came in omega (arith, came, le);
  early = early;
  bounded = r.between.bounded;
  few = r.between.few;
  stands = stands;
  at = at;
  waits = waits;
  lanes = λ l. ap (lane_count l) alive ∙ r.between.lanes l;
  has_places = places;
  room = r.between.room;
  continues = subst (MayContinue old.history m) (sym (unpending old.history last r.settled_now r.between.continues)) tt;
  settled_then = or-second (last_moment old.history == m) _
      (settled-since old.history last r.settled_now r.between.settled_then);
}
