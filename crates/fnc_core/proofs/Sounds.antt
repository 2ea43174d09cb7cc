-- What holds of the core between two calls says that its journal is sound.
use Rattle.std.proofs.Common.{
  ℕ,
  List,
  [],
  ◌∷◌,
  Bool,
  true,
  false,
  ◌≡◌,
  ◌+◌,
  ◌*◌,
  ◌==◌,
  ◌||◌,
  refl,
  ap,
  sym,
  ◌∙◌,
  subst,
  arith,
  length,
  eqb-true,
}
use Rattle.std.specs.Prelude.{IfSome, Option, Some, None}
use Rattle.std.specs.List.{AllByRecursion}
use Rattle.fnc_journal.specs.declared.entry.Run.{Run}
use Rattle.fnc_journal.specs.Found.{starts}
use Rattle.fnc_core.specs.declared.change.Started.{Started}
use Rattle.fnc_journal.specs.Acts.{acts}
use Rattle.fnc_journal.specs.Missing.{has_any}
use Rattle.fnc_ops.proofs.OpenOperations.{each-open}
use Rattle.fnc_journal.specs.History.{History}
use Rattle.fnc_journal.specs.Slots.{Operation}
use Rattle.fnc_journal.specs.Operations.{open_operations, settled, unanswered, is_open}
use Rattle.fnc_journal.specs.Owed.{owed, owed_by, owed_by_all, untried}
use Rattle.fnc_journal.specs.Lawful.{last_moment}
use Rattle.fnc_journal.specs.Startable.{Begun, alive_runs}
use Rattle.fnc_journal.specs.Known.{KnowsFew}
use Rattle.fnc_core.specs.Parted.{Parted}
use Rattle.fnc_core.specs.Between.{Rests, IsNextStart}
use Rattle.fnc_core.specs.Cored.{Cored, Sound, IsFirstStart}

-- the core's value
abbrev pub value : Parted → ℕ → Cored
value p last = record { history = p.history; last = last; limit = p.limit }

-- nothing was due at the moment of the last entry
pub settled-then : (m : ℕ) (p : Parted) → Rests m p → settled p.history (last_moment p.history) ≡ true
settled-then m p r = go (last_moment p.history == m) refl r.between.settled_then
  where
    go : (b : Bool) → (last_moment p.history == m) ≡ b → (b || settled p.history (last_moment p.history)) ≡ true →
        settled p.history (last_moment p.history) ≡ true
    go true e k = let same : last_moment p.history ≡ m =
        eqb-true (last_moment p.history) m e in subst (λ n. settled p.history n ≡ true) (sym same) r.settled_now
    go false e k = k

pub rests-sound : (m : ℕ) (p : Parted) → Rests m p → Sound (value p m)
rests-sound m p r = record {
  lawful = r.between.lawful;
  calm = r.between.calm;
  settled_now = r.settled_now;
  settled_then = settled-then m p r;
  came = r.between.came;
  bounded = r.between.bounded;
  few = r.between.few;
  room = r.between.room;
}

-- what contracts see of the core is sound
pub sound_seen : (v : Cored) (m : ℕ) (p : Parted) → value p m ≡ v → Rests m p → Sound v
sound_seen v m p seen r = subst Sound seen (rests-sound m p r)

-- and knows little
pub knows-few : (v : Cored) (p : Parted) (m : ℕ) → value p m ≡ v → Rests m p → KnowsFew v.history
knows-few v p m seen r = (sound_seen v m p seen r).few

none-owed : (h : History) (os : List Operation) → AllByRecursion (λ (p : Operation). is_open p.req h ≡ true) os →
    owed_by_all h os ≡ 0 → os ≡ []
none-owed h [] a e = refl
none-owed h (o ∷ os) a e = go (unanswered o.req h) refl a.0
  where
    go : (rs : List ℕ) → unanswered o.req h ≡ rs → has_any rs ≡ true → o ∷ os ≡ []
    go [] k f = cc
    go (r ∷ rs) k f =
        let all : owed_by h o + owed_by_all h os ≡ 0 = e in
        let by : owed_by h o ≡ length (unanswered o.req h) + 2 * untried o (acts o.req h) = refl in
        let many : length (unanswered o.req h) ≡ length rs + 1 = ap length k ∙ omega arith in
        absurd (omega (arith, all, by, many))

nothing-long : (bs : List Begun) → length bs ≡ 0 → bs ≡ []
nothing-long [] e = refl
nothing-long (b ∷ bs) e = absurd (omega (arith, e))

-- nothing is owed exactly where nothing is open and no run is alive
pub idle-owes : (h : History) → (owed h ≡ 0) → (open_operations h ≡ []) × (alive_runs h ≡ [])
idle-owes h e =
    let sum : length (alive_runs h) + owed_by_all h (open_operations h) ≡ 0 = e in (
      none-owed h (open_operations h) (each-open h) (omega (arith, sum)),
      nothing-long (alive_runs h)
          (omega (arith, sum)),
    )

pub owes-idle : (h : History) → open_operations h ≡ [] → alive_runs h ≡ [] → owed h ≡ 0
owes-idle h e f = rw (f, e) refl

-- what the parts tell of the start that comes next is what contracts say of it
pub tells-first : (m : ℕ) (p : Parted) (run : Run) (s : Started) → run.0 ≡ starts p.history → IsNextStart m p run s →
    IsFirstStart p.history m s
tells-first m p run s e n = record {
  startable = n.startable;
  is_first = n.is_first;
  run_is = ap (λ (r : Run). r.0) n.run_is ∙ e;
  req = n.req;
  slot = n.slot;
  reg = n.reg;
  kind = n.kind;
  attempt = n.attempt;
  limit = n.limit;
}

pub tells-start : (m : ℕ) (p : Parted) (run : Run) (x : Option Started) → run.0 ≡ starts p.history →
    IfSome x (IsNextStart m p run) → IfSome x (IsFirstStart p.history m)
tells-start m p run None e n = n
tells-start m p run (Some s) e n = tells-first m p run s e n
