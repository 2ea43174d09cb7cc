-- What is said of devices and levels is said by the entries up to the last that sets them up.
use Rattle.std.proofs.Common.{
  ℕ,
  List,
  [],
  ◌∷◌,
  Bool,
  true,
  false,
  ◌≡◌,
  ◌≤◌,
  ◌+◌,
  ◌∙◌,
  cond,
  refl,
  sym,
  ap,
  arith,
  length,
  ltb,
}
use Rattle.std.specs.Prelude.{max}
use Rattle.std.proofs.Math.Nat.{zero-max}
use Rattle.fnc_journal.specs.declared.entry.Entry.{Entry}
use Rattle.fnc_journal.specs.declared.entry.LevelTarget.{LevelTarget}
use Rattle.fnc_journal.specs.declared.event.Event.{Event}
use Rattle.fnc_journal.specs.Missing.{least_of}
use Rattle.fnc_journal.specs.Registered.{current, current_after, least_registration, named_here}
use Rattle.fnc_journal.specs.Levels.{levels, levels_after}
use Rattle.fnc_journal.specs.Plan.{Wanted}
use Rattle.fnc_journal.specs.History.{History}
use Rattle.fnc_journal.specs.Prefix.{prefix}
use Rattle.fnc_journal.proofs.Prefixes.{prefix-all}
use Rattle.fnc_search.specs.Indices.{top, top_here}
use Rattle.fnc_search.specs.Keyed.{keyed_among, keyed_here, with_any_keyed}
use Rattle.fnc_search.specs.Setup.{is_setup, setup_end}

pub setup-most : (h : History) → setup_end h ≤ length h
setup-most [] = omega arith
setup-most (e ∷ before) = go (is_setup e.event) (setup-most before)
  where
    go : (b : Bool) → setup_end before ≤ length before →
        cond b (length before + 1) (setup_end before) ≤ length (e ∷ before)
    go true k = omega arith
    go false k = omega (arith, k)

-- the first entries have no later one
pub setup-prefix : (h : History) (n : ℕ) → setup_end (prefix n h) ≤ setup_end h
setup-prefix [] n = omega arith
setup-prefix (e ∷ before) n = go (ltb (length before) n) (setup-prefix before n)
  where
    more : setup_end before ≤ setup_end (e ∷ before)
    more = pick (is_setup e.event) (setup-most before)
      where
        pick : (b : Bool) → setup_end before ≤ length before →
            setup_end before ≤ cond b (length before + 1) (setup_end before)
        pick true k = omega (arith, k)
        pick false k = omega arith

    go : (b : Bool) → setup_end (prefix n before) ≤ setup_end before →
        setup_end (cond b (e ∷ before) (prefix n before)) ≤ setup_end (e ∷ before)
    go true k = omega arith
    go false k = omega (arith, k, more)

-- what each other entry leaves as it was
abbrev pub IsSetUp : {X : Type 0} → (History → X) → Type 0
IsSetUp f = (e : Entry) (before : History) → is_setup e.event ≡ false → f (e ∷ before) ≡ f before

-- is said by the entries up to the last of these
pub set-up : {X : Type 0} (f : History → X) → IsSetUp f → (h : History) (n : ℕ) → setup_end h ≤ n →
    f (prefix n h) ≡ f h
set-up f s [] n k = refl
set-up f s (e ∷ before) n k = go (is_setup e.event) refl k (set-up f s before n)
  where
    go : (b : Bool) → is_setup e.event ≡ b → cond b (length before + 1) (setup_end before) ≤ n →
        (setup_end before ≤ n → f (prefix n before) ≡ f before) → f (prefix n (e ∷ before)) ≡ f (e ∷ before)
    go true q k ih = ap f (prefix-all (e ∷ before) n (omega (arith, k)))
    go false q k ih = here (ltb (length before) n)
      where
        here : (b : Bool) → f (cond b (e ∷ before) (prefix n before)) ≡ f (e ∷ before)
        here true = refl
        here false = ih k ∙ sym (s e before q)

-- so is the current registration of a name
pub current-set_up : (name : List ℕ) → IsSetUp (λ (h : History). current name h)
current-set_up name e before q = go e.event q
  where
    go : (event : Event) → is_setup event ≡ false → current_after name event (current name before) ≡ current name before
    go (Event.Device device) k = cc
    go (Event.Gone reg) k = cc
    go _ k = refl

pub least-set_up : (name : List ℕ) → IsSetUp (λ (h : History). least_registration name h)
least-set_up name e before q = go e.event q
  where
    go : (event : Event) → is_setup event ≡ false →
        least_of (named_here name event) (least_registration name before) ≡ least_registration name before
    go (Event.Device device) k = cc
    go _ k = refl

-- the levels that stand for a target
pub levels-set_up : (target : LevelTarget) → IsSetUp (λ (h : History). levels target h)
levels-set_up target e before q = go e.event q
  where
    go : (event : Event) → is_setup event ≡ false →
        levels_after target (length before) event (levels target before) ≡ levels target before
    go (Event.Level set) k = cc
    go (Event.LevelGone cleared) k = cc
    go _ k = refl

pub top-set_up : (target : LevelTarget) → IsSetUp (λ (h : History). top target h)
top-set_up target e before q = go e.event q
  where
    go : (event : Event) → is_setup event ≡ false → max (top_here target event) (top target before) ≡ top target before
    go (Event.Level set) k = cc
    go _ k = zero-max (top target before)

-- and the candidates of a request
pub keyed-set_up : (w : Wanted) (all : History) → IsSetUp (λ (h : History). keyed_among w all h)
keyed-set_up w all e before q = go e.event q
  where
    go : (event : Event) → is_setup event ≡ false →
        with_any_keyed (keyed_here w all (length before) event) (keyed_among w all before) ≡ keyed_among w all before
    go (Event.Device device) k = cc
    go _ k = refl
