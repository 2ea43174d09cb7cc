-- The slots of levels whose numbers rise are distinct, and so are those of candidates as levels.
use Rattle.std.proofs.Common.{
  ℕ,
  List,
  [],
  ◌∷◌,
  ◌++◌,
  Bool,
  true,
  false,
  ◌≡◌,
  ◌≤◌,
  ◌+◌,
  ◌==◌,
  ◌&&◌,
  refl,
  sym,
  subst,
  Option,
  Some,
  None,
  cond,
  arith,
  ne_eqb,
}
use Rattle.std.specs.List.{AllByRecursion, cons_option}
use Rattle.fnc_journal.specs.declared.entry.Kind.{Kind}
use Rattle.fnc_journal.specs.declared.entry.Phase.{Phase}
use Rattle.fnc_journal.specs.declared.entry.Slot.{Slot}
use Rattle.fnc_journal.specs.Same.{same_slot, same_phase, phase_place}
use Rattle.fnc_journal.specs.Device.{Device}
use Rattle.fnc_journal.specs.Slots.{
  Task,
  QueriedDevice,
  Rank,
  task,
  act_task,
  acts_from,
  ons_from,
  fit_devices,
  is_split,
  rank,
  ranked_from,
  slots_of,
}
use Rattle.fnc_journal.proofs.Each.{each-map}
use Rattle.fnc_stands.specs.Distinct.{AreDistinct}
use Rattle.fnc_stands.proofs.Lists.{each-joined}

-- what makes two slots different
pub other-place : (s w : Slot) → (s.place ≡ w.place → ⊥) → same_slot s w ≡ false
other-place s w n = let e : (s.place == w.place) ≡ false = ne_eqb s.place w.place n in
    rw e (go (same_phase s.phase w.phase && (s.level == w.level)))
  where
    go : (b : Bool) → (b && false) ≡ false
    go true = refl
    go false = refl

other-level : (s w : Slot) → (s.level ≡ w.level → ⊥) → same_slot s w ≡ false
other-level s w n = let e : (s.level == w.level) ≡ false = ne_eqb s.level w.level n in
    rw e (go (same_phase s.phase w.phase) (s.place == w.place))
  where
    go : (b c : Bool) → (b && false && c) ≡ false
    go true c = refl
    go false c = refl

other-phase : (s w : Slot) → (phase_place s.phase == phase_place w.phase) ≡ false → same_slot s w ≡ false
other-phase s w e = rw e refl

-- two lists of distinct slots, of which none is in both
pub distinct-joined : (xs ys : List Task) → AreDistinct xs → AreDistinct ys →
    AllByRecursion (λ t. AllByRecursion (λ u. same_slot u.slot t.slot ≡ false) ys) xs → AreDistinct (xs ++ ys)
distinct-joined [] ys d e a = e
distinct-joined (x ∷ xs) ys d e a = (
  each-joined (λ u. same_slot u.slot x.slot ≡ false) xs ys d.0 a.0,
  distinct-joined
      xs ys d.1 e a.1,
)

-- a slot of one phase and level, at a place or after it
record IsFrom (phase level place : ℕ) (t : Task) : Type 0 where
  phase_is : phase_place t.slot.phase ≡ phase
  level_is : t.slot.level ≡ level
  from : place ≤ t.slot.place

from-next : (phase level place : ℕ) (t : Task) → IsFrom phase level (place + 1) t → IsFrom phase level place t
from-next phase level place t h = let later : place + 1 ≤ t.slot.place = h.from in
    record { phase_is = h.phase_is; level_is = h.level_is; from = omega (arith, later) }

from-other : (phase level : ℕ) (t u : Task) → IsFrom phase level (t.slot.place + 1) u → same_slot u.slot t.slot ≡ false
from-other phase level t u h = let later : t.slot.place + 1 ≤ u.slot.place = h.from in
    other-place u.slot t.slot (λ e. omega (arith, later, e))

-- the phase of the Act or Off slots
abbrev first_phase : Bool → ℕ
first_phase true = 2
first_phase false = 1

acts-from : (split : Bool) (kind : Kind) (level place : ℕ) (ds : List Device) →
    AllByRecursion (IsFrom (first_phase split) level place) (acts_from split kind level place ds)
acts-from split kind level place [] = tt
acts-from split kind level place (d ∷ ds) = (
  here split,
  each-map (IsFrom (first_phase split) level (place + 1)) (IsFrom (first_phase split) level place)
      (acts_from split kind level (place + 1) ds) (from-next (first_phase split) level place)
      (acts-from split kind level (place + 1) ds),
)
  where
    here : (b : Bool) → IsFrom (first_phase b) level place (act_task b kind level place d)
    here true = record { phase_is = refl; level_is = refl; from = omega arith }
    here false = record { phase_is = refl; level_is = refl; from = omega arith }

acts-distinct : (split : Bool) (kind : Kind) (level place : ℕ) (ds : List Device) →
    AreDistinct (acts_from split kind level place ds)
acts-distinct split kind level place [] = tt
acts-distinct split kind level place (d ∷ ds) = (
  each-map (IsFrom (first_phase split) level (place + 1))
      (λ u. same_slot u.slot (act_task split kind level place d).slot ≡ false)
      (acts_from split kind level (place + 1) ds)
      (λ u h. from-other (first_phase split) level (act_task split kind level place d) u
      (subst (λ n. IsFrom (first_phase split) level (n + 1) u) (sym (at split)) h))
      (acts-from split kind level (place + 1) ds),
  acts-distinct split kind level (place + 1) ds,
)
  where
    at : (b : Bool) → (act_task b kind level place d).slot.place ≡ place
    at true = refl
    at false = refl

ons-from : (level place : ℕ) (ds : List Device) → AllByRecursion (IsFrom 3 level place) (ons_from level place ds)
ons-from level place [] = tt
ons-from level place (d ∷ ds) =
    go d.definition.actions.on (each-map (IsFrom 3 level (place + 1)) (IsFrom 3 level place)
    (ons_from level (place + 1) ds) (from-next 3 level place) (ons-from level (place + 1) ds))
  where
    go : (b : Bool) → AllByRecursion (IsFrom 3 level place) (ons_from level (place + 1) ds) →
        AllByRecursion (IsFrom 3 level place) (cons_option (cond b (Some (task Phase.On Kind.On level place d)) None)
        (ons_from level (place + 1) ds))
    go true a = (record { phase_is = refl; level_is = refl; from = omega arith }, a)
    go false a = a

ons-distinct : (level place : ℕ) (ds : List Device) → AreDistinct (ons_from level place ds)
ons-distinct level place [] = tt
ons-distinct level place (d ∷ ds) = go d.definition.actions.on (ons-distinct level (place + 1) ds)
  where
    go : (b : Bool) → AreDistinct (ons_from level (place + 1) ds) →
        AreDistinct (cons_option (cond b (Some (task Phase.On Kind.On level place d)) None)
        (ons_from level (place + 1) ds))
    go true e = (
      each-map (IsFrom 3 level (place + 1)) (λ u. same_slot u.slot (task Phase.On Kind.On level place d).slot ≡ false)
          (ons_from level (place + 1) ds)
          (λ u h. from-other 3 level (task Phase.On Kind.On level place d) u h) (ons-from level (place + 1) ds),
      e,
    )
    go false e = e

-- the slots of a level are distinct, and have its number
pub record IsOfLevel (index : ℕ) (firsts ons : List Task) : Type 0 where
  pub distinct : AreDistinct (firsts ++ ons)
  pub numbered : AllByRecursion (λ t. t.slot.level ≡ index) (firsts ++ ons)

-- the On slots of a split reboot
abbrev ons_of : ℕ → List Device → Bool → List Task
ons_of index ds split = cond split (ons_from index 0 ds) []

slots-of : (kind : Kind) (index : ℕ) (split : Bool) (ds : List Device) →
    IsOfLevel index (acts_from split kind index 0 ds) (ons_of index ds split)
slots-of kind index split ds = record {
  distinct = distinct-joined (acts_from split kind index 0 ds) (ons_of index ds split)
      (acts-distinct split kind index 0 ds) (ons-are split)
      (each-map (IsFrom (first_phase split) index 0) (λ t. AllByRecursion (λ u. same_slot u.slot t.slot ≡ false)
      (ons_of index ds split)) (acts_from split kind index 0 ds) (apart split) (acts-from split kind index 0 ds));
  numbered = each-joined (λ t. t.slot.level ≡ index) (acts_from split kind index 0 ds) (ons_of index ds split)
      (each-map (IsFrom (first_phase split) index 0) (λ t. t.slot.level ≡ index) (acts_from split kind index 0 ds)
      (λ t h. h.level_is) (acts-from split kind index 0 ds)) (ons-level split);
}
  where
    ons-are : (b : Bool) → AreDistinct (ons_of index ds b)
    ons-are true = ons-distinct index 0 ds
    ons-are false = tt

    ons-level : (b : Bool) → AllByRecursion (λ t. t.slot.level ≡ index) (ons_of index ds b)
    ons-level true = each-map (IsFrom 3 index 0) (λ t. t.slot.level ≡ index) (ons_from index 0 ds) (λ t h. h.level_is)
        (ons-from index 0 ds)
    ons-level false = tt

    apart : (b : Bool) (t : Task) → IsFrom (first_phase b) index 0 t →
        AllByRecursion (λ u. same_slot u.slot t.slot ≡ false) (ons_of index ds b)
    apart true t h =
        each-map (IsFrom 3 index 0) (λ u. same_slot u.slot t.slot ≡ false) (ons_from index 0 ds)
        (λ u k. other-phase u.slot t.slot (let a : phase_place u.slot.phase ≡ 3 = k.phase_is in
        let b : phase_place t.slot.phase ≡ 2 = h.phase_is in rw (a, b) refl)) (ons-from index 0 ds)
    apart false t h = tt

-- so of a level of the plan and of a candidate as a level
pub rank-distinct : (kind : Kind) (index : ℕ) (places : List (Option Device)) →
    IsOfLevel index (rank kind index places).firsts (rank kind index places).ons
rank-distinct kind index places = slots-of kind index (is_split kind (fit_devices places)) (fit_devices places)

-- each level has distinct slots with its number
abbrev pub AreOfLevel : List Rank → Type 0
AreOfLevel ls = AllByRecursion (λ l. IsOfLevel l.index l.firsts l.ons) ls

-- the numbers of levels rise, from one on
abbrev pub AreRising : ℕ → List Rank → Type 0
AreRising n [] = Unit {0}
AreRising n (l ∷ ls) = (n ≤ l.index) × AreRising (l.index + 1) ls

rising-numbers : (n : ℕ) (ls : List Rank) → AreOfLevel ls → AreRising n ls → AllByRecursion (λ t. n ≤ t.slot.level)
    (slots_of ls)
rising-numbers n [] a r = tt
rising-numbers n (l ∷ ls) a r =
    let from : n ≤ l.index = r.0 in
    each-joined (λ t. n ≤ t.slot.level) (l.firsts ++ l.ons) (slots_of ls)
    (each-map (λ t. t.slot.level ≡ l.index) (λ t. n ≤ t.slot.level) (l.firsts ++ l.ons) (λ t k. omega (arith, from, k))
    a.0.numbered)
    (each-map (λ t. l.index + 1 ≤ t.slot.level) (λ t. n ≤ t.slot.level) (slots_of ls) (λ t k. omega (arith, from, k))
    (rising-numbers (l.index + 1) ls a.1 r.1))

-- levels whose numbers rise have distinct slots
pub ranks-distinct : (n : ℕ) (ls : List Rank) → AreOfLevel ls → AreRising n ls → AreDistinct (slots_of ls)
ranks-distinct n [] a r = tt
ranks-distinct n (l ∷ ls) a r =
    distinct-joined (l.firsts ++ l.ons) (slots_of ls) a.0.distinct (ranks-distinct (l.index + 1) ls a.1 r.1)
    (each-map (λ t. t.slot.level ≡ l.index) (λ t. AllByRecursion (λ u. same_slot u.slot t.slot ≡ false) (slots_of ls))
    (l.firsts ++ l.ons)
    (λ t k. each-map (λ u. l.index + 1 ≤ u.slot.level) (λ u. same_slot u.slot t.slot ≡ false) (slots_of ls)
    (λ u m. other-level u.slot t.slot (λ e. omega (arith, k, m, e))) (rising-numbers (l.index + 1) ls a.1 r.1))
    a.0.numbered)

-- candidates as levels
ranked-rising : (kind : Kind) (n : ℕ) (cs : List QueriedDevice) → AreRising n (ranked_from kind n cs)
ranked-rising kind n [] = tt
ranked-rising kind n (c ∷ cs) = (omega arith, ranked-rising kind (n + 1) cs)

ranked-each : (kind : Kind) (n : ℕ) (cs : List QueriedDevice) → AreOfLevel (ranked_from kind n cs)
ranked-each kind n [] = tt
ranked-each kind n (c ∷ cs) = (rank-distinct kind n (Some c.device ∷ []), ranked-each kind (n + 1) cs)

pub ranked-distinct : (kind : Kind) (n : ℕ) (cs : List QueriedDevice) → AreDistinct (slots_of (ranked_from kind n cs))
ranked-distinct kind n cs = ranks-distinct n (ranked_from kind n cs) (ranked-each kind n cs) (ranked-rising kind n cs)
