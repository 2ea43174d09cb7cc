-- The candidates of an operation, one after another.
use Rattle.std.proofs.Common.{
  ℕ,
  List,
  [],
  ◌∷◌,
  ◌≡◌,
  ◌≤◌,
  ◌+◌,
  refl,
  sym,
  ap,
  ◌∙◌,
  Option,
  Some,
  None,
  arith,
  length,
  drop,
}
use Rattle.std.specs.Prelude.{map}
use Rattle.fnc_journal.specs.Missing.{first_of}
use Rattle.fnc_journal.specs.Device.{Device}
use Rattle.fnc_journal.specs.Plan.{candidate}
use Rattle.fnc_journal.specs.Slots.{QueriedDevice, queried_from}
use Rattle.fnc_search.specs.declared.candidates.After.{After}
use Rattle.fnc_search.specs.Keyed.{Keyed, key, keyed_among, later}
use Rattle.fnc_search.specs.Pursued.{Pursued, wanted, candidates_of}
use Rattle.fnc_search.proofs.Ordered.{ordered, later-none, later-next, later-fewer, keyed-most, devices-same}

-- all of them
abbrev pub keyed_of : Pursued → List Keyed
keyed_of p = keyed_among (wanted p) p.asked.before p.asked.before

-- those of these devices, from a place on
abbrev pub queued : Pursued → ℕ → List Keyed → List QueriedDevice
queued p place cs =
    queried_from place p.asked.before (map (candidate (wanted p) p.asked.before) (map (λ (c : Keyed). c.device) cs))

-- those that are later, from a place on
abbrev pub left : Pursued → Option After → ℕ → List QueriedDevice
left p k place = queued p place (later k (keyed_of p))

pub left-all : (p : Pursued) → candidates_of p ≡ left p None 0
left-all p =
    ap (λ (ds : List Device). queried_from 0 p.asked.before (map (candidate (wanted p) p.asked.before) ds))
    (sym (devices-same (wanted p) p.asked.before p.asked.before))
    ∙ ap (queued p 0) (sym (later-none (keyed_of p)))

pub first-none : (cs : List Keyed) → first_of cs ≡ None → cs ≡ []
first-none [] e = refl
first-none (c ∷ cs) e = cc

pub first-some : (cs : List Keyed) (c : Keyed) → first_of cs ≡ Some c → cs ≡ c ∷ drop 1 cs
first-some [] c e = cc
first-some (x ∷ xs) c e = let same : x ≡ c = cc in ap (λ y. y ∷ xs) same

pub rest-later : (p : Pursued) (k : Option After) (c : Keyed) → first_of (later k (keyed_of p)) ≡ Some c →
    later k (keyed_of p) ≡ c ∷ later (Some (key c)) (keyed_of p)
rest-later p k c e =
    let split = first-some (later k (keyed_of p)) c e in
    split ∙ ap (λ cs. c ∷ cs)
    (sym (later-next k (keyed_of p) c (drop 1 (later k (keyed_of p)))
    (ordered (wanted p) p.asked.before p.asked.before) split))

pub left-none : (p : Pursued) (k : Option After) (place : ℕ) → first_of (later k (keyed_of p)) ≡ None →
    left p k place ≡ []
left-none p k place e = ap (queued p place) (first-none (later k (keyed_of p)) e)

pub room-all : (p : Pursued) → length (later None (keyed_of p)) ≤ length p.asked.before
room-all p =
    let fewer = later-fewer None (keyed_of p) in
    let most = keyed-most (wanted p) p.asked.before p.asked.before in
    omega (arith, fewer, most)

pub room-more : (p : Pursued) (k : Option After) (c : Keyed) → first_of (later k (keyed_of p)) ≡ Some c →
    length (later k (keyed_of p)) ≡ length (later (Some (key c)) (keyed_of p)) + 1
room-more p k c e = let longer = ap length (rest-later p k c e) in omega (arith, longer)

no-length : (cs : List Keyed) → length cs ≤ 0 → cs ≡ []
no-length [] l = refl
no-length (c ∷ cs) l = absurd (omega (arith, l))

pub left-past : (p : Pursued) (k : Option After) (place : ℕ) → length (later k (keyed_of p)) ≤ 0 → left p k place ≡ []
left-past p k place l = ap (queued p place) (no-length (later k (keyed_of p)) l)
