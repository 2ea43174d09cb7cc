-- Parts of the rules of an entry, as the definitions say them.
use Rattle.std.proofs.Common.{
  ℕ,
  List,
  [],
  ◌∷◌,
  Bool,
  true,
  false,
  ◌≡◌,
  ◌≤◌,
  ◌+◌,
  ◌==◌,
  ◌&&◌,
  ◌||◌,
  cond,
  refl,
  arith,
  eq-eqb,
  Option,
  Some,
  None,
  length,
}
use Rattle.std.specs.Prelude.{bytes_eq, find, is_some, option_map}
use Rattle.std.specs.List.{list_any}
use Rattle.fnc_journal.specs.declared.event.Event.{Event}
use Rattle.fnc_journal.specs.declared.entry.Slot.{Slot}
use Rattle.fnc_journal.specs.History.{History}
use Rattle.fnc_journal.specs.Missing.{first_of, or_here}
use Rattle.fnc_journal.specs.Found.{Asked, asked, asked_here, entry_at}
use Rattle.fnc_journal.specs.Due.{confirms, is_confirmed}
use Rattle.fnc_journal.specs.Slots.{Operation}
use Rattle.fnc_journal.specs.Same.{same_slot}
use Rattle.fnc_journal.specs.Acts.{Act, acts, runs, cons_act, slot_of_run}
use Rattle.fnc_journal.specs.Lawful.{last_moment, pending}
use Rattle.fnc_judge.specs.Opened.{replies_after, last_replies}
use Rattle.fnc_judge.specs.Testing.{moment_by, pending_after, runs_here}

-- the last entry
pub last-entry : (h : History) (n : ℕ) → n + 1 ≡ length h → entry_at n h ≡ first_of h
last-entry [] n p = absurd (omega (arith, p))
last-entry (e ∷ before) n p =
    let same : (n == length before) ≡ true = eq-eqb n (length before) (omega (arith, p)) in rw same refl

pub no-entry : (h : History) → length h ≡ 0 → first_of h ≡ None
no-entry [] p = refl
no-entry (e ∷ before) p = absurd (omega (arith, p))

pub moment-same : (h : History) → moment_by (first_of h) ≡ last_moment h
moment-same [] = refl
moment-same (e ∷ before) = refl

pub pending-same : (h : History) → pending_after h (first_of h) ≡ pending h
pending-same [] = refl
pending-same (e ∷ before) = refl

pub replies-same : (o : ℕ) (h : History) → replies_after o h (first_of h) ≡ last_replies o h
replies-same o [] = refl
replies-same o (e ∷ before) = refl

-- one passes where one is found
pub any-find : {X : Type 0} (p : X → Bool) (xs : List X) → is_some (find p xs) ≡ list_any p xs
any-find p [] = refl
any-find p (x ∷ xs) = go (p x) (any-find p xs)
  where
    go : (b : Bool) → is_some (find p xs) ≡ list_any p xs → is_some (cond b (Some x) (find p xs)) ≡ (b || list_any p xs)
    go true e = refl
    go false e = e

-- the runs of a slot, one entry after another
pub runs-more : (o : ℕ) (s : Slot) (m : ℕ) (event : Event) (h : History) →
    cond (runs_here o s event) (runs s (acts o h) + 1) (runs s (acts o h))
    ≡ runs s (acts o (record { moment = m; event = event } ∷ h))
runs-more o s m (Event.Start start) h = go (o == start.req.0) (same_slot s start.slot) refl
  where
    go : (b c : Bool) → same_slot s start.slot ≡ c →
        cond (b && c) (runs s (acts o h) + 1) (runs s (acts o h))
        ≡ runs s (cons_act (cond b (Some (Act.Begun m start.run.0 start.slot)) None) (acts o h))
    go true true e = rw e refl
    go true false e = rw e refl
    go false c e = refl
runs-more o s m (Event.Exit ended) h = go (slot_of_run ended.run.0 (acts o h))
  where
    go : (x : Option Slot) →
        runs s (acts o h) ≡ runs s
        (cons_act (option_map (λ slot. Act.Ended m slot ended.exit ended.listed) x) (acts o h))
    go None = refl
    go (Some w) = refl
runs-more o s m _ h = refl

pub runs-most : (o : ℕ) (s : Slot) (h : History) → runs s (acts o h) ≤ length h
runs-most o s [] = omega arith
runs-most o s (e ∷ before) = go (runs_here o s e.event) (runs-more o s e.moment e.event before) (runs-most o s before)
  where
    go : (b : Bool) → cond b (runs s (acts o before) + 1) (runs s (acts o before)) ≡ runs s (acts o (e ∷ before)) →
        runs s (acts o before) ≤ length before → runs s (acts o (e ∷ before)) ≤ length (e ∷ before)
    go true p k = omega (arith, p, k)
    go false p k = omega (arith, p, k)

-- before its request an operation is not confirmed
pub unasked-unconfirmed : (o : Operation) (h : History) → asked o.req h ≡ None → is_confirmed o h ≡ false
unasked-unconfirmed o [] k = refl
unasked-unconfirmed o (e ∷ before) k = go e.event (unasked-unconfirmed o before earlier)
  where
    fewer : (x y : Option Asked) → or_here x y ≡ None → x ≡ None
    fewer None y f = refl
    fewer (Some x) None f = f
    fewer (Some x) (Some y) f = cc

    earlier : asked o.req before ≡ None
    earlier = fewer (asked o.req before) (asked_here o.req e.moment before e.event) k

    none : (b : Bool) → is_confirmed o before ≡ false → (b && is_some (asked o.req before) || is_confirmed o before) ≡ false
    none true ih = rw (earlier, ih) refl
    none false ih = ih

    go : (event : Event) → is_confirmed o before ≡ false → (confirms o before event || is_confirmed o before) ≡ false
    go (Event.Confirm confirmation) ih = none (bytes_eq o.target confirmation.target) ih
    go _ ih = ih
