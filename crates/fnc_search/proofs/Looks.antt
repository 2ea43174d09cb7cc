-- What is seen of a slot, one act after another.
use Rattle.std.proofs.Common.{ℕ, List, [], ◌∷◌, Bool, true, false, ◌≡◌, ◌≤◌, ◌+◌, ◌&&◌, ◌||◌, not, cond, refl, sym, ap, Option, Some, None, arith, length}
use Rattle.std.specs.Prelude.{is_some}
use Rattle.fnc_journal.specs.declared.event.Event.{Event}
use Rattle.fnc_journal.specs.History.{History}
use Rattle.fnc_journal.specs.Missing.{or_here}
use Rattle.fnc_journal.specs.Same.{same_slot}
use Rattle.fnc_journal.specs.Exits.{is_success}
use Rattle.fnc_journal.specs.Slots.{Task}
use Rattle.fnc_journal.specs.Acts.{Act, acts, act_here, cons_act, failed, fails_here, begun_at, success_at, has_succeeded, succeeds_here, moment_of, is_query, answered, confirmed, concluded, spent}
use Rattle.fnc_search.specs.Seen.{
  answered_by,
  confirmed_by,
  concluded_by,
  seen_of,
  seen_with,
  is_in_time_by,
}

seen-act : (t : Task) (over : ℕ) (xs : List Act) (a : Act) →
    seen_with t over (seen_of t over xs) (Some a) ≡ seen_of t over (a ∷ xs)
seen-act t over xs (Act.Begun m run slot) = go (same_slot t.slot slot) refl
  where
    go : (b : Bool) → same_slot t.slot slot ≡ b →
        seen_with t over (seen_of t over xs) (Some (Act.Begun m run slot)) ≡ seen_of t over (Act.Begun m run slot ∷ xs)
    go true p = rw p refl
    go false p = rw p refl
seen-act t over xs (Act.Ended m slot exit listed) =
    go (same_slot t.slot slot) refl (is_in_time_by t over (begun_at t.slot xs) m) refl (is_success t.kind exit) refl
  where
    go : (b : Bool) → same_slot t.slot slot ≡ b → (c : Bool) → is_in_time_by t over (begun_at t.slot xs) m ≡ c →
        (d : Bool) → is_success t.kind exit ≡ d →
        seen_with t over (seen_of t over xs) (Some (Act.Ended m slot exit listed))
        ≡ seen_of t over (Act.Ended m slot exit listed ∷ xs)
    go false p c q d r = rw p refl
    go true p false q d r = rw (p, q) refl
    go true p true q true r = rw (p, q, r) refl
    go true p true q false r = rw (p, q, r) refl

pub seen-more : (t : Task) (over o m : ℕ) (event : Event) (h : History) →
    seen_with t over (seen_of t over (acts o h)) (act_here o m (acts o h) event)
    ≡ seen_of t over (acts o (record { moment = m; event = event } ∷ h))
seen-more t over o m event h = go (act_here o m (acts o h) event)
  where
    go : (a : Option Act) → seen_with t over (seen_of t over (acts o h)) a ≡ seen_of t over (cons_act a (acts o h))
    go None = refl
    go (Some a) = seen-act t over (acts o h) a

pub failed-most : (t : Task) (over o : ℕ) (h : History) → failed t over (acts o h) ≤ length h
failed-most t over o [] = omega arith
failed-most t over o (e ∷ before) = go (act_here o e.moment (acts o before) e.event) (failed-most t over o before)
  where
    more : (b : Bool) (n : ℕ) → n ≤ length before → cond b (n + 1) n ≤ length (e ∷ before)
    more true n l = omega arith
    more false n l = omega arith

    go : (a : Option Act) → failed t over (acts o before) ≤ length before →
        failed t over (cons_act a (acts o before)) ≤ length (e ∷ before)
    go None l = omega arith
    go (Some a) l = more (fails_here t over (acts o before) a) (failed t over (acts o before)) l

-- a slot succeeded where there is a moment of its success
pub succeeded-when : (t : Task) (over : ℕ) (xs : List Act) → has_succeeded t over xs ≡ is_some (success_at t over xs)
succeeded-when t over [] = refl
succeeded-when t over (a ∷ xs) = go (succeeds_here t over xs a) (success_at t over xs) (succeeded-when t over xs)
  where
    go : (b : Bool) (s : Option ℕ) → has_succeeded t over xs ≡ is_some s →
        (b || has_succeeded t over xs) ≡ is_some (or_here s (cond b (Some (moment_of a)) None))
    go true None p = refl
    go true (Some x) p = refl
    go false s p = p

-- so what is said of a slot is read off what was seen of it
pub answered_same : (t : Task) (over : ℕ) (xs : List Act) → answered_by t (seen_of t over xs) ≡ answered t over xs
answered_same t over xs = ap (λ b. is_query t && b) (sym (succeeded-when t over xs))

pub confirmed_same : (t : Task) (over : ℕ) (xs : List Act) → confirmed_by t (seen_of t over xs) ≡ confirmed t over xs
confirmed_same t over xs = ap (λ b. not (is_query t) && b) (sym (succeeded-when t over xs))

pub concluded_same : (t : Task) (over m : ℕ) (xs : List Act) →
    concluded_by t m (seen_of t over xs) ≡ concluded t over m xs
concluded_same t over m xs = ap (λ b. b || spent t over m xs) (sym (succeeded-when t over xs))
