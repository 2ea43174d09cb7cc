-- The numbers of a journal, one entry after another.
use Rattle.std.proofs.Common.{ℕ, [], ◌∷◌, Bool, true, false, ◌≡◌, ◌≤◌, ◌<◌, ◌+◌, cond, refl, arith, length}
use Rattle.fnc_journal.specs.declared.entry.Entry.{Entry}
use Rattle.fnc_journal.specs.declared.event.Event.{Event}
use Rattle.fnc_journal.specs.History.{History}
use Rattle.fnc_journal.specs.Found.{devices, asks, starts, is_device, is_ask, is_start}
use Rattle.fnc_judge.specs.Numbers.{IsBelow, numbered, numbers_of}

pub numbers-more : (m : ℕ) (event : Event) (h : History) →
    numbered (numbers_of h) event ≡ numbers_of (record { moment = m; event = event } ∷ h)
numbers-more m (Event.Device device) h = refl
numbers-more m (Event.Ask ask) h = refl
numbers-more m (Event.Start start) h = refl
numbers-more m _ h = refl

one-more : (b : Bool) (n : ℕ) (e : Entry) (h : History) → n ≤ length h → cond b (n + 1) n ≤ length (e ∷ h)
one-more true n e h k = omega arith
one-more false n e h k = omega arith

pub numbers-most : (h : History) (n : ℕ) → length h < n → IsBelow n (numbers_of h)
numbers-most h n l = (omega (arith, d h, l), omega (arith, a h, l), omega (arith, s h, l))
  where
    d : (h : History) → devices h ≤ length h
    d [] = omega arith
    d (e ∷ before) = one-more (is_device e.event) (devices before) e before (d before)

    a : (h : History) → asks h ≤ length h
    a [] = omega arith
    a (e ∷ before) = one-more (is_ask e.event) (asks before) e before (a before)

    s : (h : History) → starts h ≤ length h
    s [] = omega arith
    s (e ∷ before) = one-more (is_start e.event) (starts before) e before (s before)
