-- The counts of a journal, entry by entry.
use Rattle.std.proofs.Common.{ℕ, [], ◌∷◌, Bool, true, false, ◌≡◌, ◌≤◌, ◌<◌, ◌+◌, cond, refl, arith, length, ltb}
use Rattle.std.proofs.lemmas.Bool.{ltb-true}
use Rattle.fnc_journal.specs.declared.entry.Answer.{Answer}
use Rattle.fnc_journal.specs.declared.entry.Entry.{Entry}
use Rattle.fnc_journal.specs.declared.event.Event.{Event}
use Rattle.fnc_journal.specs.History.{History}
use Rattle.fnc_journal.specs.Found.{asks, is_ask, is_reply, replies}
use Rattle.fnc_journal.specs.Prefix.{prefix}
use Rattle.fnc_answered.specs.Counts.{is_levels, is_no_device, is_passed, is_reply_that, is_time, replies_that}
use Rattle.fnc_workload.specs.Summed.{IsBelow, answered, is_refused, refusals, tallied, tally_of}
use Rattle.fnc_workload.specs.declared.tally.Tally.{Tally}

-- what an answer adds
answered-is : (t : Tally) (a : Answer) →
    answered t a
    ≡ record t {
      answered = t.answered + 1;
      passed = cond (is_passed a) (t.passed + 1) t.passed;
      levels = cond (is_levels a) (t.levels + 1) t.levels;
      time = cond (is_time a) (t.time + 1) t.time;
      none = cond (is_no_device a) (t.none + 1) t.none;
    }
answered-is t (Answer.Passed level) = refl
answered-is t Answer.Levels = refl
answered-is t Answer.Time = refl
answered-is t Answer.NoDevice = refl
answered-is t Answer.Confirmed = refl

-- what an entry adds
pub tally-more : (m : ℕ) (event : Event) (h : History) →
    tallied (tally_of h) event ≡ tally_of (record { moment = m; event = event } ∷ h)
tally-more m (Event.Ask ask) h = refl
tally-more m (Event.Reply reply) h = answered-is (tally_of h) reply.answer
tally-more m (Event.Refused refusal) h = refl
tally-more m _ h = refl

one-more : (b : Bool) (n : ℕ) (e : Entry) (h : History) → n ≤ length h → cond b (n + 1) n ≤ length (e ∷ h)
one-more true n e h k = omega arith
one-more false n e h k = omega arith

asks-most : (h : History) → asks h ≤ length h
asks-most [] = omega arith
asks-most (e ∷ before) = one-more (is_ask e.event) (asks before) e before (asks-most before)

replies-most : (h : History) → replies h ≤ length h
replies-most [] = omega arith
replies-most (e ∷ before) = one-more (is_reply e.event) (replies before) e before (replies-most before)

replies-that-most : (p : Answer → Bool) (h : History) → replies_that p h ≤ length h
replies-that-most p [] = omega arith
replies-that-most p (e ∷ before) =
    one-more (is_reply_that p e.event) (replies_that p before) e before (replies-that-most p before)

refusals-most : (h : History) → refusals h ≤ length h
refusals-most [] = omega arith
refusals-most (e ∷ before) = one-more (is_refused e.event) (refusals before) e before (refusals-most before)

-- no count is above the length of the journal
pub tally-most : (h : History) (n : ℕ) → length h < n → IsBelow n (tally_of h)
tally-most h n l = record {
  asked = let k = asks-most h in omega (arith, k, l);
  answered = let k = replies-most h in omega (arith, k, l);
  passed = let k = replies-that-most is_passed h in omega (arith, k, l);
  levels = let k = replies-that-most is_levels h in omega (arith, k, l);
  time = let k = replies-that-most is_time h in omega (arith, k, l);
  none = let k = replies-that-most is_no_device h in omega (arith, k, l);
  refused = let k = refusals-most h in omega (arith, k, l);
}

-- a prefix is no longer than its number says
pub prefix-most : (h : History) (n : ℕ) → length (prefix n h) ≤ n
prefix-most [] n = omega arith
prefix-most (e ∷ before) n = go (ltb (length before) n) refl (prefix-most before n)
  where
    go : (b : Bool) → ltb (length before) n ≡ b → length (prefix n before) ≤ n →
        length (cond b (e ∷ before) (prefix n before)) ≤ n
    go true k ih = let less : length before < n = ltb-true (length before) n k in omega (arith, less)
    go false k ih = ih
