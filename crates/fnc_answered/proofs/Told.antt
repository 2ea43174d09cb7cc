-- Where no operator confirmed, each reply says that a level passed or why none did.
use Rattle.std.proofs.Common.{
  ℕ,
  List,
  [],
  ◌∷◌,
  Bool,
  true,
  false,
  ◌≡◌,
  ◌+◌,
  refl,
  ap,
  ◌∙◌,
  Option,
  Some,
  None,
  IsTrue,
  arith,
  ◌&&◌,
  ◌||◌,
  cond,
}
use Rattle.std.specs.Prelude.{option_map, unwrap_or}
use Rattle.std.specs.List.{list_all}
use Rattle.std.specs.Option.{option_or}
use Rattle.fnc_journal.specs.declared.entry.Answer.{Answer}
use Rattle.fnc_journal.specs.declared.event.Event.{Event}
use Rattle.fnc_journal.specs.History.{History}
use Rattle.fnc_journal.specs.Same.{same_answer}
use Rattle.fnc_journal.specs.Found.{replies}
use Rattle.fnc_journal.specs.Slots.{Operation, Rank}
use Rattle.fnc_journal.specs.Acts.{Act, acts}
use Rattle.fnc_journal.specs.Standing.{queries_concluded, ranks, lost}
use Rattle.fnc_journal.specs.Due.{
  confirms,
  is_confirmed,
  answer_passed,
  passed_among,
  time_due,
  failure_due,
  due_by_acts,
  due,
}
use Rattle.fnc_journal.specs.Operations.{first_due}
use Rattle.fnc_journal.specs.Lawful.{Lawful, reply_of, is_reply_of}
use Rattle.fnc_journal.proofs.Lawfulness.{and-right}
use Rattle.fnc_journal.proofs.Frames.{at}
use Rattle.fnc_answered.specs.Done.{is_confirmation, Unconfirmed}
use Rattle.fnc_answered.specs.Counts.{is_passed, is_levels, is_time, is_no_device, replies_that}

-- no operation is confirmed
unconfirmed : (h : History) → Unconfirmed h → (o : Operation) → is_confirmed o h ≡ false
unconfirmed [] u o = refl
unconfirmed (e ∷ before) u o = go e.event u.0 (unconfirmed before u.1 o)
  where
    go : (event : Event) → is_confirmation event ≡ false → is_confirmed o before ≡ false →
        (confirms o before event || is_confirmed o before) ≡ false
    go (Event.Confirm x) k ih = cc
    go _ k ih = ih

-- an answer, if there is one, is no confirmation
abbrev Says : Option Answer → Type 0
Says (Some Answer.Confirmed) = ⊥
Says _ = Unit {0}

timely : (b : Bool) → Says (cond b (Some Answer.Time) None)
timely true = tt
timely false = tt

failing : (o : Operation) (m : ℕ) (xs : List Act) (ls : List Rank) → Says (failure_due o m xs ls)
failing o m xs [] = go (queries_concluded o m xs)
  where
    go : (b : Bool) → Says (cond b (Some Answer.NoDevice) (time_due o m))
    go true = tt
    go false = timely _
failing o m xs (l ∷ ls) = go (queries_concluded o m xs && list_all (lost o m xs) (l ∷ ls))
  where
    go : (b : Bool) → Says (cond b (Some Answer.Levels) (time_due o m))
    go true = tt
    go false = timely _

passing : (x : Option Rank) (y : Option Answer) → Says y → Says (option_or (option_map answer_passed x) y)
passing None y s = s
passing (Some l) y s = tt

due-says : (o : Operation) (m : ℕ) (xs : List Act) → Says (due_by_acts o m xs)
due-says o m xs = passing (passed_among o m xs (ranks o m xs)) _ (failing o m xs (ranks o m xs))

never : (x : Option Answer) → Says x → unwrap_or (option_map (same_answer Answer.Confirmed) x) false ≡ true → ⊥
never None s e = cc
never (Some Answer.Confirmed) s e = s
never (Some (Answer.Passed l)) s e = cc
never (Some Answer.Levels) s e = cc
never (Some Answer.Time) s e = cc
never (Some Answer.NoDevice) s e = cc

-- a lawful reply is no confirmation
no-confirmation : (h : History) → Unconfirmed h → (r m : ℕ) (x : Option Operation) →
    is_reply_of r Answer.Confirmed m h x ≡ true → ⊥
no-confirmation h u r m None e = cc
no-confirmation h u r m (Some o) e =
    never (due_by_acts o m (acts o.req h)) (due-says o m (acts o.req h))
    (ap (λ b. unwrap_or (option_map (same_answer Answer.Confirmed) (due o m b (acts o.req h))) false) (unconfirmed' o)
    ∙ and-right _ _ e)
  where
    unconfirmed' : (o : Operation) → false ≡ is_confirmed o h
    unconfirmed' o = rw (unconfirmed h u o) refl

first-more : (p l t n r : ℕ) → p + l + t + n ≡ r → p + 1 + l + t + n ≡ r + 1
first-more p l t n r e = omega (arith, e)

second-more : (p l t n r : ℕ) → p + l + t + n ≡ r → p + (l + 1) + t + n ≡ r + 1
second-more p l t n r e = omega (arith, e)

third-more : (p l t n r : ℕ) → p + l + t + n ≡ r → p + l + (t + 1) + n ≡ r + 1
third-more p l t n r e = omega (arith, e)

fourth-more : (p l t n r : ℕ) → p + l + t + n ≡ r → p + l + t + (n + 1) ≡ r + 1
fourth-more p l t n r e = omega (arith, e)

-- the replies by their answers are all replies
pub replies-told : (h : History) → Lawful h → Unconfirmed h →
    replies_that is_passed h + replies_that is_levels h + replies_that is_time h + replies_that is_no_device h
    ≡ replies h
replies-told [] l u = refl
replies-told (e ∷ before) l u = go e.event l.0.replies (replies-told before l.1 u.1)
  where
    p : ℕ
    p = replies_that is_passed before

    k : ℕ
    k = replies_that is_levels before

    t : ℕ
    t = replies_that is_time before

    n : ℕ
    n = replies_that is_no_device before

    told : (r : ℕ) (a : Answer) → is_reply_of r a e.moment before (first_due before e.moment) ≡ true →
        p + k + t + n ≡ replies before →
        cond (is_passed a) (p + 1) p + cond (is_levels a) (k + 1) k + cond (is_time a) (t + 1) t
        + cond (is_no_device a) (n + 1) n ≡ replies before + 1
    told r (Answer.Passed level) f ih = first-more p k t n (replies before) ih
    told r Answer.Levels f ih = second-more p k t n (replies before) ih
    told r Answer.Time f ih = third-more p k t n (replies before) ih
    told r Answer.NoDevice f ih = fourth-more p k t n (replies before) ih
    told r Answer.Confirmed f ih = absurd (no-confirmation before u.1 r e.moment (first_due before e.moment) f)

    go : (event : Event) → IsTrue (reply_of event e.moment before) → p + k + t + n ≡ replies before →
        replies_that is_passed (at e.moment event ∷ before) + replies_that is_levels (at e.moment event ∷ before)
        + replies_that is_time (at e.moment event ∷ before) + replies_that is_no_device (at e.moment event ∷ before)
        ≡ replies (at e.moment event ∷ before)
    go (Event.Reply reply) f ih = told reply.req.0 reply.answer f ih
    go _ f ih = ih
