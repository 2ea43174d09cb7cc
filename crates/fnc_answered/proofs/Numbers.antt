-- The replies of a lawful journal are as many as the requests that are answered.
use Rattle.std.proofs.Common.{
  ℕ,
  [],
  ◌∷◌,
  Bool,
  true,
  false,
  ◌≡◌,
  ◌≤◌,
  ◌<◌,
  ◌+◌,
  refl,
  ap,
  sym,
  ◌∙◌,
  Option,
  Some,
  None,
  IsTrue,
  is_some,
  arith,
  ◌==◌,
  ◌||◌,
  not,
  cond,
  eqb-true,
  ne_eqb,
  nat_lt,
  zero,
  suc,
}
use Rattle.std.proofs.lemmas.Bool.{ltb-true, ltb-false}
use Rattle.std.proofs.lemmas.Bool.Decides.{nat_tests}
use Rattle.fnc_journal.specs.declared.event.Event.{Event}
use Rattle.fnc_journal.specs.declared.event.Reply.{Reply}
use Rattle.fnc_journal.specs.History.{History}
use Rattle.fnc_journal.specs.Found.{Asked, asked, asked_of, asked_here, asks, replies, is_answered, is_reply}
use Rattle.fnc_journal.specs.Missing.{or_here}
use Rattle.fnc_journal.specs.Lawful.{Lawful, in_order, is_first_reply}
use Rattle.fnc_journal.proofs.Lawfulness.{and-left, in_order-of}
use Rattle.fnc_journal.proofs.Frames.{at}
use Rattle.fnc_journal.proofs.Requests.{fresh_ask}
use Rattle.fnc_journal.proofs.Fresh.{unasked_unanswered}

-- how many of the requests below a number are answered
abbrev pub answered_below : ℕ → History → ℕ
answered_below zero h = 0
answered_below (suc n) h = cond (is_answered n h) (answered_below n h + 1) (answered_below n h)

-- where all are, they are counted
pub all-below : (h : History) (n : ℕ) → ((r : ℕ) → r < n → is_answered r h ≡ true) → answered_below n h ≡ n
all-below h zero f = refl
all-below h (suc n) f =
    let here : is_answered n h ≡ true = f n (omega arith) in
    let rest : answered_below n h ≡ n = all-below h n (λ r l. f r (omega (arith, l))) in
    rw (here, rest) (omega arith)

-- an entry that is no reply answers nothing
quiet : (h : History) (m : ℕ) (event : Event) → is_reply event ≡ false → (r : ℕ) →
    is_answered r (at m event ∷ h) ≡ is_answered r h
quiet h m (Event.Reply reply) e r = cc
quiet h m _ e r = refl

below-quiet : (h : History) (m : ℕ) (event : Event) → is_reply event ≡ false → (n : ℕ) →
    answered_below n (at m event ∷ h) ≡ answered_below n h
below-quiet h m event e zero = refl
below-quiet h m event e (suc n) = rw (quiet h m event e n, below-quiet h m event e n) refl

less : (r q n : ℕ) → r < n + 1 → (r == q) ≡ false → q ≡ n → r < n
less r q n le e s = grind (arith, nat_tests)

above : (n r : ℕ) → r < n + 1 → (n == r) ≡ false → r < n
above n r le e = grind (arith, nat_tests)

-- a reply counts above its request alone
module _ (h : History) (m : ℕ) (reply : Reply) (fresh : is_answered reply.req.0 h ≡ false) where
  below-same : (n : ℕ) → n ≤ reply.req.0 → answered_below n (at m (Event.Reply reply) ∷ h) ≡ answered_below n h
  below-same zero le = refl
  below-same (suc n) le =
      let other : (n == reply.req.0) ≡ false = ne_eqb n reply.req.0 (λ g. omega (arith, le, g)) in
      rw (other, below-same n (omega (arith, le))) refl

  one_more : (b : Bool) (k : ℕ) → cond b (k + 1 + 1) (k + 1) ≡ cond b (k + 1) k + 1
  one_more true k = refl
  one_more false k = refl

  below-one : (n : ℕ) → reply.req.0 < n → answered_below n (at m (Event.Reply reply) ∷ h) ≡ answered_below n h + 1
  below-one zero le = absurd (omega (arith, le))
  below-one (suc n) le = go (n == reply.req.0) refl (λ k. below-one n k)
    where
      go : (b : Bool) → (n == reply.req.0) ≡ b →
          (reply.req.0 < n → answered_below n (at m (Event.Reply reply) ∷ h) ≡ answered_below n h + 1) →
          cond ((n == reply.req.0) || is_answered n h) (answered_below n (at m (Event.Reply reply) ∷ h) + 1)
          (answered_below n (at m (Event.Reply reply) ∷ h))
          ≡ cond (is_answered n h) (answered_below n h + 1) (answered_below n h) + 1
      go true e ih =
          let same : n ≡ reply.req.0 = eqb-true n reply.req.0 e in
          let none : is_answered n h ≡ false = ap (λ k. is_answered k h) same ∙ fresh in
          rw (e, none, below-same n (omega (arith, same))) refl
      go false e ih =
          let down : reply.req.0 < n = above n reply.req.0 (omega (arith, le)) e in
          rw (e, ih down) (one_more (is_answered n h) (answered_below n h))

-- a request that was asked has a number below the next one
none_some : {X : Type 0} (x : Option X) → x ≡ None → is_some x ≡ true → ⊥
none_some None e f = cc
none_some (Some x) e f = cc

not-true : (b : Bool) → not b ≡ true → b ≡ false
not-true true e = cc
not-true false e = refl

ask-below : (h : History) → Lawful h → (n : ℕ) → asks h ≡ n →
    cond (is_answered n h) (answered_below n h + 1) (answered_below n h) ≡ answered_below n h
ask-below h l n e = rw (unasked_unanswered h l n (omega (arith, e))) refl

-- a request that was asked has a number below the next one
pub below-asked : (h : History) → Lawful h → (r : ℕ) → is_some (asked r h) ≡ true → r < asks h
below-asked h l r k = go (nat_lt r (asks h)) refl
  where
    go : (b : Bool) → nat_lt r (asks h) ≡ b → r < asks h
    go true e = ltb-true r (asks h) e
    go false e = absurd (none_some (asked r h) (fresh_ask h l r (ltb-false r (asks h) e)) k)

next : (n : ℕ) → suc n ≡ n + 1
next n = omega arith

-- there are as many replies as requests that are answered
pub replies-counted : (h : History) → Lawful h → replies h ≡ answered_below (asks h) h
replies-counted [] l = refl
replies-counted (e ∷ before) l =
    go e.event (in_order-of e.moment e.event before l.0.ordered) (and-left _ _ l.0.once_only)
    (replies-counted before l.1)
  where
    Counted : Event → Type 0
    Counted event =
        replies (at e.moment event ∷ before)
        ≡ answered_below (asks (at e.moment event ∷ before)) (at e.moment event ∷ before)

    go : (event : Event) → IsTrue (in_order event before) → IsTrue (is_first_reply event before) →
        replies before ≡ answered_below (asks before) before → Counted event
    go (Event.Ask ask) i f ih =
        ih
        ∙ sym
        (below-quiet before e.moment (Event.Ask ask) refl (suc (asks before)) ∙ ask-below before l.1 (asks before) refl)
        ∙ ap (λ n. answered_below n (at e.moment (Event.Ask ask) ∷ before)) (next (asks before))
    go (Event.Reply reply) i f ih =
        let one : answered_below (asks before) (at e.moment (Event.Reply reply) ∷ before)
        ≡ answered_below (asks before) before + 1
        = below-one before e.moment reply (not-true _ f) (asks before) (below-asked before l.1 reply.req.0 i) in
        ap (λ n. n + 1) ih ∙ sym one
    go (Event.Device x) i f ih = ih ∙ sym (below-quiet before e.moment (Event.Device x) refl (asks before))
    go (Event.Gone x) i f ih = ih ∙ sym (below-quiet before e.moment (Event.Gone x) refl (asks before))
    go (Event.Level x) i f ih = ih ∙ sym (below-quiet before e.moment (Event.Level x) refl (asks before))
    go (Event.LevelGone x) i f ih = ih ∙ sym (below-quiet before e.moment (Event.LevelGone x) refl (asks before))
    go (Event.Agent x) i f ih = ih ∙ sym (below-quiet before e.moment (Event.Agent x) refl (asks before))
    go (Event.Exit x) i f ih = ih ∙ sym (below-quiet before e.moment (Event.Exit x) refl (asks before))
    go Event.Pass i f ih = ih ∙ sym (below-quiet before e.moment Event.Pass refl (asks before))
    go (Event.Confirm x) i f ih = ih ∙ sym (below-quiet before e.moment (Event.Confirm x) refl (asks before))
    go (Event.Refused x) i f ih = ih ∙ sym (below-quiet before e.moment (Event.Refused x) refl (asks before))
    go (Event.Start x) i f ih = ih ∙ sym (below-quiet before e.moment (Event.Start x) refl (asks before))

some-more : (x y : Option Asked) → is_some x ≡ true → is_some (or_here x y) ≡ true
some-more None y f = cc
some-more (Some x) None f = refl
some-more (Some x) (Some y) f = refl

some-here : (x : Option Asked) (y : Asked) → is_some (or_here x (Some y)) ≡ true
some-here None y = refl
some-here (Some x) y = refl

-- each request of a number below the next one was asked
pub asked-below : (h : History) → Lawful h → (r : ℕ) → r < asks h → is_some (asked r h) ≡ true
asked-below [] l r le = absurd (omega (arith, le))
asked-below (e ∷ before) l r le =
    go e.event (in_order-of e.moment e.event before l.0.ordered) le (asked-below before l.1 r)
  where
    go : (event : Event) → IsTrue (in_order event before) → r < asks (at e.moment event ∷ before) →
        (r < asks before → is_some (asked r before) ≡ true) →
        is_some (or_here (asked r before) (asked_here r e.moment before event)) ≡ true
    go (Event.Ask ask) i k ih = this (r == ask.req.0) refl
      where
        new : ask.req.0 ≡ asks before
        new = eqb-true ask.req.0 (asks before) (and-left _ _ (and-left _ _ (and-left _ _ (and-left _ _ i))))

        this : (b : Bool) → (r == ask.req.0) ≡ b →
            is_some (or_here (asked r before) (cond b (Some (asked_of e.moment before ask)) None)) ≡ true
        this true e = some-here (asked r before) _
        this false e = some-more (asked r before) None (ih (less r ask.req.0 (asks before) k e new))
    go _ i k ih = some-more (asked r before) None (ih k)
