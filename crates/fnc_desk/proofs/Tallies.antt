-- Counts of entries, and the runs that they leave alive.
use Rattle.std.proofs.Common.{
  ℕ,
  List,
  [],
  ◌∷◌,
  ◌++◌,
  Bool,
  true,
  false,
  ◌≡◌,
  ◌≤◌,
  ◌<◌,
  ◌+◌,
  ◌==◌,
  ◌&&◌,
  not,
  cond,
  refl,
  sym,
  ap,
  ◌∙◌,
  Option,
  Some,
  None,
  IsTrue,
  is_some,
  arith,
  length,
  ltb,
  ltb-true,
  eqb-true,
  false-eqb,
  length-append,
}
use Rattle.std.specs.Prelude.{filter}
use Rattle.fnc_journal.specs.declared.entry.Entry.{Entry}
use Rattle.fnc_journal.specs.declared.event.Event.{Event}
use Rattle.fnc_journal.specs.History.{History}
use Rattle.fnc_journal.specs.Found.{asks, replies, starts, started, has_exit, is_ask, is_reply, is_start}
use Rattle.fnc_journal.specs.Prefix.{prefix}
use Rattle.fnc_journal.specs.Startable.{Begun, begun_runs, alive_runs}
use Rattle.fnc_journal.specs.Lawful.{Lawful, exit_of, in_order}
use Rattle.fnc_journal.proofs.Fresh.{fresh_start}
use Rattle.fnc_journal.proofs.Lawfulness.{and-left, and-right, in_order-of}
use Rattle.fnc_journal.proofs.Running.{alive_runs-start, alive_runs-exit}
use Rattle.fnc_desk.specs.Tallied.{IsBelow, exits, is_exit, tallied, tally_of}

pub tally-more : (m : ℕ) (event : Event) (h : History) →
    tallied (tally_of h) event ≡ tally_of (record { moment = m; event = event } ∷ h)
tally-more m (Event.Ask ask) h = refl
tally-more m (Event.Reply reply) h = refl
tally-more m (Event.Start start) h = refl
tally-more m (Event.Exit ended) h = refl
tally-more m _ h = refl

one-more : (b : Bool) (n : ℕ) (e : Entry) (h : History) → n ≤ length h → cond b (n + 1) n ≤ length (e ∷ h)
one-more true n e h k = omega arith
one-more false n e h k = omega arith

pub tally-most : (h : History) (n : ℕ) → length h < n → IsBelow n (tally_of h)
tally-most h n l = (omega (arith, a h, l), omega (arith, r h, l), omega (arith, s h, l), omega (arith, x h, l))
  where
    a : (h : History) → asks h ≤ length h
    a [] = omega arith
    a (e ∷ before) = one-more (is_ask e.event) (asks before) e before (a before)

    r : (h : History) → replies h ≤ length h
    r [] = omega arith
    r (e ∷ before) = one-more (is_reply e.event) (replies before) e before (r before)

    s : (h : History) → starts h ≤ length h
    s [] = omega arith
    s (e ∷ before) = one-more (is_start e.event) (starts before) e before (s before)

    x : (h : History) → exits h ≤ length h
    x [] = omega arith
    x (e ∷ before) = one-more (is_exit e.event) (exits before) e before (x before)

abbrev bit : Bool → ℕ
bit true = 1
bit false = 0

-- how many runs of a number there are
abbrev count : ℕ → List Begun → ℕ
count r [] = 0
count r (b ∷ bs) = cond (b.run == r) (count r bs + 1) (count r bs)

count-append : (r : ℕ) (bs : List Begun) (b : Begun) → count r (bs ++ b ∷ []) ≡ count r bs + bit (b.run == r)
count-append r [] b = go (b.run == r)
  where
    go : (t : Bool) → cond t (0 + 1) 0 ≡ 0 + bit t
    go true = refl
    go false = refl
count-append r (c ∷ bs) b = go (c.run == r) (count-append r bs b)
  where
    go : (t : Bool) → count r (bs ++ b ∷ []) ≡ count r bs + bit (b.run == r) →
        cond t (count r (bs ++ b ∷ []) + 1) (count r (bs ++ b ∷ [])) ≡ cond t (count r bs + 1) (count r bs)
        + bit (b.run == r)
    go true e = omega (arith, e)
    go false e = e

-- each number below the next has one run, each other none
record Once (r : ℕ) (h : History) : Type 0 where
  known : r < starts h → count r (begun_runs h) ≡ 1
  fresh : starts h ≤ r → count r (begun_runs h) ≡ 0

once : (h : History) → Lawful h → (r : ℕ) → Once r h
once [] l r = record { known = λ k. absurd (omega arith); fresh = λ k. refl }
once (e ∷ before) l r = go e.event (in_order-of e.moment e.event before l.0.ordered) (once before l.1 r)
  where
    go : (event : Event) → IsTrue (in_order event before) → Once r before →
        Once r (record { moment = e.moment; event = event } ∷ before)
    go (Event.Start start) i ih = begun (start.run.0 == r) refl
      where
        new : start.run.0 ≡ starts before
        new = eqb-true start.run.0 (starts before) (and-left _ _ (and-left _ _ i))

        counted : count r (begun_runs before ++ record { run = start.run.0; reg = start.reg.0 } ∷ []) ≡ count r (begun_runs before) + bit (start.run.0 == r)
        counted = count-append r (begun_runs before) (record { run = start.run.0; reg = start.reg.0 })

        begun : (b : Bool) → (start.run.0 == r) ≡ b →
            Once r (record { moment = e.moment; event = Event.Start start } ∷ before)
        begun true k =
            let same : start.run.0 ≡ r = eqb-true start.run.0 r k in
            let none : count r (begun_runs before) ≡ 0 = ih.fresh (omega (arith, same, new)) in
            let one : bit (start.run.0 == r) ≡ 1 = ap (bit) k in
            record { known = λ _. omega (arith, counted, none, one); fresh = λ (f : starts before + 1 ≤ r). absurd (omega (arith, same, new, f)) }
        begun false k =
            let other : start.run.0 ≡ r → ⊥ = false-eqb start.run.0 r (sym k) in
            let nil : bit (start.run.0 == r) ≡ 0 = ap (bit) k in
            record {
              known = λ (f : r < starts before + 1). let less : r < starts before = omega (arith, f, new, other) in omega (arith, counted, ih.known less, nil);
              fresh = λ (f : starts before + 1 ≤ r). omega (arith, counted, ih.fresh (omega (arith, f)), nil);
            }
    go _ i ih = record { known = ih.known; fresh = ih.fresh }

-- those that pass a test which one number passes
count-kept : (r : ℕ) (p : ℕ → Bool) (bs : List Begun) → p r ≡ true →
    count r (filter (λ (b : Begun). p b.run) bs) ≡ count r bs
count-kept r p [] e = refl
count-kept r p (b ∷ bs) e = go (p b.run) refl (b.run == r) refl (count-kept r p bs e)
  where
    go : (t : Bool) → p b.run ≡ t → (u : Bool) → (b.run == r) ≡ u →
        count r (filter (λ (b : Begun). p b.run) bs) ≡ count r bs →
        count r (cond t (b ∷ filter (λ (b : Begun). p b.run) bs) (filter (λ (b : Begun). p b.run) bs))
        ≡ cond u (count r bs + 1) (count r bs)
    go true k true f ih = rw f (ap (λ n. n + 1) ih)
    go true k false f ih = rw f ih
    go false k true f ih = let pass : p b.run ≡ true = ap p (eqb-true b.run r f) ∙ e in cc
    go false k false f ih = ih

-- those that are not of a number
count-others : (r : ℕ) (bs : List Begun) → length (filter (λ (b : Begun). not (b.run == r)) bs) + count r bs ≡ length bs
count-others r [] = refl
count-others r (b ∷ bs) = go (b.run == r) (count-others r bs)
  where
    go : (t : Bool) → length (filter (λ (b : Begun). not (b.run == r)) bs) + count r bs ≡ length bs →
        length (cond (not t) (b ∷ filter (λ (b : Begun). not (b.run == r)) bs) (filter (λ (b : Begun). not (b.run == r)) bs)) + cond t (count r bs + 1) (count r bs) ≡ length (b ∷ bs)
    go true e = omega (arith, e)
    go false e = omega (arith, e)

-- an exit ends one of the runs that are alive
alive-less : (h : History) → Lawful h → (r : ℕ) → IsTrue (is_some (started r h) && not (has_exit r h)) →
    length (filter (λ (b : Begun). not (b.run == r)) (alive_runs h)) + 1 ≡ length (alive_runs h)
alive-less h l r a =
    let less : r < starts h = below (λ k. fresh_start h l r k) in
    let kept : count r (alive_runs h) ≡ count r (begun_runs h) =
    count-kept r (λ n. not (has_exit n h)) (begun_runs h)
    (and-right (is_some (started r h)) (not (has_exit r h)) a) in
    let one : count r (alive_runs h) ≡ 1 = kept ∙ (once h l r).known less in
    omega (arith, count-others r (alive_runs h), one)
  where
    none : started r h ≡ None → ⊥
    none e = absent (started r h) e (and-left _ _ a)
      where
        absent : {X : Type 0} (x : Option X) → x ≡ None → IsTrue (is_some x) → ⊥
        absent None e f = cc
        absent (Some x) e f = cc

    below : (starts h ≤ r → started r h ≡ None) → r < starts h
    below f = split (λ k. none (f k))
      where
        split : (starts h ≤ r → ⊥) → r < starts h
        split g = omega (arith, g)

-- each start makes a run alive and each exit ends one
pub alive-counted : (h : History) → Lawful h → starts h ≡ length (alive_runs h) + exits h
alive-counted [] l = refl
alive-counted (e ∷ before) l =
    go e.event (in_order-of e.moment e.event before l.0.ordered) l.0.exits (alive-counted before l.1)
  where
    go : (event : Event) → IsTrue (in_order event before) → IsTrue (exit_of event before) →
        starts before ≡ length (alive_runs before) + exits before →
        starts (record { moment = e.moment; event = event } ∷ before)
        ≡ length (alive_runs (record { moment = e.moment; event = event } ∷ before))
        + exits (record { moment = e.moment; event = event } ∷ before)
    go (Event.Start start_) i x ih =
        let new : start_.run.0 ≡ starts before =
        eqb-true start_.run.0 (starts before) (and-left _ _ (and-left _ _ i)) in
        let more =
        ap length (alive_runs-start before l.1 e.moment start_ new)
        ∙ length-append (alive_runs before) (record { run = start_.run.0; reg = start_.reg.0 } ∷ []) in
        omega (arith, ih, more)
    go (Event.Exit ended) i x ih =
        let fewer = ap length (alive_runs-exit before e.moment ended) in
        omega (arith, ih, fewer, alive-less before l.1 ended.run.0 x)
    go _ i x ih = ih

-- a prefix is no longer than its number says
pub prefix-most : (h : History) (n : ℕ) → length (prefix n h) ≤ n
prefix-most [] n = omega arith
prefix-most (e ∷ before) n = go (ltb (length before) n) refl (prefix-most before n)
  where
    go : (b : Bool) → ltb (length before) n ≡ b → length (prefix n before) ≤ n →
        length (cond b (e ∷ before) (prefix n before)) ≤ n
    go true k ih = let less : length before < n = ltb-true (length before) n k in omega (arith, less)
    go false k ih = ih
