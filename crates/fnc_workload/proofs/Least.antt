-- The least run that is alive: found behind those that have ended, and left as it is by replies.
use Rattle.std.proofs.Common.{ℕ, zero, suc, [], ◌∷◌, ◌++◌, Bool, true, false, ◌≡◌, ◌≤◌, ◌<◌, ◌+◌, ◌-◌, ◌==◌, ◌&&◌, ◌||◌, not, cond, refl, sym, ap, ap₂, ◌∙◌, Option, Some, None, IsTrue, is_some, arith, inl, inr, length, eq-eqb, eqb-true, false-eqb, ltb}
use Rattle.std.proofs.lemmas.Bool.{ltb-false, ltb-true}
use Rattle.fnc_journal.specs.declared.entry.Entry.{Entry}
use Rattle.fnc_journal.specs.declared.event.Event.{Event}
use Rattle.fnc_journal.specs.History.{History}
use Rattle.fnc_journal.specs.Missing.{or_here}
use Rattle.fnc_journal.specs.Found.{has_exit, is_exit_of, is_reply, is_start, started, started_here, starts}
use Rattle.fnc_journal.specs.Lawful.{Lawful, in_order}
use Rattle.fnc_journal.specs.Served.{AreReplies}
use Rattle.fnc_journal.specs.Startable.{is_alive}
use Rattle.fnc_journal.proofs.Fresh.{fresh_start}
use Rattle.fnc_journal.proofs.Lawfulness.{and-left, in_order-of}
use Rattle.fnc_workload.specs.Ended.{AreEnded, IsPast}
use Rattle.fnc_workload.specs.Lines.{least_alive, least_from}

pub is_some-or : {X : Type 0} (x y : Option X) → is_some x ≡ true → is_some (or_here x y) ≡ true
is_some-or (Some x) None q = refl
is_some-or (Some x) (Some y) q = refl
is_some-or None y q = cc

-- each run below the number of the next one was started
pub was_started : (h : History) → Lawful h → (n : ℕ) → n < starts h → is_some (started n h) ≡ true
was_started [] l n k = absurd (omega (arith, k))
was_started (e ∷ before) l n k =
    go e.event (in_order-of e.moment e.event before l.0.ordered) k (λ k. was_started before l.1 n k)
  where
    go : (event : Event) → IsTrue (in_order event before) →
        n < starts (record { moment = e.moment; event = event } ∷ before) →
        (n < starts before → is_some (started n before) ≡ true) →
        is_some (or_here (started n before) (started_here n event)) ≡ true
    go (Event.Start start) i k ih = pick (n == starts before) refl
      where
        run : start.run.0 ≡ starts before
        run = eqb-true start.run.0 (starts before) (and-left _ _ (and-left _ _ i))

        fresh : started n before ≡ None → n ≡ starts before →
            is_some (or_here (started n before) (started_here n (Event.Start start))) ≡ true
        fresh none is = let same : (n == start.run.0) ≡ true = eq-eqb n start.run.0 (is ∙ sym run) in rw (none, same) refl

        pick : (b : Bool) → (n == starts before) ≡ b →
            is_some (or_here (started n before) (started_here n (Event.Start start))) ≡ true
        pick true q = let is = eqb-true n (starts before) q in fresh (fresh_start before l.1 n (omega (arith, is))) is
        pick false q =
            let other = false-eqb n (starts before) (sym q) in
            let less : n < starts before + 1 = k in
            is_some-or (started n before) (started_here n (Event.Start start)) (ih (omega (arith, less, other)))
    go _ i k ih = is_some-or (started n before) None (ih k)

and-false : (b c : Bool) → c ≡ true → (b && not c) ≡ false
and-false true c q = rw q refl
and-false false c q = refl

ended-dead : (run : ℕ) (h : History) → has_exit run h ≡ true → is_alive run h ≡ false
ended-dead run h q = and-false (is_some (started run h)) (has_exit run h) q

-- runs that have ended are passed over
past-ended : (k n from : ℕ) (h : History) → ((run : ℕ) → from ≤ run → run < from + k → has_exit run h ≡ true) →
    least_from (k + n) from h ≡ least_from n (from + k) h
past-ended zero n from h ended =
    let none : zero + n ≡ n = omega arith in
    let here : from ≡ from + zero = omega arith in
    ap₂ (λ x y. least_from x y h) none here
past-ended (suc k) n from h ended =
    let more : suc k + n ≡ suc (k + n) = omega arith in
    let there : from + 1 + k ≡ from + suc k = omega arith in
    ap (λ x. least_from x from h) more
    ∙ ap (λ b. cond b (Some from) (least_from (k + n) (from + 1) h))
    (ended-dead from h (ended from (omega arith) (omega arith)))
    ∙ past-ended k n (from + 1) h (λ run a b. ended run (omega (arith, a)) (omega (arith, b)))
    ∙ ap (λ y. least_from n y h) there

one-more : (b : Bool) (n : ℕ) (e : Entry) (h : History) → n ≤ length h → cond b (n + 1) n ≤ length (e ∷ h)
one-more true n e h k = omega arith
one-more false n e h k = omega arith

starts-length : (h : History) → starts h ≤ length h
starts-length [] = omega arith
starts-length (e ∷ before) = one-more (is_start e.event) (starts before) e before (starts-length before)

-- no run is started that has a number to come
pub unstarted-dead : (h : History) → Lawful h → (n : ℕ) → starts h ≤ n → is_alive n h ≡ false
unstarted-dead h l n k = rw (fresh_start h l n k) refl

-- behind runs that have ended, the first that has not is the least that is alive, or none is
pub least_is : (h : History) → Lawful h → (n : ℕ) → AreEnded n h → IsPast n h →
    least_alive h ≡ cond (is_alive n h) (Some n) None
least_is h l n ended past = pick (ltb n (starts h)) refl
  where
    begun : n < starts h → is_some (started n h) ≡ true
    begun less = was_started h l n less

    skipped : (k : ℕ) → k ≤ n → k ≤ starts h → least_alive h ≡ least_from (starts h - k) k h
    skipped k few some =
        ap (λ m. least_from m 0 h) (let whole : starts h ≡ k + (starts h - k) = omega (arith, some) in whole)
        ∙ past-ended k (starts h - k) 0 h (λ run a b. ended run (omega (arith, b, few)))
        ∙ (let at_k : 0 + k ≡ k = omega arith in ap (λ m. least_from (starts h - k) m h) at_k)

    living : n < starts h → has_exit n h ≡ false → is_alive n h ≡ true
    living less lives = rw (begun less, lives) refl

    at : (m : ℕ) → 1 ≤ m → is_alive n h ≡ true → least_from m n h ≡ Some n
    at zero k q = absurd (omega (arith, k))
    at (suc m) k q = rw q refl

    pick : (b : Bool) → ltb n (starts h) ≡ b → least_alive h ≡ cond (is_alive n h) (Some n) None
    pick true q =
        let less = ltb-true n (starts h) q in
        skipped n (omega arith) (omega (arith, less)) ∙ elim past [
          | inl lives ↦ at (starts h - n) (omega (arith, less)) (living less lives) ∙ sym (ap (λ b. cond b (Some n) None) (living less lives))
          | inr over ↦ (let most = starts-length h in absurd (omega (arith, less, most, over)))
        ]
    pick false q =
        let more = ltb-false n (starts h) q in
        skipped (starts h) more (omega arith)
        ∙ (let none : starts h - starts h ≡ 0 = omega arith in ap (λ m. least_from m (starts h) h) none)
        ∙ sym (ap (λ b. cond b (Some n) None) (unstarted-dead h l n more))

or_here-none : {X : Type 0} (x : Option X) → or_here x None ≡ x
or_here-none x = refl

-- a reply neither starts a run nor ends one
least-reply : (m : ℕ) (event : Event) (h : History) → is_reply event ≡ true →
    least_alive (record { moment = m; event = event } ∷ h) ≡ least_alive h
least-reply m (Event.Reply reply) h q = same (starts h) 0
  where
    same : (n from : ℕ) →
        least_from n from (record { moment = m; event = Event.Reply reply } ∷ h) ≡ least_from n from h
    same zero from = refl
    same (suc n) from = ap (cond (is_alive from h) (Some from)) (same n (from + 1))
least-reply m (Event.Device device) h q = cc
least-reply m (Event.Gone reg) h q = cc
least-reply m (Event.Level set) h q = cc
least-reply m (Event.LevelGone cleared) h q = cc
least-reply m (Event.Agent described) h q = cc
least-reply m (Event.Ask ask) h q = cc
least-reply m (Event.Exit ended) h q = cc
least-reply m (Event.Confirm confirmation) h q = cc
least-reply m (Event.Refused refusal) h q = cc
least-reply m (Event.Start start) h q = cc
least-reply m Event.Pass h q = cc

pub least-replies : (m : ℕ) (rs h : History) → AreReplies m rs → least_alive (rs ++ h) ≡ least_alive h
least-replies m [] h a = refl
least-replies m (r ∷ rs) h a = least-reply r.moment r.event (rs ++ h) a.0.0 ∙ least-replies m rs h a.1

-- what has ended stays so
pub ended-more : (n : ℕ) (xs h : History) → AreEnded n h → AreEnded n (xs ++ h)
ended-more n [] h a = a
ended-more n (x ∷ xs) h a = λ run k. or-right (is_exit_of run x.event) (has_exit run (xs ++ h)) (ended-more n xs h a run k)
  where
    or-right : (b c : Bool) → c ≡ true → (b || c) ≡ true
    or-right true c q = refl
    or-right false c q = q
