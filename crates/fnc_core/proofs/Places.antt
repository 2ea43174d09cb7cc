-- The places of the queue: an operation that has none has one left, and what changes one operation's item keeps them.
use Rattle.std.proofs.Common.{
  ℕ,
  List,
  [],
  ◌∷◌,
  Bool,
  true,
  false,
  ◌≡◌,
  ◌+◌,
  ◌≤◌,
  ◌<◌,
  ◌==◌,
  ◌||◌,
  refl,
  ap,
  ap₂,
  sym,
  ◌∙◌,
  subst,
  arith,
  Option,
  is_some,
  cond,
  length,
  eqb-true,
  false-eqb,
  ne_eqb,
}
use Rattle.std.specs.List.{list_any, AllByRecursion, AllZip}
use Rattle.fnc_journal.specs.History.{History}
use Rattle.fnc_journal.specs.Missing.{has_any}
use Rattle.fnc_journal.specs.Slots.{Operation}
use Rattle.fnc_journal.specs.Operations.{open_operations, unanswered, is_open}
use Rattle.fnc_journal.specs.Owed.{owed, owed_by, owed_by_all}
use Rattle.fnc_journal.specs.Startable.{alive_runs}
use Rattle.fnc_journal.specs.Lawful.{Lawful}
use Rattle.fnc_ops.specs.Kept.{Kept}
use Rattle.fnc_records.specs.KeptOperation.{KeptOperation}
use Rattle.fnc_ops.specs.OpsRecords.{is_of}
use Rattle.fnc_ops.specs.Stands.{Stands, StandsFor}
use Rattle.fnc_ops.proofs.Apart.{AreApart}
use Rattle.fnc_ops.proofs.OpenOperations.{number_of, each-open, open-apart}
use Rattle.fnc_queue.specs.declared.waiting.Waiting.{Waiting}
use Rattle.fnc_queue.specs.Items.{is_waiting, Changes}
use Rattle.fnc_queue.specs.Queued.{Queued}
use Rattle.fnc_core.specs.Wanted.{wanted, held, HasPlaces, one_if_held}
use Rattle.fnc_core.proofs.Items.{wanted-none, changed-own, changed-other}

-- the number of a record
abbrev pub number : KeptOperation → ℕ
number r = r.req

-- each operation owes a reply at least
owes-one : (h : History) (o : Operation) → is_open o.req h ≡ true → 1 ≤ owed_by h o
owes-one h o e = go (unanswered o.req h) refl e
  where
    go : (rs : List ℕ) → unanswered o.req h ≡ rs → has_any rs ≡ true → 1 ≤ owed_by h o
    go [] f k = cc
    go (r ∷ rs) f k = let more : length (unanswered o.req h) ≡ length (r ∷ rs) = ap length f in omega (arith, more)

owes-all : (h : History) (os : List Operation) → AllByRecursion (λ (o : Operation). is_open o.req h ≡ true) os →
    length os ≤ owed_by_all h os
owes-all h [] a = omega arith
owes-all h (o ∷ os) a =
    let one : 1 ≤ owed_by h o = owes-one h o a.0 in
    let rest : length os ≤ owed_by_all h os = owes-all h os a.1 in
    omega (arith, one, rest)

-- as many records as operations
zip-length : {A B : Type 0} (R : A → B → Type 0) (xs : List A) (ys : List B) → AllZip R xs ys → length xs ≡ length ys
zip-length R [] [] z = refl
zip-length R [] (y ∷ ys) z = absurd z
zip-length R (x ∷ xs) [] z = absurd z
zip-length R (x ∷ xs) (y ∷ ys) z = let rest : length xs ≡ length ys = zip-length R xs ys z.1 in omega (arith, rest)

-- no more have items than there are, and less where one has none
held-few : (os : List KeptOperation) (items : List Waiting) → held os items ≤ length os
held-few [] items = omega arith
held-few (o ∷ os) items = go (is_waiting o.req items) (held-few os items)
  where
    go : (b : Bool) → held os items ≤ length os → cond b (held os items + 1) (held os items) ≤ length (o ∷ os)
    go true k = omega (arith, k)
    go false k = omega (arith, k)

held-less : (req : ℕ) (os : List KeptOperation) (items : List Waiting) → list_any (is_of req) os ≡ true →
    is_waiting req items ≡ false → held os items + 1 ≤ length os
held-less req [] items f e = cc
held-less req (o ∷ os) items f e = go (o.req == req) refl f (λ k. held-less req os items k e)
  where
    rest : held os items ≤ length os
    rest = held-few os items

    here : (b : Bool) → is_waiting o.req items ≡ b → b ≡ false → held (o ∷ os) items + 1 ≤ length (o ∷ os)
    here true k g = cc
    here false k g = let same : held (o ∷ os) items ≡ held os items = rw k refl in omega (arith, same, rest)

    there : (b : Bool) → held os items + 1 ≤ length os →
        cond b (held os items + 1) (held os items) + 1 ≤ length (o ∷ os)
    there true k = omega (arith, k)
    there false k = omega (arith, k)

    go : (b : Bool) → (o.req == req) ≡ b → (b || list_any (is_of req) os) ≡ true →
        (list_any (is_of req) os ≡ true → held os items + 1 ≤ length os) → held (o ∷ os) items + 1 ≤ length (o ∷ os)
    go true k g ih = here (is_waiting o.req items) refl (ap (λ n. is_waiting n items) (eqb-true o.req req k) ∙ e)
    go false k g ih = there (is_waiting o.req items) (ih g)

-- an open operation without an item has a place left
pub place-left : (h : History) (v : Kept) (q : Queued) (req : ℕ) → StandsFor v h → HasPlaces h v q →
    list_any (is_of req) v.operations ≡ true → is_waiting req q.waiting ≡ false → 0 < q.spare
place-left h v q req s p f e =
    let owes : length (open_operations h) ≤ owed_by_all h (open_operations h) =
    owes-all h (open_operations h) (each-open h) in
    let many : length v.operations ≡ length (open_operations h) =
    zip-length (Stands h) v.operations (open_operations h) s.each in
    let less : held v.operations q.waiting + 1 ≤ length v.operations = held-less req v.operations q.waiting f e in
    let places : length (alive_runs h) + owed_by_all h
    (open_operations h) ≤ q.spare + held v.operations q.waiting + length (alive_runs h) = p in
    omega (arith, owes, many, less, places)

-- so has one that waits for a try
pub place-wanted : (h : History) (v : Kept) (q : Queued) (req : ℕ) → StandsFor v h → HasPlaces h v q →
    is_some (wanted h req v) ≡ true → is_waiting req q.waiting ≡ false → 0 < q.spare
place-wanted h v q req s p w e = go (list_any (is_of req) v.operations) refl
  where
    go : (b : Bool) → list_any (is_of req) v.operations ≡ b → 0 < q.spare
    go true k = place-left h v q req s p k e
    go false k = let none : is_some (wanted h req v) ≡ false = ap is_some (wanted-none h req v k) in cc

-- where one operation's item changes, as many others have one
pub held-others : (req : ℕ) (new : Option Waiting) (before after : List Waiting) → Changes req new before after →
    (os : List KeptOperation) →
    list_any (is_of req) os ≡ false → held os after ≡ held os before
held-others req new before after c [] f = refl
held-others req new before after c (o ∷ os) f = go (o.req == req) refl f (λ k. held-others req new before after c os k)
  where
    go : (b : Bool) → (o.req == req) ≡ b → (b || list_any (is_of req) os) ≡ false →
        (list_any (is_of req) os ≡ false → held os after ≡ held os before) → held (o ∷ os) after ≡ held (o ∷ os) before
    go true k g ih = cc
    go false k g ih =
        let same : is_waiting o.req after ≡ is_waiting o.req before =
        changed-other req new before after c o.req (ne_eqb req o.req (λ e. false-eqb o.req req (sym k) (sym e))) in
        ap₂ (λ b n. cond b (n + 1) n) same (ih g)

-- and those that have one, with the places that are left, are as many
pub held-all : (req : ℕ) (new : Option Waiting) (before after : List Waiting) → Changes req new before after →
    (os : List KeptOperation) →
    AreApart number os → list_any (is_of req) os ≡ true →
    held os after + one_if_held req before ≡ held os before + one_if_held req after
held-all req new before after c [] a f = cc
held-all req new before after c (o ∷ os) a f = go (o.req == req) refl f (λ k. held-all req new before after c os a.1 k)
  where
    none : (os : List KeptOperation) → AllByRecursion (λ (p : KeptOperation). (p.req == o.req) ≡ false) os →
        o.req ≡ req → list_any (is_of req) os ≡ false
    none [] k e = refl
    none (p ∷ ps) k e = let other : (p.req == req) ≡ false = ap (λ n. p.req == n) (sym e)
        ∙ k.0 in rw other (none ps k.1 e)

    here : held os after ≡ held os before → (b d : Bool) → is_waiting req before ≡ b → is_waiting req after ≡ d →
        cond d (held os after + 1) (held os after) + cond b 1 0 ≡ cond b (held os before + 1)
        (held os before) + cond d 1 0
    here k true true e g = omega (arith, k)
    here k true false e g = omega (arith, k)
    here k false true e g = omega (arith, k)
    here k false false e g = omega (arith, k)

    there : (b : Bool) → held os after + one_if_held req before ≡ held os before + one_if_held req after →
        cond b (held os after + 1) (held os after) + one_if_held req before ≡ cond b (held os before + 1)
        (held os before) + one_if_held req after
    there true k = omega (arith, k)
    there false k = k

    go : (b : Bool) → (o.req == req) ≡ b → (b || list_any (is_of req) os) ≡ true →
        (list_any (is_of req) os ≡ true → held os after + one_if_held req before ≡ held os before + one_if_held req
        after) →
        held (o ∷ os) after + one_if_held req before ≡ held (o ∷ os) before + one_if_held req after
    go true k g ih =
        let own : o.req ≡ req = eqb-true o.req req k in
        let rest : held os after ≡ held os before = held-others req new before after c os (none os a.0 own) in
        subst (λ n. cond (is_waiting n after) (held os after + 1) (held os after) + one_if_held req before ≡ cond
        (is_waiting n before) (held os before + 1) (held os before) + one_if_held req after) (sym own)
        (here rest (is_waiting req before) (is_waiting req after) refl refl)
    go false k g ih =
        let same : is_waiting o.req after ≡ is_waiting o.req before =
        changed-other req new before after c o.req (ne_eqb req o.req (λ e. false-eqb o.req req (sym k) (sym e))) in
        ap (λ b. cond b (held os after + 1) (held os after) + one_if_held req before) same
        ∙ there (is_waiting o.req before) (ih g)

-- the records of the open operations have numbers of their own
pub records-apart : (h : History) (v : Kept) → Lawful h → StandsFor v h → AreApart number v.operations
records-apart h v l s = go v.operations (open_operations h) s.each (open-apart h l)
  where
    each : (n m : ℕ) → n ≡ m → (rs : List KeptOperation) (os : List Operation) → AllZip (Stands h) rs os →
        AllByRecursion (λ (o : Operation). (o.req == m) ≡ false) os →
        AllByRecursion (λ (r : KeptOperation). (r.req == n) ≡ false) rs
    each n m e [] [] z a = tt
    each n m e [] (o ∷ os) z a = absurd z
    each n m e (r ∷ rs) [] z a = absurd z
    each n m e (r ∷ rs) (o ∷ os) z a = (ap₂ (λ x y. x == y) z.0.operation.req e ∙ a.0, each n m e rs os z.1 a.1)

    go : (rs : List KeptOperation) (os : List Operation) → AllZip (Stands h) rs os → AreApart number_of os →
        AreApart number rs
    go [] [] z a = tt
    go [] (o ∷ os) z a = absurd z
    go (r ∷ rs) [] z a = absurd z
    go (r ∷ rs) (o ∷ os) z a = (each r.req o.req z.0.operation.req rs os z.1 a.0, go rs os z.1 a.1)

-- the queue has its places after an operation's item has become the one that it wants
pub places-requeued : (h : History) (v : Kept) (q new : Queued) (req : ℕ) → AreApart number v.operations →
    HasPlaces h v q → Changes req (wanted h req v) q.waiting new.waiting →
    new.spare + one_if_held req new.waiting ≡ q.spare + one_if_held req q.waiting → HasPlaces h v new
places-requeued h v q new req a p c e = go (list_any (is_of req) v.operations) refl
  where
    before : owed h ≤ q.spare + held v.operations q.waiting + length (alive_runs h)
    before = p

    go : (b : Bool) → list_any (is_of req) v.operations ≡ b →
        owed h ≤ new.spare + held v.operations new.waiting + length (alive_runs h)
    go true k =
        let all : held v.operations new.waiting + one_if_held req q.waiting ≡ held v.operations q.waiting + one_if_held
        req new.waiting = held-all req (wanted h req v) q.waiting new.waiting c v.operations a k in
        omega (arith, before, all, e)
    go false k =
        let none : one_if_held req new.waiting ≡ 0 =
        ap (λ b. cond b 1 0) (changed-own req (wanted h req v) q.waiting new.waiting c
        ∙ ap is_some (wanted-none h req v k)) in
        let same : held v.operations new.waiting ≡ held v.operations q.waiting =
        held-others req (wanted h req v) q.waiting new.waiting c v.operations k in
        omega (arith, before, none, same, e)
