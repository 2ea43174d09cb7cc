-- The operation to which an answer is due first: the reply to the least request that waits for it is lawful, and
-- while it stays open it is still the first.
use Rattle.std.proofs.Common.{
  ℕ,
  List,
  [],
  ◌∷◌,
  Bool,
  true,
  false,
  ◌≡◌,
  ◌==◌,
  ◌||◌,
  not,
  refl,
  ap,
  sym,
  ◌∙◌,
  subst,
  Option,
  Some,
  None,
  cond,
  is_some,
  eq-eqb,
  eqb-true,
  le-leb,
}
use Rattle.std.specs.Prelude.{find, filter, option_map, option_and_then}
use Rattle.std.specs.List.{AllByRecursion, list_any}
use Rattle.fnc_journal.specs.declared.limits.TheConstants.{GREATEST_MOMENT}
use Rattle.fnc_journal.specs.declared.entry.Answer.{Answer}
use Rattle.fnc_journal.specs.declared.event.Event.{Event}
use Rattle.fnc_journal.specs.declared.entry.Req.{Req}
use Rattle.fnc_journal.specs.History.{History}
use Rattle.fnc_journal.specs.Missing.{first_of, has_any}
use Rattle.fnc_journal.specs.Same.{same_answer}
use Rattle.fnc_journal.specs.Found.{Asked, asked, is_answered}
use Rattle.fnc_journal.specs.Slots.{Operation}
use Rattle.fnc_journal.specs.Operations.{
  first_due,
  due_to,
  is_due,
  is_open,
  open_operations,
  requests,
  settled,
  unanswered,
}
use Rattle.fnc_journal.specs.Lawful.{Lawful, LawfulEntry, Pending, pending, continues, last_moment}
use Rattle.fnc_journal.proofs.Each.{each-filter, found-each}
use Rattle.fnc_journal.proofs.LawfulSteps.{MayCome, same_answer-self, settled-none}
use Rattle.fnc_journal.proofs.Requests.{IsLed, requests-led, waiting-unanswered}
use Rattle.fnc_ops.specs.declared.ops.Due.{Due}
use Rattle.fnc_ops.specs.Stands.{IsFirstDue, next_of, reply_entry}
use Rattle.fnc_ops.proofs.OpenOperations.{each-open}
use Rattle.fnc_ops.proofs.StandsReplies.{open-reply}
use Rattle.fnc_core.specs.Between.{MayContinue}

-- what is found among those that are kept
pub find-filter : {X : Type 0} (p k : X → Bool) (xs : List X) (x : X) → find p xs ≡ Some x → k x ≡ true →
    find p (filter k xs) ≡ Some x
find-filter p k [] x f e = cc
find-filter {X} p k (y ∷ ys) x f e = go (p y) (k y) refl refl f (λ g. find-filter p k ys x g e)
  where
    go : (b c : Bool) → p y ≡ b → k y ≡ c → cond b (Some y) (find p ys) ≡ Some x →
        (find p ys ≡ Some x → find p (filter k ys) ≡ Some x) → find p (cond c (y ∷ filter k ys) (filter k ys)) ≡ Some x
    go true true i j g ih = rw i g
    go true false i j g ih = let same : y ≡ x = cc in absurd (true-false (k x) e (ap k (sym same) ∙ j))
      where
        true-false : (b : Bool) → b ≡ true → b ≡ false → ⊥
        true-false b u v = cc
    go false true i j g ih = rw i (ih g)
    go false false i j g ih = ih g

-- the operation that is due first is open
pub due-open : (h : History) (m : ℕ) (o : Operation) → first_due h m ≡ Some o → is_open o.req h ≡ true
due-open h m o f = found-each (λ (p : Operation). is_open p.req h ≡ true) (is_due h m) (open_operations h) o
    (each-open h) f

-- and is among those that are open
pub found-any : (q : Operation → Bool) (n : ℕ) (os : List Operation) (o : Operation) → find q os ≡ Some o → o.req ≡ n →
    list_any (λ (p : Operation). p.req == n) os ≡ true
found-any q n [] o f e = cc
found-any q n (p ∷ os) o f e = go (q p) f (λ g. found-any q n os o g e)
  where
    or-true : (b : Bool) → (b || true) ≡ true
    or-true true = refl
    or-true false = refl

    go : (b : Bool) → cond b (Some p) (find q os) ≡ Some o →
        (find q os ≡ Some o → list_any (λ (p : Operation). p.req == n) os ≡ true) →
        ((p.req == n) || list_any (λ (p : Operation). p.req == n) os) ≡ true
    go true g ih = let same : p ≡ o = cc in let here : (p.req == n) ≡ true =
        eq-eqb p.req n (ap (λ (x : Operation). x.req) same ∙ e) in rw here refl
    go false g ih = rw (ih g) (or-true (p.req == n))

-- its least request that waits is the next to be answered
pub next-among : (h : History) (n : ℕ) (os : List Operation) → list_any (λ (o : Operation). o.req == n) os ≡ true →
    option_and_then (λ (o : Operation). first_of (unanswered o.req h))
    (find (λ (o : Operation). o.req == n) os) ≡ first_of (unanswered n h)
next-among h n [] e = cc
next-among h n (o ∷ os) e = go (o.req == n) refl e (λ k. next-among h n os k)
  where
    go : (b : Bool) → (o.req == n) ≡ b → (b || list_any (λ (o : Operation). o.req == n) os) ≡ true →
        (list_any (λ (o : Operation). o.req == n) os ≡ true →
        option_and_then (λ (o : Operation). first_of (unanswered o.req h))
        (find (λ (o : Operation). o.req == n) os) ≡ first_of (unanswered n h)) →
        option_and_then (λ (o : Operation). first_of (unanswered o.req h))
        (cond b (Some o) (find (λ (o : Operation). o.req == n) os)) ≡ first_of (unanswered n h)
    go true i k ih = ap (λ q. first_of (unanswered q h)) (eqb-true o.req n i)
    go false i k ih = ih k

pub next-due : (h : History) (m : ℕ) (o : Operation) → first_due h m ≡ Some o →
    next_of h o.req ≡ first_of (unanswered o.req h)
next-due h m o f = next-among h o.req (open_operations h) (found-any (is_due h m) o.req (open_operations h) o f refl)

-- the requests after the first
abbrev pub later : List ℕ → List ℕ
later [] = []
later (n ∷ ns) = ns

pub first-is : (ns : List ℕ) (n : ℕ) → first_of ns ≡ Some n → ns ≡ n ∷ later ns
first-is [] n e = cc
first-is (k ∷ ks) n e = let same : k ≡ n = cc in ap (λ w. w ∷ ks) same

pub has-first : (ns : List ℕ) → has_any ns ≡ true → first_of ns ≡ None → ⊥
has-first [] e f = cc
has-first (n ∷ ns) e f = cc

-- who waits for an operation has it as lead
pub waiting-led : (h : History) → Lawful h → (o r : ℕ) (rest : List ℕ) → unanswered o h ≡ r ∷ rest → IsLed h o r
waiting-led h l o r rest e =
    let each : IsLed h o r × AllByRecursion (IsLed h o) rest =
    subst (AllByRecursion (IsLed h o)) e (each-filter (IsLed h o) (λ x. not (is_answered x h)) (requests o h)
    (requests-led h l o)) in
    each.0

led-asked : (h : History) (o r : ℕ) → IsLed h o r → is_some (asked r h) ≡ true
led-asked h o r l = go (asked r h) l
  where
    go : (a : Option Asked) → option_map (λ (a : Asked). a.lead) a ≡ Some o → is_some a ≡ true
    go None e = cc
    go (Some a) e = refl

some-same : {X : Type 0} (x y : X) → ◌≡◌ {A = Option X} (Some x) (Some y) → x ≡ y
some-same x y e = cc

-- a reply to whom it is due first continues the reply that must be continued
continues-due : (h : History) (m r : ℕ) (o : Operation) (answer : Answer) (x : Option Pending) → MayContinue h m x →
    first_due h m ≡ Some o → due_to h m o ≡ Some answer → IsLed h o.req r →
    continues x m (Event.Reply (record { req = record { 0 = r }; answer = answer })) h ≡ true
continues-due h m r o answer None c f d l = refl
continues-due h m r o answer (Some p) c f d l =
    let operation : p.operation ≡ o.req = some-same p.operation o.req
    (sym c.operation ∙ ap (option_map (λ (o : Operation). o.req)) f) in
    let same : answer ≡ p.answer = some-same answer p.answer
    (sym d ∙ sym (ap (option_and_then (due_to h m)) f) ∙ c.answer) in
    let alike : same_answer answer p.answer ≡ true = ap (same_answer answer) (sym same) ∙ same_answer-self answer in
    rw (l, eq-eqb o.req p.operation (sym operation), alike, eq-eqb m p.moment (sym c.moment)) refl

-- it is lawful
pub lawful-due : (h : History) (m r : ℕ) (o : Operation) (answer : Answer) (rest : List ℕ) → Lawful h → MayCome m h →
    first_due h m ≡ Some o → due_to h m o ≡ Some answer →
    unanswered o.req h ≡ r ∷ rest → MayContinue h m (pending h) →
    LawfulEntry (reply_entry m (record { 0 = r }) answer) h
lawful-due h m r o answer rest l c f d u p =
    let led : IsLed h o.req r = waiting-led h l o.req r rest u in
    let new : is_answered r h ≡ false = waiting-unanswered o.req r rest h u in
    record {
      ordered = rw (le-leb m GREATEST_MOMENT c.most, le-leb (last_moment h) m c.later, led-asked h o.req r led) refl;
      exits = refl;
      starts = refl;
      once_only = rw (new, continues-due h m r o answer (pending h) p f d led) refl;
      replies = rw (f, u, d, eq-eqb r r refl, same_answer-self answer) refl;
      prompted = refl;
    }

-- afterwards it is still the first, if it is open
pub first_due-replied : (h : History) (m : ℕ) (req : Req) (answer : Answer) (o : Operation) → first_due h m ≡ Some o →
    is_open o.req (reply_entry m req answer ∷ h) ≡ true →
    first_due (reply_entry m req answer ∷ h) m ≡ Some o
first_due-replied h m req answer o f e =
    ap (find (is_due h m)) (open-reply h m req answer)
    ∙ find-filter (is_due h m) (λ (p : Operation). is_open p.req (reply_entry m req answer ∷ h))
    (open_operations h) o f e

-- so the replies that must follow go to it
pub continues-replied : (h : History) (m : ℕ) (req : Req) (answer : Answer) (o : Operation) → first_due h m ≡ Some o →
    due_to h m o ≡ Some answer → IsLed h o.req req.0 →
    MayContinue (reply_entry m req answer ∷ h) m (pending (reply_entry m req answer ∷ h))
continues-replied h m req answer o f d l =
    subst (λ x. MayContinue (reply_entry m req answer ∷ h) m (option_and_then follows x)) (sym l)
    (go (is_open o.req (reply_entry m req answer ∷ h)) refl)
  where
    waits : ℕ → Bool → Option Pending
    waits n b = cond b (Some (record { operation = n; answer = answer; moment = m })) None

    follows : ℕ → Option Pending
    follows n = waits n (is_open n (reply_entry m req answer ∷ h))

    go : (b : Bool) → is_open o.req (reply_entry m req answer ∷ h) ≡ b →
        MayContinue (reply_entry m req answer ∷ h) m (waits o.req b)
    go true e =
        let first : first_due (reply_entry m req answer ∷ h) m ≡ Some o = first_due-replied h m req answer o f e in
        record {
          operation = ap (option_map (λ (p : Operation). p.req)) first;
          answer =
              ap (option_and_then (due_to h m)) first ∙ d;
          moment = refl;
        }
    go false e = tt

-- a journal is settled exactly where no operation is due first
some-any : (p : Operation → Bool) (os : List Operation) (o : Operation) → find p os ≡ Some o → list_any p os ≡ true
some-any p [] o e = cc
some-any p (x ∷ os) o e = go (p x) e (λ k. some-any p os o k)
  where
    go : (b : Bool) → cond b (Some x) (find p os) ≡ Some o → (find p os ≡ Some o → list_any p os ≡ true) →
        (b || list_any p os) ≡ true
    go true k ih = refl
    go false k ih = ih k

pub settled-no_due : (h : History) (m : ℕ) → IsFirstDue h m None (first_due h m) → settled h m ≡ true
settled-no_due h m i = go (first_due h m) refl i
  where
    go : (x : Option Operation) → first_due h m ≡ x → IsFirstDue h m None x → settled h m ≡ true
    go None e k = settled-none h m e
    go (Some o) e k = absurd k

pub unsettled-due : (h : History) (m : ℕ) (d : Due) → IsFirstDue h m (Some d) (first_due h m) → settled h m ≡ false
unsettled-due h m d i = go (first_due h m) refl i
  where
    go : (x : Option Operation) → first_due h m ≡ x → IsFirstDue h m (Some d) x → settled h m ≡ false
    go None e k = absurd k
    go (Some o) e k = ap not (some-any (is_due h m) (open_operations h) o e)
