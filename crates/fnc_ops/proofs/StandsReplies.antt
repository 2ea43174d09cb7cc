-- The records stand for the journal with a reply.
use Rattle.std.proofs.Common.{
  ℕ,
  List,
  [],
  ◌∷◌,
  Bool,
  true,
  false,
  ◌≡◌,
  ◌==◌,
  ◌&&◌,
  refl,
  ap,
  sym,
  ◌∙◌,
  subst,
  Option,
  Some,
  None,
  cond,
  not,
  map,
  eqb-true,
  false-eqb,
}
use Rattle.std.specs.Prelude.{filter, filter_map, find, option_map, option_and_then}
use Rattle.std.specs.List.{AllZip, AllByRecursion, cons_option}
use Rattle.fnc_journal.specs.declared.entry.Req.{Req}
use Rattle.fnc_journal.specs.declared.entry.Answer.{Answer}
use Rattle.fnc_journal.specs.History.{History}
use Rattle.fnc_journal.specs.Missing.{has_any, first_of}
use Rattle.fnc_journal.specs.Found.{is_answered}
use Rattle.fnc_journal.specs.Slots.{Operation}
use Rattle.fnc_journal.specs.Acts.{Act, acts}
use Rattle.fnc_journal.specs.Operations.{operation, operations, open_operations, unanswered, requests, is_open}
use Rattle.fnc_journal.specs.Lawful.{Lawful}
use Rattle.fnc_journal.proofs.Each.{filter-same, filter-or, each-filter}
use Rattle.fnc_journal.proofs.Requests.{IsLed, requests-led, unanswered-other_reply}
use Rattle.fnc_journal.proofs.Members.{unanswered-reply}
use Rattle.fnc_journal.proofs.Closing.{operation-req, filter-and, everywhere}
use Rattle.fnc_records.specs.KeptOperation.{KeptOperation}
use Rattle.fnc_records.specs.OperationFacts.{IsOperation}
use Rattle.fnc_records.specs.OperationRecords as OperationRecords
use Rattle.fnc_records.specs.OperationRecords.{only, rest_of, is_waiting}
use Rattle.fnc_ops.specs.OpsRecords as OpsRecords
use Rattle.fnc_ops.specs.OpsRecords.{is_of, waiting}
use Rattle.fnc_ops.specs.Stands.{Stands, StandEach, AreAt, numbers, reply_entry, next_of}
use Rattle.fnc_ops.proofs.OpenOperations.{each-open}
use Rattle.fnc_records.proofs.Searches.{found-passes}
use Rattle.fnc_ops.proofs.Waits.{at-map, moment-only, waiting-only, waiting-kept}
use Rattle.fnc_records.proofs.Zip.{zip_map, zip_filter}

-- a test of the numbers is a test of the operations
through : (h : History) (q : ℕ → Bool) (os : List ℕ) → filter_map (λ o. operation o h) (filter q os) ≡ filter
    (λ (o : Operation). q o.req) (filter_map (λ o. operation o h) os)
through h q [] = refl
through h q (o ∷ os) = go (operation o h) refl (q o) refl (through h q os)
  where
    go : (x : Option Operation) → operation o h ≡ x → (b : Bool) → q o ≡ b →
        filter_map (λ o. operation o h) (filter q os) ≡ filter (λ (o : Operation). q o.req)
        (filter_map (λ o. operation o h) os) →
        filter_map (λ o. operation o h) (cond (q o) (o ∷ filter q os) (filter q os)) ≡ filter
        (λ (o : Operation). q o.req) (cons_option (operation o h) (filter_map (λ o. operation o h) os))
    go None e true k ih = rw (k, e) ih
    go None e false k ih = rw (k, e) ih
    go (Some x) e true k ih = let r : q x.req ≡ true = ap q (operation-req o h x e) ∙ k in
        rw (k, e, r) (ap (λ ys. x ∷ ys) ih)
    go (Some x) e false k ih = let r : q x.req ≡ false = ap q (operation-req o h x e) ∙ k in rw (k, e, r) ih

has_any-filter : (p : ℕ → Bool) (xs : List ℕ) → (has_any xs && has_any (filter p xs)) ≡ has_any (filter p xs)
has_any-filter p [] = refl
has_any-filter p (x ∷ xs) = refl

-- the operations that are open after a reply are those of before that are still open
pub open-reply : (h : History) (m : ℕ) (req : Req) (answer : Answer) →
    open_operations (reply_entry m req answer ∷ h) ≡ filter (λ (o : Operation). is_open o.req
    (reply_entry m req answer ∷ h)) (open_operations h)
open-reply h m req answer =
    ap (filter_map (λ o. operation o h)) (filter-same _ _ (operations h) (everywhere _ (operations h) still)
    ∙ filter-and (λ o. is_open o h) (λ o. is_open o (reply_entry m req answer ∷ h)) (operations h))
    ∙ through h (λ o. is_open o (reply_entry m req answer ∷ h)) (filter (λ o. is_open o h) (operations h))
  where
    split : (o : ℕ) → unanswered o (reply_entry m req answer ∷ h) ≡ filter (λ x. not (x == req.0)) (unanswered o h)
    split o = filter-or (λ x. x == req.0) (λ x. is_answered x h) (requests o h)

    still : (o : ℕ) → is_open o (reply_entry m req answer ∷ h) ≡
        (is_open o h && is_open o (reply_entry m req answer ∷ h))
    still o = ap has_any (split o) ∙ sym (has_any-filter (λ x. not (x == req.0)) (unanswered o h))
        ∙ ap (λ b. is_open o h && b) (sym (ap has_any (split o)))

rest_numbers : (ms : List Req) (n : ℕ) (ns : List ℕ) → numbers ms ≡ n ∷ ns → numbers (rest_of ms) ≡ ns
rest_numbers [] n ns e = cc
rest_numbers (m ∷ ms) n ns e = cc

waiting_is : (ms : List Req) → has_any ms ≡ has_any (numbers ms)
waiting_is [] = refl
waiting_is (m ∷ ms) = refl

-- who waits is no matter of what the acts say
pub operation-members : (m : ℕ) (xs : List Act) (r : KeptOperation) (o : Operation) (members : List Req) →
    IsOperation m xs r o → IsOperation m xs (record r { members = members }) o
operation-members m xs r o members i = record {
  req = i.req;
  kind = i.kind;
  target = i.target;
  begin = i.begin;
  over = i.over;
  past = i.past;
  turns = i.turns;
  distinct = i.distinct;
  levels_distinct = i.levels_distinct;
  queries_are = i.queries_are;
  ranks_are = i.ranks_are;
  ranked_is = i.ranked_is;
  unranked = i.unranked;
}

-- a reply to the least request of an operation
stands-rest : (rs : List KeptOperation) (h : History) → Lawful h → (p m : ℕ) (req : Req) (answer : Answer)
    (rest : List ℕ) → IsLed h p req.0 → unanswered p h ≡ req.0 ∷ rest →
    StandEach rs h → StandEach (OpsRecords.replied p rs) (reply_entry m req answer ∷ h)
stands-rest rs h l p m req answer rest led first z =
    subst (λ os. AllZip (Stands (reply_entry m req answer ∷ h))
    (filter is_waiting (map (only p OperationRecords.replied) rs)) os) (sym (open-reply h m req answer))
    (zip_filter _ is_waiting (λ (o : Operation). is_open o.req (reply_entry m req answer ∷ h)) waits _ _
    (zip_map _ _ (only p OperationRecords.replied) each rs (open_operations h) z))
  where
    waits : (r : KeptOperation) (o : Operation) → Stands (reply_entry m req answer ∷ h) r o →
        is_waiting r ≡ is_open o.req (reply_entry m req answer ∷ h)
    waits r o s = waiting_is r.members ∙ ap has_any s.waiting_are

    go : (r : KeptOperation) (o : Operation) (b : Bool) → (o.req == p) ≡ b → Stands h r o →
        Stands (reply_entry m req answer ∷ h) (cond b (OperationRecords.replied r) r) o
    go r o true k s =
        let same : o.req ≡ p = eqb-true o.req p k in
        let now : unanswered o.req (reply_entry m req answer ∷ h) ≡ rest =
        ap (λ n. unanswered n (reply_entry m req answer ∷ h)) same ∙ unanswered-reply h l p m req.0 answer rest
        first in
        record {
          operation = operation-members r.moment (acts o.req h) r o (rest_of r.members) s.operation;
          waiting_are = rest_numbers r.members req.0 rest (s.waiting_are ∙ ap (λ n. unanswered n h) same ∙ first)
              ∙ sym now;
          confirmed_is = s.confirmed_is;
          untried_is = s.untried_is;
          enough = s.enough;
          few_runs =
              s.few_runs;
        }
    go r o false k s =
        record {
          operation = s.operation;
          waiting_are =
              s.waiting_are ∙ sym (unanswered-other_reply h l o.req p m req answer led (false-eqb o.req p (sym k)));
          confirmed_is = s.confirmed_is;
          untried_is = s.untried_is;
          enough = s.enough;
          few_runs = s.few_runs;
        }

    each : (r : KeptOperation) (o : Operation) → Stands h r o → Stands (reply_entry m req answer ∷ h)
        (only p OperationRecords.replied r) o
    each r o s =
        let same : (r.req == p) ≡ (o.req == p) = ap (λ n. n == p) s.operation.req in
        subst (λ b. Stands (reply_entry m req answer ∷ h) (cond b (OperationRecords.replied r) r) o) (sym same)
        (go r o (o.req == p) refl s)

-- the least request that waits is that of the records
first_numbers : (ms : List Req) → option_map (λ (r : Req). r.0) (first_of ms) ≡ first_of (numbers ms)
first_numbers [] = refl
first_numbers (m ∷ ms) = refl

next_among : (h : History) (p : ℕ) (rs : List KeptOperation) (os : List Operation) → AllZip (Stands h) rs os →
    option_map (λ (r : Req). r.0) (OpsRecords.first_member p rs) ≡ option_and_then
    (λ (o : Operation). first_of (unanswered o.req h)) (find (λ (o : Operation). o.req == p) os)
next_among h p [] [] z = refl
next_among h p [] (o ∷ os) z = absurd z
next_among h p (r ∷ rs) [] z = absurd z
next_among h p (r ∷ rs) (o ∷ os) z =
    let same : (r.req == p) ≡ (o.req == p) = ap (λ n. n == p) z.0.operation.req in
    ap (λ b. option_map (λ (r : Req). r.0) (option_and_then OperationRecords.first_member
    (cond b (Some r) (find (is_of p) rs)))) same ∙ go (o.req == p) (next_among h p rs os z.1)
  where
    go : (b : Bool) → option_map (λ (r : Req). r.0) (OpsRecords.first_member p rs) ≡ option_and_then
        (λ (o : Operation). first_of (unanswered o.req h)) (find (λ (o : Operation). o.req == p) os) →
        option_map (λ (r : Req). r.0) (option_and_then OperationRecords.first_member
        (cond b (Some r) (find (is_of p) rs)))
        ≡ option_and_then (λ (o : Operation). first_of (unanswered o.req h))
        (cond b (Some o) (find (λ (o : Operation). o.req == p) os))
    go true e = first_numbers r.members ∙ ap first_of z.0.waiting_are
    go false e = e

pub next_is : (rs : List KeptOperation) (h : History) (p : ℕ) (x : Option Req) → x ≡ OpsRecords.first_member p rs →
    StandEach rs h → option_map (λ (r : Req). r.0) x ≡ next_of h p
next_is rs h p x e z = ap (option_map (λ (r : Req). r.0)) e ∙ next_among h p rs (open_operations h) z

true-false : (b : Bool) → b ≡ true → b ≡ false → ⊥
true-false b e f = cc

-- so its operation has it as the first
abbrev tail : List ℕ → List ℕ
tail [] = []
tail (n ∷ ns) = ns

head_is : (ns : List ℕ) (n : ℕ) → first_of ns ≡ Some n → ns ≡ n ∷ tail ns
head_is [] n e = cc
head_is (k ∷ ks) n e = let same : k ≡ n = cc in ap (λ w. w ∷ ks) same

next-first : (h : History) (p n : ℕ) → next_of h p ≡ Some n → unanswered p h ≡ n ∷ tail (unanswered p h)
next-first h p n e = go (find (λ (o : Operation). o.req == p) (open_operations h)) refl e
  where
    go : (x : Option Operation) → find (λ (o : Operation). o.req == p) (open_operations h) ≡ x →
        option_and_then (λ (o : Operation). first_of (unanswered o.req h)) x ≡ Some n → unanswered p h ≡ n ∷ tail
        (unanswered p h)
    go None k f = cc
    go (Some o) k f =
        let same : o.req ≡ p = eqb-true o.req p (found-passes (λ (o : Operation). o.req == p) (open_operations h) o
        k) in
        head_is (unanswered p h) n (ap (λ q. first_of (unanswered q h)) (sym same) ∙ f)

pub stands-replied : (rs : List KeptOperation) (h : History) → Lawful h → (p m : ℕ) (req : Req) (answer : Answer) →
    next_of h p ≡ Some req.0 →
    StandEach rs h → StandEach (OpsRecords.replied p rs) (reply_entry m req answer ∷ h)
stands-replied rs h l p m req answer e z =
    let first : unanswered p h ≡ req.0 ∷ tail (unanswered p h) = next-first h p req.0 e in
    let each : AllByRecursion (IsLed h p) (unanswered p h) = each-filter (IsLed h p) (λ r. not (is_answered r h))
    (requests p h) (requests-led h l p) in
    let led : IsLed h p req.0 × AllByRecursion (IsLed h p) (tail (unanswered p h)) =
    subst (AllByRecursion (IsLed h p)) first each in
    stands-rest rs h l p m req answer (tail (unanswered p h)) led.0 first z

-- the record of an operation without requests goes, and of the others each has one
replied-wait : (rs : List KeptOperation) (h : History) (p : ℕ) (os : List Operation) →
    AllByRecursion (λ (o : Operation). is_open o.req h ≡ true) os → AllZip (Stands h) rs os →
    AllByRecursion (λ (r : KeptOperation). (r.req == p) ≡ false → is_waiting r ≡ true)
    (map (only p OperationRecords.replied) rs)
replied-wait [] h p [] a z = tt
replied-wait [] h p (o ∷ os) a z = absurd z
replied-wait (r ∷ rs) h p [] a z = absurd z
replied-wait (r ∷ rs) h p (o ∷ os) a z = (go (r.req == p) refl, replied-wait rs h p os a.1 z.1)
  where
    go : (b : Bool) → (r.req == p) ≡ b → ((cond b (OperationRecords.replied r) r).req == p) ≡ false →
        is_waiting (cond b (OperationRecords.replied r) r) ≡ true
    go true e f = absurd (true-false (r.req == p) e f)
    go false e f = waiting_is r.members ∙ ap has_any z.0.waiting_are ∙ a.0

pub waiting-replied : (rs : List KeptOperation) (h : History) (p n : ℕ) → (n == p) ≡ false → StandEach rs h →
    waiting n (OpsRecords.replied p rs) ≡ waiting n rs
waiting-replied rs h p n other z =
    waiting-kept (map (only p OperationRecords.replied) rs) n p other (replied-wait rs h p (open_operations h)
    (each-open h) z)
    ∙ waiting-only p OperationRecords.replied (λ r. refl) n other rs

pub at-replied : (rs : List KeptOperation) (p m : ℕ) → AreAt m rs → AreAt m (OpsRecords.replied p rs)
at-replied rs p m a =
    each-filter (λ (r : KeptOperation). r.moment ≡ m) is_waiting (map (only p OperationRecords.replied) rs)
    (at-map m (only p OperationRecords.replied) (moment-only p OperationRecords.replied (λ r. refl)) rs a)
