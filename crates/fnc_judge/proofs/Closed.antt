-- In a lawful journal an operation whose own request is answered is closed, unless the last entry is one of its replies.
use Rattle.std.proofs.Common.{
  ℕ,
  List,
  [],
  ◌∷◌,
  Bool,
  true,
  false,
  ◌≡◌,
  refl,
  ap,
  sym,
  ◌∙◌,
  Option,
  Some,
  None,
  IsTrue,
  arith,
  ◌==◌,
  ◌&&◌,
  ◌||◌,
  not,
  cond,
  eqb-true,
  eq-eqb,
  false-eqb,
}
use Rattle.std.specs.Prelude.{option_map, option_and_then, unwrap_or, filter, filter_map, is_some}
use Rattle.std.specs.List.{AllByRecursion, cons_option}
use Rattle.fnc_journal.specs.declared.event.Event.{Event}
use Rattle.fnc_journal.specs.declared.event.Request.{Request}
use Rattle.fnc_journal.specs.History.{History}
use Rattle.fnc_journal.specs.Missing.{append_some, has_any, is_number, or_here}
use Rattle.fnc_journal.specs.Found.{Asked, asked, asked_here, asked_of, asks, is_answered, is_reply}
use Rattle.fnc_journal.specs.Slots.{Operation}
use Rattle.fnc_journal.specs.Operations.{
  lead_of,
  requests,
  request_here,
  is_open,
  operation,
  operations,
  joined,
  is_joinable,
  open_operations,
  settled,
}
use Rattle.fnc_journal.specs.Lawful.{Lawful, Pending, pending, continues, once, prompt, in_order, settled_since}
use Rattle.fnc_journal.proofs.Lawfulness.{and-left, and-right, in_order-of}
use Rattle.fnc_journal.proofs.Requests.{IsLed}
use Rattle.fnc_journal.proofs.Closing.{is_open-reply, operation-req}
use Rattle.fnc_journal.proofs.Frames.{or_here-some}
use Rattle.fnc_journal.proofs.Fresh.{unasked_unanswered}
use Rattle.fnc_journal.proofs.Each.{found-each}
use Rattle.fnc_judge.specs.Opened.{replies_for, last_replies}

some_same : {a b : ℕ} → ◌≡◌ {A = Option ℕ} (Some a) (Some b) → a ≡ b
some_same e = cc

-- an operation whose own request waits is open
own-in : (p : ℕ → Bool) (o : ℕ) → p o ≡ true → (h : History) → lead_of o h ≡ Some o →
    has_any (filter p (requests o h)) ≡ true
own-in p o w [] l = cc
own-in p o w (e ∷ before) l = go (asked o before) refl e.event l (own-in p o w before)
  where
    any-append : (xs : List ℕ) (x : Option ℕ) → has_any (filter p xs) ≡ true → has_any (filter p (append_some xs x)) ≡ true
    any-append xs None k = k
    any-append [] (Some y) k = cc
    any-append (x ∷ xs) (Some y) k = here (p x) k (any-append xs (Some y))
      where
        here : (b : Bool) → has_any (cond b (x ∷ filter p xs) (filter p xs)) ≡ true →
            (has_any (filter p xs) ≡ true → has_any (filter p (append_some xs (Some y))) ≡ true) →
            has_any (cond b (x ∷ filter p (append_some xs (Some y))) (filter p (append_some xs (Some y)))) ≡ true
        here true k ih = refl
        here false k ih = ih k

    any-last : (xs : List ℕ) (y : ℕ) → p y ≡ true → has_any (filter p (append_some xs (Some y))) ≡ true
    any-last [] y k = rw k refl
    any-last (x ∷ xs) y k = here (p x) (any-last xs y k)
      where
        here : (b : Bool) → has_any (filter p (append_some xs (Some y))) ≡ true →
            has_any (cond b (x ∷ filter p (append_some xs (Some y))) (filter p (append_some xs (Some y)))) ≡ true
        here true ih = refl
        here false ih = ih

    kept : (a : Asked) (x : Option Asked) → or_here (Some a) x ≡ Some a
    kept a None = refl
    kept a (Some b) = refl

    go : (a : Option Asked) → asked o before ≡ a → (event : Event) →
        option_map (λ (a : Asked). a.lead) (or_here a (asked_here o e.moment before event)) ≡ Some o →
        (lead_of o before ≡ Some o → has_any (filter p (requests o before)) ≡ true) →
        has_any (filter p (append_some (requests o before) (request_here o event))) ≡ true
    go (Some a) q event l ih =
        any-append (requests o before) (request_here o event)
        (ih (ap (option_map (λ (a : Asked). a.lead)) q ∙ ap (option_map (λ (a : Asked). a.lead)) (sym (kept a (asked_here o e.moment before event))) ∙ l))
    go None q (Event.Ask ask) l ih = this (o == ask.req.0) refl l
      where
        this : (b : Bool) → (o == ask.req.0) ≡ b →
            option_map (λ (a : Asked). a.lead) (or_here None (cond b (Some (asked_of e.moment before ask)) None)) ≡ Some o →
            has_any (filter p (append_some (requests o before) (request_here o (Event.Ask ask)))) ≡ true
        this true k l =
            let same : ask.lead.0 ≡ o = some_same l in
            let here : (o == ask.lead.0) ≡ true = eq-eqb o ask.lead.0 (sym same) in
            let own : p ask.req.0 ≡ true = ap p (sym (eqb-true o ask.req.0 k)) ∙ w in
            rw here (any-last (requests o before) ask.req.0 own)
        this false k l = cc
    go None q _ l ih = cc

number-some : (x : Option ℕ) (n : ℕ) → is_number x n ≡ true → x ≡ Some n
number-some None n k = cc
number-some (Some m) n k = ap Some (eqb-true m n k)

pub waits-open : (h : History) (o : ℕ) → is_number (lead_of o h) o ≡ true → is_answered o h ≡ false → is_open o h ≡ true
waits-open h o led a = own-in (λ r. not (is_answered r h)) o (ap not a) h (number-some (lead_of o h) o led)

-- each operation among the open ones is open
open-open : (h : History) → AllByRecursion (λ (p : Operation). is_open p.req h ≡ true) (open_operations h)
open-open h = go (operations h)
  where
    here : (o : ℕ) (x : Option Operation) → operation o h ≡ x → is_open o h ≡ true → (xs : List Operation) →
        AllByRecursion (λ (p : Operation). is_open p.req h ≡ true) xs →
        AllByRecursion (λ (p : Operation). is_open p.req h ≡ true) (cons_option x xs)
    here o None e k xs a = a
    here o (Some p) e k xs a = (ap (λ n. is_open n h) (operation-req o h p e) ∙ k, a)

    go : (os : List ℕ) →
        AllByRecursion (λ (p : Operation). is_open p.req h ≡ true) (filter_map (λ o. operation o h) (filter (λ o. is_open o h) os))
    go [] = tt
    go (o ∷ os) = pick (is_open o h) refl (go os)
      where
        pick : (b : Bool) → is_open o h ≡ b →
            AllByRecursion (λ (p : Operation). is_open p.req h ≡ true) (filter_map (λ o. operation o h) (filter (λ o. is_open o h) os)) →
            AllByRecursion (λ (p : Operation). is_open p.req h ≡ true)
            (filter_map (λ o. operation o h) (cond b (o ∷ filter (λ o. is_open o h) os) (filter (λ o. is_open o h) os)))
        pick true k a = here o (operation o h) refl k (filter_map (λ o. operation o h) (filter (λ o. is_open o h) os)) a
        pick false k a = a

-- after a reply of an operation that is still open comes nothing but a reply
none_pending : (x : Option Pending) (m : ℕ) (event : Event) (h : History) → is_reply event ≡ false →
    continues x m event h ≡ true → x ≡ None
none_pending None m event h r k = refl
none_pending (Some p) m (Event.Reply reply) h r k = cc
none_pending (Some p) m _ h r k = cc

-- the operation whose replies must be continued
abbrev pub pending_operation : History → Option ℕ
pending_operation h = option_map (λ (p : Pending). p.operation) (pending h)

-- a lead is an operation that is open, or a request to come
joins-open : (h : History) (m : ℕ) (q : Request) (o : ℕ) → (o == q.lead.0) ≡ true →
    q.lead.0 ≡ unwrap_or (option_map (λ (o : Operation). o.req) (joined h m q.kind q.target)) q.req.0 →
    (o ≡ q.req.0 → ⊥) → is_open o h ≡ true
joins-open h m q o k e new = go (joined h m q.kind q.target) refl e
  where
    go : (x : Option Operation) → joined h m q.kind q.target ≡ x →
        q.lead.0 ≡ unwrap_or (option_map (λ (o : Operation). o.req) x) q.req.0 → is_open o h ≡ true
    go None j e = absurd (new (eqb-true o q.lead.0 k ∙ e))
    go (Some p) j e =
        ap (λ n. is_open n h) (eqb-true o q.lead.0 k ∙ e)
        ∙ found-each (λ (p : Operation). is_open p.req h ≡ true) (is_joinable h m q.kind q.target) (open_operations h) p
        (open-open h) j

pub open-pending : (h : History) → Lawful h → (o : ℕ) → IsLed h o o → is_answered o h ≡ true → is_open o h ≡ true →
    pending_operation h ≡ Some o
open-pending [] l o led a w = cc
open-pending (e ∷ before) l o led a w =
    go e.event (in_order-of e.moment e.event before l.0.ordered) l.0.prompted l.0.once_only led a w
    (λ i j k. open-pending before l.1 o i j k)
  where
    closed : pending before ≡ None → pending_operation before ≡ Some o → ⊥
    closed none k = let nothing : pending_operation before ≡ None = ap (option_map (λ (p : Pending). p.operation)) none in cc

    go : (event : Event) → IsTrue (in_order event before) →
        IsTrue (prompt (record { moment = e.moment; event = event }) before) →
        IsTrue (once (record { moment = e.moment; event = event }) before) →
        IsLed (record { moment = e.moment; event = event } ∷ before) o o →
        is_answered o (record { moment = e.moment; event = event } ∷ before) ≡ true →
        is_open o (record { moment = e.moment; event = event } ∷ before) ≡ true →
        (IsLed before o o → is_answered o before ≡ true → is_open o before ≡ true → pending_operation before ≡ Some o) →
        pending_operation (record { moment = e.moment; event = event } ∷ before) ≡ Some o
    go (Event.Ask q) i p c led a w ih = absurd (closed none (ih led_before a open_before))
      where
        none : pending before ≡ None
        none = none_pending (pending before) e.moment (Event.Ask q) before refl c

        new : o ≡ q.req.0 → ⊥
        new same =
            let n : q.req.0 ≡ asks before =
            eqb-true q.req.0 (asks before) (and-left _ _ (and-left _ _ (and-left _ _ (and-left _ _ i)))) in
            let waits : is_answered o before ≡ false = unasked_unanswered before l.1 o (omega (arith, same, n)) in
            cc

        led_before : IsLed before o o
        led_before = known (asked o before) refl led
          where
            known : (x : Option Asked) → asked o before ≡ x →
                option_map (λ (a : Asked). a.lead) (or_here x (asked_here o e.moment before (Event.Ask q))) ≡ Some o →
                IsLed before o o
            known (Some x) k f =
                ap (option_map (λ (a : Asked). a.lead)) k
                ∙ ap (option_map (λ (a : Asked). a.lead)) (sym (or_here-some x (asked_here o e.moment before (Event.Ask q)))) ∙ f
            known None k f = this (o == q.req.0) refl f
              where
                this : (b : Bool) → (o == q.req.0) ≡ b →
                    option_map (λ (a : Asked). a.lead) (or_here None (cond b (Some (asked_of e.moment before q)) None)) ≡ Some o →
                    IsLed before o o
                this true t f = absurd (new (eqb-true o q.req.0 t))
                this false t f = cc

        open_before : is_open o before ≡ true
        open_before = this (o == q.lead.0) refl w
          where
            this : (b : Bool) → (o == q.lead.0) ≡ b →
                has_any (filter (λ r. not (is_answered r before)) (append_some (requests o before) (cond b (Some q.req.0) None))) ≡ true →
                is_open o before ≡ true
            this true k f =
                joins-open before e.moment q o k
                (eqb-true q.lead.0 (unwrap_or (option_map (λ (o : Operation). o.req) (joined before e.moment q.kind q.target)) q.req.0)
                (and-right (settled before e.moment && settled_since before) _ p)) new
            this false k f = f
    go (Event.Reply r) i p c led a w ih = by_lead (asked r.req.0 before) refl i
      where
        by_lead : (x : Option Asked) → asked r.req.0 before ≡ x → is_some x ≡ true →
            pending_operation (record { moment = e.moment; event = Event.Reply r } ∷ before) ≡ Some o
        by_lead None q s = cc
        by_lead (Some x) q s = whose (o == x.lead) refl
          where
            ledr : IsLed before x.lead r.req.0
            ledr = ap (option_map (λ (a : Asked). a.lead)) q

            opened : is_open o (record { moment = e.moment; event = Event.Reply r } ∷ before)
                ≡ cond (o == x.lead) (is_open x.lead (record { moment = e.moment; event = Event.Reply r } ∷ before)) (is_open o before)
            opened = is_open-reply before l.1 x.lead e.moment r.req r.answer ledr o

            clash : (y : Option Pending) → option_map (λ (p : Pending). p.operation) y ≡ Some o →
                continues y e.moment (Event.Reply r) before ≡ true → is_number (lead_of r.req.0 before) o ≡ true
            clash None f k = cc
            clash (Some y) f k =
                let same : y.operation ≡ o = some_same f in
                ap (λ n. is_number (lead_of r.req.0 before) n) (sym same) ∙ and-left _ _ (and-left _ _ k)

            whose : (b : Bool) → (o == x.lead) ≡ b →
                pending_operation (record { moment = e.moment; event = Event.Reply r } ∷ before) ≡ Some o
            whose true k =
                let same : o ≡ x.lead = eqb-true o x.lead k in
                let still : is_open x.lead (record { moment = e.moment; event = Event.Reply r } ∷ before) ≡ true =
                ap (λ n. is_open n (record { moment = e.moment; event = Event.Reply r } ∷ before)) (sym same) ∙ w in
                rw ledr (rw still (ap Some (sym same)))
            whose false k = answered (o == r.req.0) refl a
              where
                open_before : is_open o before ≡ true
                open_before =
                    sym (opened ∙ ap (λ b. cond b (is_open x.lead (record { moment = e.moment; event = Event.Reply r } ∷ before)) (is_open o before)) k) ∙ w

                answered : (b : Bool) → (o == r.req.0) ≡ b → (b || is_answered o before) ≡ true →
                    pending_operation (record { moment = e.moment; event = Event.Reply r } ∷ before) ≡ Some o
                answered true t f =
                    let same : o ≡ x.lead = some_same (sym led ∙ ap (λ n. lead_of n before) (eqb-true o r.req.0 t) ∙ ledr) in
                    absurd (false-eqb o x.lead (sym k) same)
                answered false t f =
                    let same : (x.lead == o) ≡ true =
                    ap (λ y. is_number y o) (sym ledr) ∙ clash (pending before) (ih led f open_before) (and-right _ _ c) in
                    absurd (false-eqb o x.lead (sym k) (sym (eqb-true x.lead o same)))
    go _ i p c led a w ih = absurd (closed (none_pending (pending before) e.moment _ before refl c) (ih led a w))

last-pending : (h : History) (o : ℕ) → pending_operation h ≡ Some o → last_replies o h ≡ true
last-pending [] o k = cc
last-pending (e ∷ before) o k = go e.event k
  where
    go : (event : Event) → pending_operation (record { moment = e.moment; event = event } ∷ before) ≡ Some o →
        replies_for o event (record { moment = e.moment; event = event } ∷ before) ≡ true
    go (Event.Reply r) k = lead (lead_of r.req.0 (record { moment = e.moment; event = Event.Reply r } ∷ before)) k
      where
        lead : (x : Option ℕ) →
            option_map (λ (p : Pending). p.operation)
            (option_and_then (λ n. cond (is_open n (record { moment = e.moment; event = Event.Reply r } ∷ before))
            (Some (record { operation = n; answer = r.answer; moment = e.moment })) None) x) ≡ Some o →
            is_number x o ≡ true
        lead None k = cc
        lead (Some n) k = still (is_open n (record { moment = e.moment; event = Event.Reply r } ∷ before)) k
          where
            still : (b : Bool) →
                option_map (λ (p : Pending). p.operation)
                (cond b (Some (record { operation = n; answer = r.answer; moment = e.moment })) None) ≡ Some o →
                (n == o) ≡ true
            still true k = eq-eqb n o (some_same k)
            still false k = cc
    go _ k = cc

-- no other one is open
pub closed-after : (h : History) → Lawful h → (o : ℕ) → is_number (lead_of o h) o ≡ true → is_answered o h ≡ true →
    last_replies o h ≡ false → is_open o h ≡ false
closed-after h l o led a k = go (is_open o h) refl
  where
    go : (b : Bool) → is_open o h ≡ b → is_open o h ≡ false
    go false e = e
    go true e =
        let last : last_replies o h ≡ true =
        last-pending h o (open-pending h l o (number-some (lead_of o h) o led) a e) in cc
