-- Of a number to come a lawful journal knows nothing: no request, no reply, no run, no exit.
use Rattle.std.proofs.Common.{
  ℕ,
  List,
  [],
  ◌∷◌,
  Bool,
  true,
  false,
  ◌≡◌,
  ◌≤◌,
  ◌<◌,
  ◌+◌,
  refl,
  Option,
  Some,
  None,
  IsTrue,
  arith,
  ◌==◌,
  ◌||◌,
  ◌&&◌,
  cond,
  eqb-true,
  ne_eqb,
  is_some,
  length,
}
use Rattle.std.specs.Prelude.{option_map, unwrap_or, filter, filter_map}
use Rattle.std.specs.List.{AllByRecursion, cons_option}
use Rattle.fnc_journal.specs.declared.event.Event.{Event}
use Rattle.fnc_journal.specs.declared.entry.Kind.{Kind}
use Rattle.fnc_journal.specs.History.{History}
use Rattle.fnc_journal.specs.Missing.{or_here, append_some}
use Rattle.fnc_journal.specs.Found.{
  asked,
  asks,
  starts,
  started,
  started_here,
  is_answered,
  is_reply_to,
  has_exit,
  is_exit_of,
  is_ask,
  is_start,
}
use Rattle.fnc_journal.specs.Slots.{Operation}
use Rattle.fnc_journal.specs.Acts.{Act, acts, act_here, cons_act}
use Rattle.fnc_journal.specs.Operations.{
  requests,
  request_here,
  operations,
  operation_here,
  operation,
  is_open,
  open_operations,
  joined,
  is_joinable,
  settled,
}
use Rattle.fnc_journal.specs.Lawful.{Lawful, in_order, prompt, settled_since}
use Rattle.fnc_journal.proofs.Each.{each-map, each-append, each-filter, found-each}
use Rattle.fnc_journal.proofs.Lawfulness.{and-left, and-right, in_order-of}
use Rattle.fnc_journal.proofs.Requests.{fresh_ask}
use Rattle.fnc_journal.proofs.Closing.{operation-req}

unequal : (n a s : ℕ) → (a == s) ≡ true → s + 1 ≤ n → (n == a) ≡ false
unequal n a s e k = let f : a ≡ s = eqb-true a s e in ne_eqb n a (λ g. omega arith)

-- what is asked of an absent one is false
none_some : {X : Type 0} (x : Option X) → x ≡ None → is_some x ≡ true → ⊥
none_some None e f = cc
none_some (Some x) e f = cc

-- no request to come is answered
pub unasked_unanswered : (h : History) → Lawful h → (n : ℕ) → asks h ≤ n → is_answered n h ≡ false
unasked_unanswered [] l n le = refl
unasked_unanswered (e ∷ before) l n le = go e.event (in_order-of e.moment e.event before l.0.ordered) le (λ k. unasked_unanswered before l.1 n k)
  where
    go : (event : Event) → IsTrue (in_order event before) → asks (record { moment = e.moment; event = event } ∷ before) ≤ n →
        (asks before ≤ n → is_answered n before ≡ false) → (is_reply_to n event || is_answered n before) ≡ false
    go (Event.Ask ask) i k ih = let more : asks before + 1 ≤ n = k in ih (omega arith)
    go (Event.Reply reply) i k ih =
        let other : (n == reply.req.0) ≡ false = ne_eqb n reply.req.0 (λ g. none_some (asked reply.req.0 before) (fresh_ask before l.1 reply.req.0 (omega (arith, g))) i) in
        rw (other, ih k) refl
    go _ i k ih = ih k

-- no run to come is started
pub fresh_start : (h : History) → Lawful h → (n : ℕ) → starts h ≤ n → started n h ≡ None
fresh_start [] l n le = refl
fresh_start (e ∷ before) l n le = go e.event (in_order-of e.moment e.event before l.0.ordered) le (λ k. fresh_start before l.1 n k)
  where
    go : (event : Event) → IsTrue (in_order event before) → starts (record { moment = e.moment; event = event } ∷ before) ≤ n →
        (starts before ≤ n → started n before ≡ None) → or_here (started n before) (started_here n event) ≡ None
    go (Event.Start start) i k ih =
        let more : starts before + 1 ≤ n = k in
        let other : (n == start.run.0) ≡ false = unequal n start.run.0 (starts before) (and-left _ _ (and-left _ _ i)) more in
        rw (other, ih (omega arith)) refl
    go _ i k ih = rw (ih k) refl

-- nor has it an exit
pub unstarted_unended : (h : History) → Lawful h → (n : ℕ) → starts h ≤ n → has_exit n h ≡ false
unstarted_unended [] l n le = refl
unstarted_unended (e ∷ before) l n le = go e.event (in_order-of e.moment e.event before l.0.ordered) le (λ k. unstarted_unended before l.1 n k)
  where
    go : (event : Event) → IsTrue (in_order event before) → starts (record { moment = e.moment; event = event } ∷ before) ≤ n →
        (starts before ≤ n → has_exit n before ≡ false) → (is_exit_of n event || has_exit n before) ≡ false
    go (Event.Start start) i k ih = let more : starts before + 1 ≤ n = k in ih (omega arith)
    go (Event.Exit ended) i k ih =
        let other : (n == ended.run.0) ≡ false = ne_eqb n ended.run.0 (λ g. none_some (started ended.run.0 before) (fresh_start before l.1 ended.run.0 (omega (arith, g))) i) in
        rw (other, ih k) refl
    go _ i k ih = ih k

-- operations are numbered below the next request
pub operations-small : (h : History) → Lawful h → AllByRecursion (λ o. o < asks h) (operations h)
operations-small [] l = tt
operations-small (e ∷ before) l = go e.event (in_order-of e.moment e.event before l.0.ordered) (operations-small before l.1)
  where
    go : (event : Event) → IsTrue (in_order event before) → AllByRecursion (λ o. o < asks before) (operations before) →
        AllByRecursion (λ o. o < asks (record { moment = e.moment; event = event } ∷ before)) (append_some (operations before) (operation_here event))
    go (Event.Ask ask_) i ih = ask (ask_.req.0 == ask_.lead.0)
      where
        n : ask_.req.0 ≡ asks before
        n = eqb-true ask_.req.0 (asks before) (and-left _ _ (and-left _ _ (and-left _ _ (and-left _ _ i))))

        more : AllByRecursion (λ o. o < asks before + 1) (operations before)
        more = each-map _ _ (operations before) (λ o k. omega arith) ih

        ask : (b : Bool) → AllByRecursion (λ o. o < asks before + 1) (append_some (operations before) (cond b (Some ask_.req.0) None))
        ask true = each-append _ (operations before) ask_.req.0 more (omega (arith, n))
        ask false = more
    go _ i ih = ih

-- so are those that are open
pub open-small : (h : History) → Lawful h → AllByRecursion (λ (p : Operation). p.req < asks h) (open_operations h)
open-small h l = go (filter (λ o. is_open o h) (operations h)) (each-filter _ (λ o. is_open o h) (operations h) (operations-small h l))
  where
    here : (o : ℕ) (x : Option Operation) → operation o h ≡ x → o < asks h → (xs : List Operation) → AllByRecursion (λ (p : Operation). p.req < asks h) xs →
        AllByRecursion (λ (p : Operation). p.req < asks h) (cons_option x xs)
    here o None e k xs a = a
    here o (Some p) e k xs a = let r : p.req ≡ o = operation-req o h p e in (omega (arith, r, k), a)

    go : (os : List ℕ) → AllByRecursion (λ o. o < asks h) os → AllByRecursion (λ (p : Operation). p.req < asks h) (filter_map (λ o. operation o h) os)
    go [] a = tt
    go (o ∷ os) a = here o (operation o h) refl a.0 (filter_map (λ o. operation o h) os) (go os a.1)

-- a lead is no request to come
lead-small : (m : ℕ) (lead req : ℕ) (h : History) (kind : Kind) (target : List ℕ) → Lawful h → req ≡ asks h →
    lead ≡ unwrap_or (option_map (λ (o : Operation). o.req) (joined h m kind target)) req → lead < asks h + 1
lead-small m lead req h kind target l n e = go (joined h m kind target) refl e
  where
    go : (x : Option Operation) → joined h m kind target ≡ x → lead ≡ unwrap_or (option_map (λ (o : Operation). o.req) x) req → lead < asks h + 1
    go None j f = omega (arith, f, n)
    go (Some p) j f =
        let k : p.req < asks h = found-each (λ (p : Operation). p.req < asks h) (is_joinable h m kind target) (open_operations h) p (open-small h l) j in
        omega (arith, f, k)

-- no operation to come has requests
pub unasked_unrequested : (h : History) → Lawful h → (n : ℕ) → asks h ≤ n → requests n h ≡ []
unasked_unrequested [] l n le = refl
unasked_unrequested (e ∷ before) l n le = go e.event (in_order-of e.moment e.event before l.0.ordered) l.0.prompted le (λ k. unasked_unrequested before l.1 n k)
  where
    go : (event : Event) → IsTrue (in_order event before) → IsTrue (prompt (record { moment = e.moment; event = event }) before) →
        asks (record { moment = e.moment; event = event } ∷ before) ≤ n → (asks before ≤ n → requests n before ≡ []) →
        append_some (requests n before) (request_here n event) ≡ []
    go (Event.Ask ask) i p k ih =
        let more : asks before + 1 ≤ n = k in
        let new : ask.req.0 ≡ asks before = eqb-true ask.req.0 (asks before) (and-left _ _ (and-left _ _ (and-left _ _ (and-left _ _ i)))) in
        let small : ask.lead.0 < asks before + 1 = lead-small e.moment ask.lead.0 ask.req.0 before ask.kind ask.target l.1 new (eqb-true ask.lead.0 (unwrap_or (option_map (λ (o : Operation). o.req) (joined before e.moment ask.kind ask.target)) ask.req.0) (and-right (settled before e.moment && settled_since before) _ p)) in
        let other : (n == ask.lead.0) ≡ false = ne_eqb n ask.lead.0 (λ g. omega (arith, small, more, g)) in
        rw other (ih (omega arith))
    go _ i p k ih = ih k

operation-none : (o : ℕ) (h : History) → asked o h ≡ None → operation o h ≡ None
operation-none o h e = rw e refl

-- no operation to come has runs
pub unasked_idle : (h : History) → Lawful h → (o : ℕ) → asks h ≤ o → acts o h ≡ []
unasked_idle [] l o le = refl
unasked_idle (e ∷ before) l o le = go e.event (in_order-of e.moment e.event before l.0.ordered) le (λ k. unasked_idle before l.1 o k)
  where
    go : (event : Event) → IsTrue (in_order event before) → asks (record { moment = e.moment; event = event } ∷ before) ≤ o → (asks before ≤ o → acts o before ≡ []) →
        cons_act (act_here o e.moment (acts o before) event) (acts o before) ≡ []
    go (Event.Start start) i k ih = whose (o == start.req.0) refl
      where
        whose : (b : Bool) → (o == start.req.0) ≡ b → cons_act (cond b (Some (Act.Begun e.moment start.run.0 start.slot)) None) (acts o before) ≡ []
        whose true q =
            let same : o ≡ start.req.0 = eqb-true o start.req.0 q in
            absurd (none_some (operation start.req.0 before) (operation-none start.req.0 before (fresh_ask before l.1 start.req.0 (omega (arith, same, k)))) (and-right _ _ (and-left _ _ i)))
        whose false q = ih k
    go (Event.Exit ended) i k ih = rw (ih k) refl
    go (Event.Ask ask) i k ih = let more : asks before + 1 ≤ o = k in ih (omega arith)
    go _ i k ih = ih k

-- no more are counted than there are entries
pub asks-most : (h : History) → asks h ≤ length h
asks-most [] = omega arith
asks-most (e ∷ before) = go (is_ask e.event) (asks-most before)
  where
    go : (b : Bool) → asks before ≤ length before → cond b (asks before + 1) (asks before) ≤ length (e ∷ before)
    go true k = omega arith
    go false k = omega arith

pub starts-most : (h : History) → starts h ≤ length h
starts-most [] = omega arith
starts-most (e ∷ before) = go (is_start e.event) (starts-most before)
  where
    go : (b : Bool) → starts before ≤ length before → cond b (starts before + 1) (starts before) ≤ length (e ∷ before)
    go true k = omega arith
    go false k = omega arith
