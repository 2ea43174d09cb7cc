-- A request that waits has an operation that is open.
use Rattle.std.proofs.Common.{
  ℕ,
  List,
  [],
  ◌∷◌,
  ◌++◌,
  Bool,
  true,
  false,
  ◌≡◌,
  ◌<◌,
  refl,
  ap,
  sym,
  ◌∙◌,
  Option,
  Some,
  None,
  IsTrue,
  is_some,
  arith,
  ◌==◌,
  ◌||◌,
  ◌&&◌,
  not,
  cond,
  eqb-true,
  eq-eqb,
}
use Rattle.std.specs.Prelude.{option_map, unwrap_or, filter, filter_map}
use Rattle.std.specs.List.{list_any, cons_option}
use Rattle.fnc_journal.specs.declared.entry.Entry.{Entry}
use Rattle.fnc_journal.specs.declared.event.Event.{Event}
use Rattle.fnc_journal.specs.declared.event.Request.{Request}
use Rattle.fnc_journal.specs.History.{History}
use Rattle.fnc_journal.specs.Missing.{or_here, append_some, has_any}
use Rattle.fnc_journal.specs.Found.{Asked, asked, asked_here, asked_of, asks, is_answered}
use Rattle.fnc_journal.specs.Slots.{Operation}
use Rattle.fnc_journal.specs.Operations.{
  lead_of,
  operation,
  requests,
  request_here,
  operations,
  operation_here,
  is_open,
  open_operations,
  joined,
  is_joinable,
  settled,
}
use Rattle.fnc_journal.specs.Lawful.{Lawful, in_order, prompt, settled_since}
use Rattle.fnc_journal.proofs.Each.{any-append_one, found-each}
use Rattle.fnc_journal.proofs.Lawfulness.{and-left, and-right, in_order-of}
use Rattle.fnc_journal.proofs.Frames.{at, operation-push}
use Rattle.fnc_journal.proofs.Requests.{fresh_ask, operation-led}
use Rattle.fnc_journal.proofs.Closing.{open-found}
use Rattle.fnc_answered.proofs.Numbers.{asked-below}

-- whether a number is in a list
abbrev has : ℕ → List ℕ → Bool
has n xs = list_any (λ x. x == n) xs

or-true : (b : Bool) → (b || true) ≡ true
or-true true = refl
or-true false = refl

has-more : (n : ℕ) (xs : List ℕ) (y : Option ℕ) → has n xs ≡ true → has n (append_some xs y) ≡ true
has-more n xs None k = k
has-more n xs (Some y) k = any-append_one (λ x. x == n) xs y ∙ ap (λ b. b || (y == n)) k

has-new : (n : ℕ) (xs : List ℕ) (y : ℕ) → n ≡ y → has n (xs ++ y ∷ []) ≡ true
has-new n xs y k =
    any-append_one (λ x. x == n) xs y ∙ ap (λ b. has n xs || b) (eq-eqb y n (sym k)) ∙ or-true (has n xs)

some_same : {a b : ℕ} → ◌≡◌ {A = Option ℕ} (Some a) (Some b) → a ≡ b
some_same e = cc

-- what was asked keeps its lead
lead-kept : (a : Asked) (y : Option Asked) (o : ℕ) → option_map (λ (a : Asked). a.lead) (or_here (Some a) y) ≡ Some o →
    ◌≡◌ {A = Option ℕ} (Some a.lead) (Some o)
lead-kept a None o f = f
lead-kept a (Some y) o f = f

-- a request is one of its lead's
requested : (h : History) (r o : ℕ) → lead_of r h ≡ Some o → has r (requests o h) ≡ true
requested [] r o f = cc
requested (e ∷ before) r o f = go e.event (asked r before) refl f (requested before r o)
  where
    go : (event : Event) (x : Option Asked) → asked r before ≡ x →
        option_map (λ (a : Asked). a.lead) (or_here x (asked_here r e.moment before event)) ≡ Some o →
        (lead_of r before ≡ Some o → has r (requests o before) ≡ true) →
        has r (append_some (requests o before) (request_here o event)) ≡ true
    go event (Some a) k f ih =
        has-more r (requests o before) (request_here o event)
        (ih (ap (option_map (λ (a : Asked). a.lead)) k ∙ lead-kept a (asked_here r e.moment before event) o f))
    go (Event.Ask ask) None k f ih = this (r == ask.req.0) refl f
      where
        this : (b : Bool) → (r == ask.req.0) ≡ b →
            option_map (λ (a : Asked). a.lead) (or_here None (cond b (Some (asked_of e.moment before ask)) None))
            ≡ Some o →
            has r (append_some (requests o before) (cond (o == ask.lead.0) (Some ask.req.0) None)) ≡ true
        this true q f =
            let same : (o == ask.lead.0) ≡ true = eq-eqb o ask.lead.0 (sym (some_same f)) in
            rw same (has-new r (requests o before) ask.req.0 (eqb-true r ask.req.0 q))
        this false q f = cc
    go _ None k f ih = cc

-- an operation is one of the journal's
began : (h : History) (o : ℕ) → lead_of o h ≡ Some o → has o (operations h) ≡ true
began [] o f = cc
began (e ∷ before) o f = go e.event (asked o before) refl f (began before o)
  where
    go : (event : Event) (x : Option Asked) → asked o before ≡ x →
        option_map (λ (a : Asked). a.lead) (or_here x (asked_here o e.moment before event)) ≡ Some o →
        (lead_of o before ≡ Some o → has o (operations before) ≡ true) →
        has o (append_some (operations before) (operation_here event)) ≡ true
    go event (Some a) k f ih =
        has-more o (operations before) (operation_here event)
        (ih (ap (option_map (λ (a : Asked). a.lead)) k ∙ lead-kept a (asked_here o e.moment before event) o f))
    go (Event.Ask ask) None k f ih = this (o == ask.req.0) refl f
      where
        this : (b : Bool) → (o == ask.req.0) ≡ b →
            option_map (λ (a : Asked). a.lead) (or_here None (cond b (Some (asked_of e.moment before ask)) None))
            ≡ Some o →
            has o (append_some (operations before) (cond (ask.req.0 == ask.lead.0) (Some ask.req.0) None)) ≡ true
        this true q f =
            let own : o ≡ ask.req.0 = eqb-true o ask.req.0 q in
            let same : (ask.req.0 == ask.lead.0) ≡ true = eq-eqb ask.req.0 ask.lead.0 (sym own ∙ sym (some_same f)) in
            rw same (has-new o (operations before) ask.req.0 own)
        this false q f = cc
    go _ None k f ih = cc

some-push : (o : ℕ) (e : Entry) (h : History) → is_some (operation o h) ≡ true → is_some (operation o (e ∷ h)) ≡ true
some-push o e h k = go (operation o h) refl k
  where
    go : (x : Option Operation) → operation o h ≡ x → is_some x ≡ true → is_some (operation o (e ∷ h)) ≡ true
    go None p k = cc
    go (Some p) q k = ap (λ (x : Option Operation). is_some x) (operation-push o p e h q)

-- a request that leads itself begins its operation
leads_itself : (m : ℕ) (q : Request) (h : History) → Lawful h → q.req.0 ≡ asks h → q.lead.0 ≡ q.req.0 →
    is_some (operation q.lead.0 (at m (Event.Ask q) ∷ h)) ≡ true
leads_itself m q h l n e =
    let fresh : asked q.lead.0 h ≡ None = fresh_ask h l q.lead.0 (omega (arith, e, n)) in
    let own : (q.lead.0 == q.req.0) ≡ true = eq-eqb q.lead.0 q.req.0 e in
    let self : (q.lead.0 == q.lead.0) ≡ true = eq-eqb q.lead.0 q.lead.0 refl in
    rw (fresh, own, self) refl

-- the lead of a request is an operation
lead-operation : (h : History) → Lawful h → (r o : ℕ) → lead_of r h ≡ Some o → is_some (operation o h) ≡ true
lead-operation [] l r o f = cc
lead-operation (e ∷ before) l r o f =
    go e.event (in_order-of e.moment e.event before l.0.ordered) l.0.prompted (asked r before) refl f
    (lead-operation before l.1 r o)
  where
    go : (event : Event) → IsTrue (in_order event before) → IsTrue (prompt (at e.moment event) before) →
        (x : Option Asked) → asked r before ≡ x →
        option_map (λ (a : Asked). a.lead) (or_here x (asked_here r e.moment before event)) ≡ Some o →
        (lead_of r before ≡ Some o → is_some (operation o before) ≡ true) →
        is_some (operation o (at e.moment event ∷ before)) ≡ true
    go event i p (Some a) k f ih =
        some-push o (at e.moment event) before
        (ih (ap (option_map (λ (a : Asked). a.lead)) k ∙ lead-kept a (asked_here r e.moment before event) o f))
    go (Event.Ask ask) i p None k f ih = this (r == ask.req.0) f
      where
        new : ask.req.0 ≡ asks before
        new = eqb-true ask.req.0 (asks before) (and-left _ _ (and-left _ _ (and-left _ _ (and-left _ _ i))))

        chosen : ask.lead.0
            ≡ unwrap_or (option_map (λ (o : Operation). o.req) (joined before e.moment ask.kind ask.target)) ask.req.0
        chosen = eqb-true ask.lead.0 _ (and-right (settled before e.moment && settled_since before) _ p)

        of_lead : (x : Option Operation) → joined before e.moment ask.kind ask.target ≡ x →
            ask.lead.0 ≡ unwrap_or (option_map (λ (o : Operation). o.req) x) ask.req.0 →
            is_some (operation ask.lead.0 (at e.moment (Event.Ask ask) ∷ before)) ≡ true
        of_lead None j c = leads_itself e.moment ask before l.1 new c
        of_lead (Some p) j c =
            let found : operation p.req before ≡ Some p
            = found-each (λ (p : Operation). operation p.req before ≡ Some p)
            (is_joinable before e.moment ask.kind ask.target) (open_operations before) p (open-found before) j in
            let there : is_some (operation ask.lead.0 before) ≡ true
            = ap (λ n. is_some (operation n before)) c ∙ ap (λ (x : Option Operation). is_some x) found in
            some-push ask.lead.0 (at e.moment (Event.Ask ask)) before there

        this : (b : Bool) →
            option_map (λ (a : Asked). a.lead) (or_here None (cond b (Some (asked_of e.moment before ask)) None))
            ≡ Some o →
            is_some (operation o (at e.moment (Event.Ask ask) ∷ before)) ≡ true
        this true f =
            ap (λ n. is_some (operation n (at e.moment (Event.Ask ask) ∷ before))) (sym (some_same f))
            ∙ of_lead (joined before e.moment ask.kind ask.target) refl chosen
        this false f = cc
    go _ i p None k f ih = cc

-- who is in a list and passes is kept
kept-any : (p : ℕ → Bool) (n : ℕ) (xs : List ℕ) → has n xs ≡ true → p n ≡ true → has_any (filter p xs) ≡ true
kept-any p n [] k t = cc
kept-any p n (x ∷ xs) k t = go (x == n) refl k (p x) refl (λ k. kept-any p n xs k t)
  where
    go : (b : Bool) → (x == n) ≡ b → (b || has n xs) ≡ true → (c : Bool) → p x ≡ c →
        (has n xs ≡ true → has_any (filter p xs) ≡ true) → has_any (cond c (x ∷ filter p xs) (filter p xs)) ≡ true
    go b e k true d ih = refl
    go true e k false d ih = let yes : p x ≡ true = ap p (eqb-true x n e) ∙ t in cc
    go false e k false d ih = ih k

-- and is found where something is said of it
found-any : {Y : Type 0} (p : ℕ → Bool) (f : ℕ → Option Y) (n : ℕ) (xs : List ℕ) → has n xs ≡ true → p n ≡ true →
    is_some (f n) ≡ true → filter_map f (filter p xs) ≡ [] → ⊥
found-any p f n [] k t s e = cc
found-any {Y} p f n (x ∷ xs) k t s e = go (x == n) refl k (p x) refl e (λ k e. found-any p f n xs k t s e)
  where
    here : (y : Option Y) → is_some y ≡ true → (ys : List Y) → cons_option y ys ≡ [] → ⊥
    here None s ys e = cc
    here (Some y) s ys e = cc

    rest : (y : Option Y) (ys : List Y) → cons_option y ys ≡ [] → ys ≡ []
    rest None ys e = e
    rest (Some y) ys e = cc

    go : (b : Bool) → (x == n) ≡ b → (b || has n xs) ≡ true → (c : Bool) → p x ≡ c →
        filter_map f (cond c (x ∷ filter p xs) (filter p xs)) ≡ [] →
        (has n xs ≡ true → filter_map f (filter p xs) ≡ [] → ⊥) → ⊥
    go true g k true d e ih = here (f x) (ap (λ i. is_some (f i)) (eqb-true x n g) ∙ s) (filter_map f (filter p xs)) e
    go true g k false d e ih = let yes : p x ≡ true = ap p (eqb-true x n g) ∙ t in cc
    go false g k true d e ih = ih k (rest (f x) (filter_map f (filter p xs)) e)
    go false g k false d e ih = ih k e

-- where no operation is open, every request is answered
pub none_waits : (h : History) → Lawful h → open_operations h ≡ [] → (r : ℕ) → r < asks h → is_answered r h ≡ true
none_waits h l none r le = go (is_answered r h) refl (asked r h) refl (asked-below h l r le)
  where
    opened : (o : ℕ) → lead_of r h ≡ Some o → is_answered r h ≡ false → (x : Option Operation) → operation o h ≡ x →
        is_some x ≡ true → ⊥
    opened o f w None e s = cc
    opened o f w (Some p) e s =
        found-any (λ o. is_open o h) (λ o. operation o h) o (operations h)
        (began h o (operation-led o h p e))
        (kept-any (λ r. not (is_answered r h)) r (requests o h) (requested h r o f) (ap not w))
        (ap (λ (x : Option Operation). is_some x) e) none

    go : (b : Bool) → is_answered r h ≡ b → (x : Option Asked) → asked r h ≡ x → is_some x ≡ true → b ≡ true
    go true w x k s = refl
    go false w None k s = cc
    go false w (Some a) k s =
        let f : lead_of r h ≡ Some a.lead = ap (option_map (λ (a : Asked). a.lead)) k in
        absurd (opened a.lead f w (operation a.lead h) refl (lead-operation h l r a.lead f))
