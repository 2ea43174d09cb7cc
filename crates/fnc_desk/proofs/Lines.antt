-- The line of an entry in a lawful journal: what the whole journal finds of its names is what was found before it.
use Rattle.std.proofs.Common.{
  ap,
  ℕ,
  List,
  [],
  ◌∷◌,
  ◌++◌,
  Bool,
  true,
  false,
  ◌≡◌,
  ◌<◌,
  ◌+◌,
  ◌==◌,
  cond,
  refl,
  sym,
  ap₂,
  ◌∙◌,
  subst,
  Option,
  Some,
  None,
  IsTrue,
  is_some,
  arith,
  length,
  eqb-true,
  false-eqb,
  ltb,
  le-ltb,
  lt-ltb,
}
use Rattle.std.specs.Prelude.{option_map, option_and_then, unwrap_or}
use Rattle.fnc_outside.specs.Writes.{AppendsPart}
use Rattle.fnc_journal.specs.declared.definition.Registration.{Registration}
use Rattle.fnc_journal.specs.declared.entry.Entry.{Entry}
use Rattle.fnc_journal.specs.declared.event.Event.{Event}
use Rattle.fnc_journal.specs.declared.event.Request.{Request}
use Rattle.fnc_journal.specs.History.{History}
use Rattle.fnc_journal.specs.Missing.{or_here}
use Rattle.fnc_journal.specs.Found.{Asked, asked, asked_here, entry_at, registration, registration_here, request, requested_here}
use Rattle.fnc_journal.specs.Lawful.{Lawful, in_order}
use Rattle.fnc_journal.specs.Line.{answers_text, line_at, line_of, start_line, target_of}
use Rattle.fnc_journal.specs.Operations.{led, operation}
use Rattle.fnc_journal.specs.Prefix.{prefix}
use Rattle.fnc_journal.proofs.Lawfulness.{and-left, and-right, in_order-of}
use Rattle.fnc_journal.proofs.Prefixes.{prefix-all}
use Rattle.fnc_printing.proofs.Pieces.{part-of_front}

-- the target of what was found under a number
abbrev target_in : Option Request → Option (List ℕ)
target_in x = option_map (λ (q : Request). q.target) x

abbrev asked_target : Option Asked → Option (List ℕ)
asked_target x = option_map (λ (a : Asked). a.target) x

first-target : (x u : Option Request) (y v : Option Asked) → target_in x ≡ asked_target y →
    target_in u ≡ asked_target v →
    target_in (or_here x u) ≡ asked_target (or_here y v)
first-target None None None None e f = refl
first-target None None None (Some v) e f = cc
first-target None (Some u) None None e f = cc
first-target None (Some u) None (Some v) e f = f
first-target None u (Some y) v e f = cc
first-target (Some x) u None v e f = cc
first-target (Some x) None (Some y) None e f = e
first-target (Some x) None (Some y) (Some v) e f = e
first-target (Some x) (Some u) (Some y) None e f = e
first-target (Some x) (Some u) (Some y) (Some v) e f = e

request-target : (h : History) (r : ℕ) → target_in (request r h) ≡ asked_target (asked r h)
request-target [] r = refl
request-target (e ∷ before) r =
    first-target (request r before) (requested_here r e.event) (asked r before) (asked_here r e.moment before e.event)
    (request-target before r) (here e.event)
  where
    here : (event : Event) → target_in (requested_here r event) ≡ asked_target (asked_here r e.moment before event)
    here (Event.Ask q) = this (r == q.req.0)
      where
        told : Asked
        told = record {
          moment = e.moment;
          lead = q.lead.0;
          kind = q.kind;
          target = q.target;
          total = q.total;
          coin = q.coin;
          scope = q.scope;
          before = before;
        }

        this : (b : Bool) → target_in (cond b (Some q) None) ≡ asked_target (cond b (Some told) None)
        this true = refl
        this false = refl
    here _ = refl

-- the request that is found under a number says the target of the request of that number
pub target_found : (h : History) (r : ℕ) → unwrap_or (target_in (request r h)) [] ≡ target_of r h
target_found h r = ap (λ (x : Option (List ℕ)). unwrap_or x []) (request-target h r)

-- what a start names is in the journal
abbrev Known : Event → History → Type 0
Known (Event.Start start) h = IsTrue (is_some (registration start.reg.0 h)) × IsTrue (is_some (asked start.req.0 h))
Known _ h = Unit {0}

some-more : {X : Type 0} (x y : Option X) → IsTrue (is_some x) → IsTrue (is_some (or_here x y))
some-more None None s = s
some-more None (Some y) s = refl
some-more (Some x) None s = refl
some-more (Some x) (Some y) s = refl

first-stays : {X : Type 0} (x y : Option X) → IsTrue (is_some x) → or_here x y ≡ x
first-stays None y s = cc
first-stays (Some x) None s = refl
first-stays (Some x) (Some y) s = refl

asked-of : (o : ℕ) (h : History) → IsTrue (is_some (operation o h)) → IsTrue (is_some (asked o h))
asked-of o h s = go (asked o h) s
  where
    go : (a : Option Asked) → IsTrue (is_some (option_and_then (led o) a)) → IsTrue (is_some a)
    go None s = s
    go (Some a) s = refl

known-here : (event : Event) (h : History) → IsTrue (in_order event h) → Known event h
known-here (Event.Start start) h i = (and-right _ _ i, asked-of start.req.0 h (and-right _ _ (and-left _ _ i)))
known-here _ h i = tt

known-more : (event : Event) (e : Entry) (h : History) → Known event h → Known event (e ∷ h)
known-more (Event.Start start) e h k = (some-more (registration start.reg.0 h) (registration_here start.reg.0 e.event) k.0, some-more (asked start.req.0 h) (asked_here start.req.0 e.moment h e.event) k.1)
known-more _ e h k = tt

line-more : (event : Event) (e : Entry) (h : History) → Known event h → line_of event (e ∷ h) ≡ line_of event h
line-more (Event.Start start) e h k =
    ap₂ (λ (x : Option Registration) (y : Option Asked). start_line start.run.0 (unwrap_or (option_map (λ (r : Registration). r.name) x) []) start.kind (unwrap_or (option_map (λ (a : Asked). a.target) y) []) start.attempt)
    (first-stays (registration start.reg.0 h) (registration_here start.reg.0 e.event) k.0)
    (first-stays (asked start.req.0 h) (asked_here start.req.0 e.moment h e.event) k.1)
line-more _ e h k = refl

line-found : (h : History) → Lawful h → (n : ℕ) (e : Entry) → entry_at n h ≡ Some e →
    Known e.event h × (line_at n h ≡ line_of e.event h)
line-found [] l n e f = cc
line-found (d ∷ before) l n e f = go (n == length before) f (λ k. line-found before l.1 n e k)
  where
    go : (b : Bool) → cond b (Some d) (entry_at n before) ≡ Some e →
        (entry_at n before ≡ Some e → Known e.event before × (line_at n before ≡ line_of e.event before)) →
        Known e.event (d ∷ before) × (cond b (line_of d.event before) (line_at n before) ≡ line_of e.event (d ∷ before))
    go true f ih =
        let known = known-here d.event before (in_order-of d.moment d.event before l.0.ordered) in
        let same : d ≡ e = cc in
        subst (λ (x : Entry). Known x.event (d ∷ before) × (line_of d.event before ≡ line_of x.event (d ∷ before))) same
        (known-more d.event d before known, sym (line-more d.event d before known))
    go false f ih =
        let earlier = ih f in
        (known-more e.event d before earlier.0, earlier.1 ∙ sym (line-more e.event d before earlier.0))

-- the line of an entry, with what the whole journal finds
pub line-whole : (h : History) → Lawful h → (n : ℕ) (e : Entry) → entry_at n h ≡ Some e →
    line_at n h ≡ line_of e.event h
line-whole h l n e f = (line-found h l n e f).1

-- what is printed of one entry more
pub text-more : (h : History) (n : ℕ) → n < length h →
    answers_text (prefix (n + 1) h) ≡ answers_text (prefix n h) ++ line_at n h
text-more [] n l = absurd (omega arith)
text-more (e ∷ before) n l = go (n == length before) refl (λ k. text-more before n k)
  where
    go : (b : Bool) → (n == length before) ≡ b → (n < length before → answers_text (prefix (n + 1) before) ≡ answers_text (prefix n before) ++ line_at n before) →
        answers_text (prefix (n + 1) (e ∷ before)) ≡ answers_text (prefix n (e ∷ before))
        ++ cond b (line_of e.event before) (line_at n before)
    go true p ih =
        let same : n ≡ length before = eqb-true n (length before) p in
        rw (lt-ltb (length before) (n + 1) (omega arith), le-ltb (length before) n (omega arith), prefix-all before n (omega arith)) refl
    go false p ih =
        let other : n ≡ length before → ⊥ = false-eqb n (length before) (sym p) in
        let less : n < length before = omega arith in
        rw (le-ltb (length before) (n + 1) (omega arith), le-ltb (length before) n (omega arith)) (ih less)

-- a part of what is printed of a prefix is a part of what is printed of all
pub text-front : (start now : Option (List ℕ)) (h : History) (n : ℕ) →
    AppendsPart start now (answers_text (prefix n h)) → AppendsPart start now (answers_text h)
text-front start now [] n p = p
text-front start now (e ∷ before) n p = go (ltb (length before) n) p (λ q. text-front start now before n q)
  where
    go : (b : Bool) → AppendsPart start now (answers_text (cond b (e ∷ before) (prefix n before))) →
        (AppendsPart start now (answers_text (prefix n before)) → AppendsPart start now (answers_text before)) →
        AppendsPart start now (answers_text before ++ line_of e.event before)
    go true p ih = p
    go false p ih = part-of_front start now (answers_text before) (line_of e.event before) (ih p)
