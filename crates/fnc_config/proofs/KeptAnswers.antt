-- What a device has kept is found by going back over a lawful journal: its moments rise, and what an exit says of its
-- run is the same in all of the journal as in what lay before it.
use Rattle.std.proofs.Common.{
  ℕ,
  List,
  [],
  ◌∷◌,
  Bool,
  true,
  false,
  ◌≡◌,
  ◌≤◌,
  ◌<◌,
  ◌==◌,
  ◌+◌,
  ◌-◌,
  ◌&&◌,
  ap,
  sym,
  ◌∙◌,
  refl,
  subst,
  arith,
  length,
  nat_le,
  is_some,
  true≢false,
  None,
  Some,
  Option,
  IsTrue,
  if◌then◌else◌,
  cond,
}
use Rattle.std.specs.Prelude.{bytes_eq, option_map, unwrap_or}
use Rattle.std.specs.Option.{option_or}
use Rattle.std.proofs.lemmas.Bool.{leb-false, leb-true, le-ltb, lt-ltb}
use Rattle.fnc_journal.specs.declared.entry.Entry.{Entry}
use Rattle.fnc_journal.specs.declared.entry.Kind.{Kind}
use Rattle.fnc_journal.specs.declared.event.Event.{Event}
use Rattle.fnc_journal.specs.declared.event.Request.{Request}
use Rattle.fnc_journal.specs.declared.event.Start.{Start}
use Rattle.fnc_journal.specs.declared.limits.TheConstants.{GREATEST_MOMENT}
use Rattle.fnc_journal.specs.Exits.{is_success}
use Rattle.fnc_journal.specs.Found.{
  Asked,
  asked,
  asked_here,
  asked_of,
  entry_at,
  request,
  requested_here,
  started,
  started_here,
}
use Rattle.fnc_journal.specs.History.{History}
use Rattle.fnc_journal.specs.Kept.{
  Listing,
  is_list_run,
  is_of_target,
  kept_until,
  last_listing,
  listing_here,
}
use Rattle.fnc_journal.specs.Lawful.{Lawful, exit_of, in_order, last_moment}
use Rattle.fnc_journal.specs.Missing.{or_here}
use Rattle.fnc_journal.specs.Operations.{operation}
use Rattle.fnc_journal.specs.Prefix.{prefix}
use Rattle.fnc_journal.specs.Same.{same_kind}
use Rattle.fnc_journal.proofs.Frames.{or_here-some}
use Rattle.fnc_journal.proofs.Lawfulness.{and-left, and-right, in_order-of}
use Rattle.fnc_journal.proofs.Prefixes.{prefix-more}
use Rattle.fnc_journal.proofs.Requests.{operation-asked}
use Rattle.fnc_config.specs.Planning.{is_list_start, is_request_for, kept_among, listed_by}

or-some : (o r : Option Bool) → is_some o ≡ true → o ≡ option_or o r
or-some None r p = absurd (true≢false (sym p))
or-some (Some x) r p = refl

or-none : (o r : Option Bool) → is_some o ≡ false → r ≡ option_or o r
or-none None r p = refl
or-none (Some x) r p = absurd (true≢false p)

-- one entry back
module _ (h : History) (reg : ℕ) (target : List ℕ) (keep m i : ℕ) (e : Entry) (some : 0 < i) (most : i ≤ length h)
    (is : entry_at (i - 1) h ≡ Some e) where
  abbrev kept : History → Option Bool
  kept es = kept_among h reg target keep m es

  here : kept (prefix i h) ≡ kept (e ∷ prefix (i - 1) h)
  here =
      let less : i - 1 < length h = omega (arith, some, most) in
      let same : i - 1 + 1 ≡ i = omega (arith, some) in
      ap kept (ap (λ n. prefix n h) (sym same) ∙ prefix-more h (i - 1) e less is)

  pub none-left : nat_le (e.moment + keep) m ≡ true → None ≡ kept (prefix i h)
  none-left p = sym (here ∙ rw p refl)

  pub said-here : nat_le (e.moment + keep) m ≡ false → (answer : Option Bool) →
      answer ≡ listed_by h reg target e.event → is_some answer ≡ true → answer ≡ kept (prefix i h)
  said-here p answer said found =
      or-some answer (kept (prefix (i - 1) h)) found
      ∙ ap (λ o. option_or o (kept (prefix (i - 1) h))) said ∙ sym (here ∙ rw p refl)

  pub said-earlier : nat_le (e.moment + keep) m ≡ false → (answer : Option Bool) →
      answer ≡ listed_by h reg target e.event → is_some answer ≡ false → kept (prefix (i - 1) h) ≡ kept (prefix i h)
  said-earlier p answer said none =
      or-none answer (kept (prefix (i - 1) h)) none
      ∙ ap (λ o. option_or o (kept (prefix (i - 1) h))) said ∙ sym (here ∙ rw p refl)

-- what is found of a start or a request stays found
pub started-push : (n : ℕ) (s : Start) (e : Entry) (h : History) → started n h ≡ Some s → started n (e ∷ h) ≡ Some s
started-push n s e h p = rw p (or_here-some s (started_here n e.event))

pub request-push : (n : ℕ) (q : Request) (e : Entry) (h : History) → request n h ≡ Some q → request n (e ∷ h) ≡ Some q
request-push n q e h p = rw p (or_here-some q (requested_here n e.event))

-- a request as it was asked, and as its entry says it, has one target
abbrev target_asked : Option Asked → Option (List ℕ)
target_asked a = option_map (λ (a : Asked). a.target) a

abbrev target_requested : Option Request → Option (List ℕ)
target_requested q = option_map (λ (q : Request). q.target) q

same-or : (a b : Option Asked) (q r : Option Request) → target_asked a ≡ target_requested q →
    target_asked b ≡ target_requested r → target_asked (or_here a b) ≡ target_requested (or_here q r)
same-or None None None None p s = refl
same-or None None None (Some r) p s = cc
same-or None None (Some q) r p s = cc
same-or None (Some b) None None p s = cc
same-or None (Some b) None (Some r) p s = s
same-or None (Some b) (Some q) r p s = cc
same-or (Some a) b None r p s = cc
same-or (Some a) None (Some q) None p s = p
same-or (Some a) None (Some q) (Some r) p s = cc
same-or (Some a) (Some b) (Some q) None p s = cc
same-or (Some a) (Some b) (Some q) (Some r) p s = p

same-here : (n m : ℕ) (h : History) (event : Event) →
    target_asked (asked_here n m h event) ≡ target_requested (requested_here n event)
same-here n m h (Event.Ask ask) = go (n == ask.req.0)
  where
    go : (b : Bool) → target_asked (cond b (Some (asked_of m h ask)) None) ≡ target_requested (cond b (Some ask) None)
    go true = refl
    go false = refl
same-here n m h _ = refl

same-target : (n : ℕ) (h : History) → target_asked (asked n h) ≡ target_requested (request n h)
same-target n [] = refl
same-target n (e ∷ h) =
    same-or (asked n h) (asked_here n e.moment h e.event) (request n h) (requested_here n e.event) (same-target n h)
    (same-here n e.moment h e.event)

-- a start in a lawful journal is of a request
abbrev has_request : ℕ → History → Bool
has_request n h = is_some (request n h)

requested-push : (n : ℕ) (e : Entry) (h : History) → has_request n h ≡ true → has_request n (e ∷ h) ≡ true
requested-push n e h p = go (request n h) (requested_here n e.event) p
  where
    go : (o x : Option Request) → is_some o ≡ true → is_some (or_here o x) ≡ true
    go None x p = absurd (true≢false (sym p))
    go (Some q) None p = refl
    go (Some q) (Some r) p = refl

asked-requested : (n : ℕ) (h : History) → is_some (asked n h) ≡ true → has_request n h ≡ true
asked-requested n h p = go (asked n h) (request n h) (same-target n h) p
  where
    go : (a : Option Asked) (q : Option Request) → target_asked a ≡ target_requested q → is_some a ≡ true →
        is_some q ≡ true
    go None q s p = absurd (true≢false (sym p))
    go (Some a) None s p = cc
    go (Some a) (Some q) s p = refl

operation-requested : (n : ℕ) (h : History) → is_some (operation n h) ≡ true → has_request n h ≡ true
operation-requested n h p = go (operation n h) refl p
  where
    go : (o : Option _) → operation n h ≡ o → is_some o ≡ true → has_request n h ≡ true
    go None is p = absurd (true≢false (sym p))
    go (Some o) is p = asked-requested n h (operation-asked n h o is)

start-requested : (n : ℕ) (s : Start) (h : History) → Lawful h → started n h ≡ Some s → has_request s.req.0 h ≡ true
start-requested n s [] l p = cc
start-requested n s (e ∷ before) l p =
    requested-push s.req.0 e before
    (go e.event (in_order-of e.moment e.event before l.0.ordered) (started n before) refl
    (start-requested n s before l.1) p)
  where
    go : (event : Event) → IsTrue (in_order event before) → (o : Option Start) → started n before ≡ o →
        (started n before ≡ Some s → has_request s.req.0 before ≡ true) →
        or_here o (started_here n event) ≡ Some s → has_request s.req.0 before ≡ true
    go event i (Some t) is rest q = rest (is ∙ sym (or_here-some t (started_here n event)) ∙ q)
    go (Event.Start start) i None is rest q = by (n == start.run.0) q
      where
        by : (b : Bool) → or_here None (cond b (Some start) None) ≡ Some s → has_request s.req.0 before ≡ true
        by true q =
            let same : start ≡ s = cc in
            subst (λ (t : Start). has_request t.req.0 before ≡ true) same
            (operation-requested start.req.0 before (and-right _ _ (and-left _ _ i)))
        by false q = cc
    go _ i None is rest q = cc

-- what is found in an early part of a journal is found in all of it
pub record IsEarly (h es : History) : Type 0 where
  pub starts : (n : ℕ) (s : Start) → started n es ≡ Some s → started n h ≡ Some s
  pub asks : (n : ℕ) (q : Request) → request n es ≡ Some q → request n h ≡ Some q

pub early-all : (h : History) → IsEarly h h
early-all h = record { starts = λ n s p. p; asks = λ n q p. p }

pub early-rest : (h : History) (e : Entry) (es : History) → IsEarly h (e ∷ es) → IsEarly h es
early-rest h e es early = record {
  starts = λ n s p. early.starts n s (started-push n s e es p);
  asks = λ n q p. early.asks n q (request-push n q e es p);
}

module _ (h : History) (reg : ℕ) (target : List ℕ) where
  same-request : (es : History) → IsEarly h es → (n : ℕ) → has_request n es ≡ true →
      is_of_target target (asked n es) ≡ is_request_for target (request n h)
  same-request es early n some = go (asked n es) (request n es) refl (same-target n es) some
    where
      go : (a : Option Asked) (q : Option Request) → request n es ≡ q → target_asked a ≡ target_requested q →
          is_some q ≡ true → is_of_target target a ≡ is_request_for target (request n h)
      go a None is same some = absurd (true≢false (sym some))
      go None (Some q) is same some = cc
      go (Some a) (Some q) is same some =
          let one : a.target ≡ q.target = cc in
          ap (bytes_eq target) one ∙ ap (is_request_for target) (sym (early.asks n q is))

  same-start : (es : History) → Lawful es → IsEarly h es → (n : ℕ) (s : Start) → started n es ≡ Some s →
      is_list_run reg target es s ≡ is_list_start h reg target s
  same-start es l early n s is =
      ap (λ b. (reg == s.reg.0) && same_kind Kind.List s.kind && b)
      (same-request es early s.req.0 (start-requested n s es l is))

  same-run : (es : History) → Lawful es → IsEarly h es → (n : ℕ) → is_some (started n es) ≡ true →
      unwrap_or (option_map (is_list_run reg target es) (started n es)) false
      ≡ unwrap_or (option_map (is_list_start h reg target) (started n h)) false
  same-run es l early n some = go (started n es) refl some
    where
      go : (o : Option Start) → started n es ≡ o → is_some o ≡ true →
          unwrap_or (option_map (is_list_run reg target es) o) false
          ≡ unwrap_or (option_map (is_list_start h reg target) (started n h)) false
      go None is some = absurd (true≢false (sym some))
      go (Some s) is some =
          same-start es l early n s is
          ∙ ap (λ o. unwrap_or (option_map (is_list_start h reg target) o) false) (sym (early.starts n s is))

  -- what an entry says at its moment
  abbrev said_at : ℕ → Option Bool → Option Listing
  said_at m None = None
  said_at m (Some listed) = Some (record { moment = m; listed = listed })

  same-listing : (m : ℕ) (event : Event) (es : History) → IsTrue (exit_of event es) → Lawful es → IsEarly h es →
      listing_here reg target m es event ≡ said_at m (listed_by h reg target event)
  same-listing m (Event.Exit ended) es x l early =
      ap (λ b. cond (is_success Kind.List ended.exit && b) (Some (record { moment = m; listed = ended.listed })) None)
      (same-run es l early ended.run.0 (and-left _ _ x))
      ∙ go (is_success Kind.List ended.exit
      && unwrap_or (option_map (is_list_start h reg target) (started ended.run.0 h)) false)
    where
      go : (b : Bool) → cond b (Some (record { moment = m; listed = ended.listed })) None
          ≡ said_at m (cond b (Some ended.listed) None)
      go true = refl
      go false = refl
  same-listing m _ es x l early = refl

  -- nothing is kept of what lies before the moments that are past
  past : (keep m : ℕ) (es : History) → Lawful es → last_moment es + keep ≤ m →
      kept_until keep m (last_listing reg target es) ≡ None
  past keep m [] l p = refl
  past keep m (e ∷ es) l p =
      let less : last_moment es ≤ e.moment =
      leb-true (last_moment es) e.moment (and-right (nat_le e.moment GREATEST_MOMENT) _ (and-left _ _ l.0.ordered)) in
      let earlier : last_moment es + keep ≤ m = omega (arith, p, less) in
      go e.event (past keep m es l.1 earlier)
    where
      none : (b c : Bool) → kept_until keep m (last_listing reg target es) ≡ None →
          kept_until keep m (option_or (cond b (Some (record { moment = e.moment; listed = c })) None)
          (last_listing reg target es)) ≡ None
      none true c q = rw (le-ltb m (e.moment + keep) p) refl
      none false c q = q

      go : (event : Event) → kept_until keep m (last_listing reg target es) ≡ None →
          kept_until keep m (option_or (listing_here reg target e.moment es event) (last_listing reg target es)) ≡ None
      go (Event.Exit ended) q = none _ ended.listed q
      go _ q = q

  pub kept-among : (keep m : ℕ) (es : History) → Lawful es → IsEarly h es →
      kept_among h reg target keep m es ≡ kept_until keep m (last_listing reg target es)
  kept-among keep m [] l early = refl
  kept-among keep m (e ∷ es) l early =
      go (nat_le (e.moment + keep) m) refl (kept-among keep m es l.1 (early-rest h e es early))
    where
      said : (o : Option Bool) → nat_le (e.moment + keep) m ≡ false →
          kept_among h reg target keep m es ≡ kept_until keep m (last_listing reg target es) →
          option_or o (kept_among h reg target keep m es)
          ≡ kept_until keep m (option_or (said_at e.moment o) (last_listing reg target es))
      said None q rest = rest
      said (Some b) q rest = sym (rw (lt-ltb m (e.moment + keep) (leb-false (e.moment + keep) m q)) refl)

      go : (b : Bool) → nat_le (e.moment + keep) m ≡ b →
          kept_among h reg target keep m es ≡ kept_until keep m (last_listing reg target es) →
          (if b then None else option_or (listed_by h reg target e.event) (kept_among h reg target keep m es))
          ≡ kept_until keep m (last_listing reg target (e ∷ es))
      go true q rest = sym (past keep m (e ∷ es) l (leb-true _ _ q))
      go false q rest =
          said (listed_by h reg target e.event) q rest
          ∙ ap (λ o. kept_until keep m (option_or o (last_listing reg target es)))
          (sym (same-listing e.moment e.event es l.0.exits l.1 (early-rest h e es early)))
