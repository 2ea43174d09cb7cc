-- The entry that asks an operation's first request says when its total time is over.
use Rattle.std.proofs.Common.{
  ℕ,
  [],
  ◌∷◌,
  ap₂,
  subst,
  Bool,
  true,
  false,
  ◌≡◌,
  ◌≤◌,
  ◌+◌,
  ◌==◌,
  ◌&&◌,
  refl,
  ap,
  sym,
  ◌∙◌,
  Option,
  Some,
  None,
  IsTrue,
  cond,
  arith,
}
use Rattle.std.proofs.lemmas.Bool.{leb-true}
use Rattle.std.specs.Prelude.{option_map, option_and_then, nat_le}
use Rattle.fnc_journal.specs.declared.limits.TheConstants.{DAY, GREATEST_MOMENT}
use Rattle.fnc_journal.specs.declared.entry.Entry.{Entry}
use Rattle.fnc_journal.specs.declared.event.Event.{Event}
use Rattle.fnc_journal.specs.declared.event.Request.{Request}
use Rattle.fnc_journal.specs.History.{History}
use Rattle.fnc_journal.specs.Missing.{or_here}
use Rattle.fnc_journal.specs.Found.{Asked, asked, asked_here, asks, said}
use Rattle.fnc_journal.specs.Levels.{is_in_place}
use Rattle.fnc_journal.specs.Slots.{Operation, operation_of}
use Rattle.fnc_journal.specs.Operations.{led, operation}
use Rattle.fnc_journal.specs.Lawful.{Lawful, in_order, may_ask}
use Rattle.fnc_journal.proofs.Frames.{or_here-some}
use Rattle.fnc_journal.proofs.Lawfulness.{and-left, and-right, in_order-of}
use Rattle.fnc_records.specs.SlotRecords.{capped}
use Rattle.fnc_core.specs.Limits.{over_by}

-- what an entry says of a request that it asks
abbrev told : ℕ → Request → History → Asked
told m q before = record {
  moment = m;
  lead = q.lead.0;
  kind = q.kind;
  target = q.target;
  total = q.total;
  coin = q.coin;
  scope = q.scope;
  before = before;
}

-- a request came no later than at the greatest moment, and its total is a day at most
record IsShort (a : Asked) : Type 0 where
  pub early : a.moment ≤ GREATEST_MOMENT
  pub short : a.total ≤ DAY

fits : (m total : ℕ) → m ≤ GREATEST_MOMENT → total ≤ DAY → capped 64 (m + total) ≡ m + total
fits m total a b = grind arith

fourth : (a b c d e : Bool) → (a && b && c && d && e) ≡ true → d ≡ true
fourth a b c d e p = and-right (a && b && c) d (and-left (a && b && c && d) e p)

asked-short : (h : History) → Lawful h → (r : ℕ) (a : Asked) → asked r h ≡ Some a → IsShort a
asked-short [] l r a e = cc
asked-short (e ∷ before) l r a f =
    go e.event (in_order-of e.moment e.event before l.0.ordered) (asked r before) (λ k. asked-short before l.1 r a k) f
  where
    early : e.moment ≤ GREATEST_MOMENT
    early = leb-true e.moment GREATEST_MOMENT (and-left _ _ (and-left _ _ l.0.ordered))

    go : (event : Event) → IsTrue (in_order event before) → (x : Option Asked) → (x ≡ Some a → IsShort a) →
        or_here x (asked_here r e.moment before event) ≡ Some a → IsShort a
    go event i (Some b) ih g = ih (sym (or_here-some b (asked_here r e.moment before event)) ∙ g)
    go (Event.Ask q) i None ih g = this (r == q.req.0) g
      where
        short : q.total ≤ DAY
        short =
            leb-true q.total DAY
            (fourth (q.req.0 == asks before) (may_ask q.kind) (nat_le 1 q.total) (nat_le q.total DAY)
            (is_in_place q.scope q.target before) i)

        this : (b : Bool) → or_here None (cond b (Some (told e.moment q before)) None) ≡ Some a → IsShort a
        this true k = let same : told e.moment q before ≡ a =
            cc in subst IsShort same (record { early = early; short = short })
        this false k = cc
    go _ i None ih g = cc

-- the entry that says what the request of a number is, says when the total time of its operation is over
pub over-found : (h : History) → Lawful h → (r : ℕ) (o : Operation) → operation r h ≡ Some o → (e : Entry) →
    option_map said (asked r h) ≡ asked_here r e.moment [] e.event → over_by e.moment e.event ≡ o.over
over-found h l r o f e same = go (asked r h) refl f same
  where
    go : (x : Option Asked) → asked r h ≡ x → option_and_then (led r) x ≡ Some o →
        option_map said x ≡ asked_here r e.moment [] e.event → over_by e.moment e.event ≡ o.over
    go None k f s = cc
    go (Some a) k f s = here e.event s ∙ leads (r == a.lead) f
      where
        own : IsShort a
        own = asked-short h l r a k

        leads : (b : Bool) → cond b (Some (operation_of r a)) None ≡ Some o → a.moment + a.total ≡ o.over
        leads true g = let same : operation_of r a ≡ o = cc in ap (λ (p : Operation). p.over) same
        leads false g = cc

        here : (event : Event) → Some (said a) ≡ asked_here r e.moment [] event →
            over_by e.moment event ≡ a.moment + a.total
        here (Event.Ask q) s = this (r == q.req.0) s
          where
            this : (b : Bool) → Some (said a) ≡ cond b (Some (told e.moment q [])) None →
                capped 64 (e.moment + q.total) ≡ a.moment + a.total
            this true t =
                let same : said a ≡ told e.moment q [] = cc in
                let moment : a.moment ≡ e.moment = ap (λ (b : Asked). b.moment) same in
                let total : a.total ≡ q.total = ap (λ (b : Asked). b.total) same in
                ap₂ (λ (m n : ℕ). capped 64 (m + n)) (sym moment) (sym total)
                ∙ fits a.moment a.total own.early own.short
            this false t = cc
        here _ s = cc

-- where no entry asks it, no operation has its number
pub over-none : (h : History) (r : ℕ) (o : Operation) → operation r h ≡ Some o → option_map said (asked r h) ≡ None → ⊥
over-none h r o f same = go (asked r h) f same
  where
    go : (x : Option Asked) → option_and_then (led r) x ≡ Some o → option_map said x ≡ None → ⊥
    go None f s = cc
    go (Some a) f s = cc
