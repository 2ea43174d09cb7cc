-- Where something stands among the first entries of a journal, and what is found there.
use Rattle.std.proofs.Common.{ℕ, [], ◌∷◌, Bool, true, false, ◌≡◌, ◌<◌, ◌≤◌, ◌==◌, ◌∙◌, refl, ap, ap₂, sym, Option, Some, None}
use Rattle.std.proofs.Common.{arith, cond, length, ltb, ltb-true, le-ltb, lt-ltb, is_some}
use Rattle.std.specs.Prelude.{option_and_then}
use Rattle.fnc_journal.specs.declared.entry.Entry.{Entry}
use Rattle.fnc_journal.specs.declared.event.Event.{Event}
use Rattle.fnc_journal.specs.History.{History}
use Rattle.fnc_journal.specs.Missing.{or_here}
use Rattle.fnc_journal.specs.Found.{Asked, asked, asked_here, asked_of, entry_at, is_ask_of}
use Rattle.fnc_journal.specs.Links.{ask_at, first_at}
use Rattle.fnc_journal.specs.Prefix.{prefix}
use Rattle.fnc_journal.proofs.Finds.{earlier_stays, entry_at-newest, entry_at-push}
use Rattle.fnc_journal.proofs.Prefixes.{prefix-all}
use Rattle.fnc_search.proofs.Prefixed.{prefix-length}
use Rattle.fnc_search.specs.Within.{within}

-- what is found stands in the journal
pub first_at-less : (p : Event → Bool) (h : History) (i : ℕ) → first_at p h ≡ Some i → i < length h
first_at-less p [] i k = cc
first_at-less p (e ∷ h) i k = go (first_at p h) (λ j s. first_at-less p h j s) (p e.event) k
  where
    go : (a : Option ℕ) → ((j : ℕ) → a ≡ Some j → j < length h) → (b : Bool) →
        or_here a (cond b (Some (length h)) None) ≡ Some i → i < length (e ∷ h)
    go None low true k = let same : length h ≡ i = cc in omega arith
    go None low false k = cc
    go (Some j) low true k =
        let same : j ≡ i = cc in let less : j < length h = low j refl in omega (arith, same, less)
    go (Some j) low false k =
        let same : j ≡ i = cc in let less : j < length h = low j refl in omega (arith, same, less)

-- all that is found is within so many entries as there are
all-within : (a : Option ℕ) (n : ℕ) → ((i : ℕ) → a ≡ Some i → i < n) → within n a ≡ a
all-within None n k = refl
all-within (Some i) n k = rw (lt-ltb i n (k i refl)) refl

-- the first of some first entries is the first of all, where that is one of them
pub first_at-within : (p : Event → Bool) (h : History) (n : ℕ) → first_at p (prefix n h) ≡ within n (first_at p h)
first_at-within p [] n = refl
first_at-within p (e ∷ h) n = go (ltb (length h) n) refl (first_at-within p h n)
  where
    later : (a : Option ℕ) (b : Bool) → ltb (length h) n ≡ false →
        within n a ≡ within n (or_here a (cond b (Some (length h)) None))
    later None true k = rw k refl
    later None false k = refl
    later (Some i) true k = refl
    later (Some i) false k = refl

    go : (b : Bool) → ltb (length h) n ≡ b → first_at p (prefix n h) ≡ within n (first_at p h) →
        first_at p (cond b (e ∷ h) (prefix n h)) ≡ within n (first_at p (e ∷ h))
    go true k ih =
        let less : length h < n = ltb-true (length h) n k in
        sym (all-within (first_at p (e ∷ h)) n
        (λ i f. let low : i < length (e ∷ h) = first_at-less p (e ∷ h) i f in omega (arith, low, less)))
    go false k ih = ih ∙ later (first_at p h) (p e.event) k

-- so an index that the whole journal gives is that of the first entries, where it is within these
pub points : (p : Event → Bool) (h now : History) (n : ℕ) (at found : Option ℕ) → n ≤ length h → prefix n h ≡ now →
    at ≡ first_at p h → found ≡ within (length now) at → found ≡ first_at p now
points p h now n at found l same is f =
    let long : length now ≡ n = sym (ap (λ (k : History). length k) same) ∙ prefix-length h n l in
    f ∙ ap₂ within long is ∙ sym (first_at-within p h n) ∙ ap (first_at p) same

-- what is said of the entry of an index, where it is known
pub said-nowhere : {X : Type 0} (f : Entry → Option X) (h : History) (at : Option ℕ) (x : Option X) →
    x ≡ option_and_then f (option_and_then (λ i. entry_at i h) at) → at ≡ None → x ≡ None
said-nowhere f h at x is none = is ∙ ap (λ a. option_and_then f (option_and_then (λ i. entry_at i h) a)) none

pub said-there : {X : Type 0} (f : Entry → Option X) (h : History) (at : Option ℕ) (i : ℕ) (e : Entry) (x : Option X) →
    x ≡ option_and_then f (option_and_then (λ j. entry_at j h) at) → at ≡ Some i → entry_at i h ≡ Some e → x ≡ f e
said-there f h at i e x is there here =
    is ∙ ap (λ a. option_and_then f (option_and_then (λ j. entry_at j h) a)) there ∙ ap (option_and_then f) here

-- the request that is asked in the entry of an index
abbrev pub asked_in : ℕ → History → Option ℕ → Option Asked
asked_in r h None = None
asked_in r h (Some i) = option_and_then (λ (e : Entry). asked_here r e.moment (prefix i h) e.event) (entry_at i h)

abbrev IsAsked : ℕ → History → Option ℕ → Type 0
IsAsked r h None = asked r h ≡ None
IsAsked r h (Some i) = (i < length h) × (asked r h ≡ asked_in r h (Some i)) × (is_some (asked r h) ≡ true)

none : {X : Type 0} (x : Option X) → false ≡ is_some x → or_here None x ≡ None
none None p = refl
none (Some x) p = cc

alone : {X : Type 0} (x : Option X) → or_here None x ≡ x
alone None = refl
alone (Some x) = refl

some : {X : Type 0} (x : Option X) → true ≡ is_some x → is_some (or_here None x) ≡ true
some None p = cc
some (Some x) p = refl

-- what lies before the newest entry, and before an older one
pub before-newest : (e : Entry) (h : History) → prefix (length h) (e ∷ h) ≡ h
before-newest e h = rw (le-ltb (length h) (length h) (omega arith)) (prefix-all h (length h) (omega arith))

pub before-older : (e : Entry) (h : History) (i : ℕ) → i < length h → prefix i (e ∷ h) ≡ prefix i h
before-older e h i l = rw (le-ltb (length h) i (omega (arith, l))) refl

asked-newest : (r : ℕ) (e : Entry) (h : History) →
    asked_in r (e ∷ h) (Some (length h)) ≡ asked_here r e.moment h e.event
asked-newest r e h =
    ap (option_and_then (λ (d : Entry). asked_here r d.moment (prefix (length h) (e ∷ h)) d.event)) (entry_at-newest e h)
    ∙ ap (λ (b : History). asked_here r e.moment b e.event) (before-newest e h)

asked-older : (r : ℕ) (e : Entry) (h : History) (i : ℕ) → i < length h →
    asked_in r (e ∷ h) (Some i) ≡ asked_in r h (Some i)
asked-older r e h i l =
    ap (option_and_then (λ (d : Entry). asked_here r d.moment (prefix i (e ∷ h)) d.event)) (entry_at-push e h i l)
    ∙ ap (λ (b : History). option_and_then (λ (d : Entry). asked_here r d.moment b d.event) (entry_at i h))
    (before-older e h i l)

step : (r : ℕ) (e : Entry) (h : History) (a : Option ℕ) (b : Bool) → b ≡ is_some (asked_here r e.moment h e.event) →
    IsAsked r h a → IsAsked r (e ∷ h) (or_here a (cond b (Some (length h)) None))
step r e h None false p k = rw k (none (asked_here r e.moment h e.event) p)
step r e h None true p k = (
  omega arith,
  rw k (alone (asked_here r e.moment h e.event)) ∙ sym (asked-newest r e h),
  rw k (some (asked_here r e.moment h e.event) p),
)
step r e h (Some i) false p k =
    let stays = earlier_stays (asked r h) (asked_here r e.moment h e.event) k.2 in
    (omega (arith, k.0), stays ∙ k.1 ∙ sym (asked-older r e h i k.0), ap is_some stays ∙ k.2)
step r e h (Some i) true p k =
    let stays = earlier_stays (asked r h) (asked_here r e.moment h e.event) k.2 in
    (omega (arith, k.0), stays ∙ k.1 ∙ sym (asked-older r e h i k.0), ap is_some stays ∙ k.2)

says-asked : (r m : ℕ) (h : History) (event : Event) → is_ask_of r event ≡ is_some (asked_here r m h event)
says-asked r m h (Event.Ask ask) = go (r == ask.req.0)
  where
    go : (b : Bool) → b ≡ is_some (cond b (Some (asked_of m h ask)) None)
    go true = refl
    go false = refl
says-asked r m h _ = refl

asked-is : (r : ℕ) (h : History) → IsAsked r h (ask_at r h)
asked-is r [] = refl
asked-is r (e ∷ h) =
    step r e h (ask_at r h) (is_ask_of r e.event) (says-asked r e.moment h e.event) (asked-is r h)

-- the request of a number is what its entry says, with what lies before that
pub asked-where : (r : ℕ) (h : History) → asked r h ≡ asked_in r h (ask_at r h)
asked-where r h = go (ask_at r h) (asked-is r h)
  where
    go : (a : Option ℕ) → IsAsked r h a → asked r h ≡ asked_in r h a
    go None k = k
    go (Some i) k = k.1

pub asked-nowhere : (r : ℕ) (h : History) → ask_at r h ≡ None → asked r h ≡ None
asked-nowhere r h none = asked-where r h ∙ ap (asked_in r h) none

pub asked-there : (r : ℕ) (h before : History) (i : ℕ) (e : Entry) → ask_at r h ≡ Some i → entry_at i h ≡ Some e →
    before ≡ prefix i h → asked r h ≡ asked_here r e.moment before e.event
asked-there r h before i e there here same =
    asked-where r h ∙ ap (asked_in r h) there
    ∙ ap (option_and_then (λ (d : Entry). asked_here r d.moment (prefix i h) d.event)) here
    ∙ ap (λ (b : History). asked_here r e.moment b e.event) (sym same)
