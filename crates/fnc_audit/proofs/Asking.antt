-- The request of a number, as the first entries of a journal say it.
use Rattle.std.proofs.Common.{ℕ, [], ◌∷◌, Bool, true, false, ◌≡◌, ◌<◌, ◌≤◌, ◌==◌, refl, ap, sym, ◌∙◌, Option}
use Rattle.std.proofs.Common.{Some, None, arith, length, is_some, cond, suc, ltb, lt-ltb, le-ltb}
use Rattle.std.proofs.lemmas.Bool.{ltb-false, ltb-true}
use Rattle.fnc_journal.specs.declared.event.Event.{Event}
use Rattle.fnc_journal.specs.declared.event.Request.{Request}
use Rattle.fnc_journal.specs.History.{History}
use Rattle.fnc_journal.specs.Missing.{or_here}
use Rattle.fnc_journal.specs.Found.{is_ask_of, request, requested_here}
use Rattle.fnc_journal.specs.Links.{ask_at}
use Rattle.fnc_journal.specs.Prefix.{prefix}

-- what is known of a request where its entry was sought among so many
abbrev IsKnown : ℕ → Option Request → Option ℕ → Type 0
IsKnown len x None = x ≡ None
IsKnown len x (Some i) = (i < len) × (is_some x ≡ true)

known-more : (len : ℕ) (x y : Option Request) (a : Option ℕ) (b : Bool) → b ≡ is_some y → IsKnown len x a →
    IsKnown (suc len) (or_here x y) (or_here a (cond b (Some len) None))
known-more len None None None false p k = refl
known-more len None None None true p k = cc
known-more len None (Some y) None false p k = cc
known-more len None (Some y) None true p k = (omega arith, refl)
known-more len None y (Some i) b p k = cc
known-more len (Some x) y None b p k = cc
known-more len (Some x) None (Some i) false p k = (omega (arith, k.0), refl)
known-more len (Some x) None (Some i) true p k = (omega (arith, k.0), refl)
known-more len (Some x) (Some y) (Some i) false p k = (omega (arith, k.0), refl)
known-more len (Some x) (Some y) (Some i) true p k = (omega (arith, k.0), refl)

-- a test and what is said where it holds
says : (b : Bool) (q : Request) → b ≡ is_some (cond b (Some q) None)
says true q = refl
says false q = refl

says-request : (r : ℕ) (event : Event) → is_ask_of r event ≡ is_some (requested_here r event)
says-request r (Event.Ask q) = says (r == q.req.0) q
says-request r _ = refl

known : (r : ℕ) (h : History) → IsKnown (length h) (request r h) (ask_at r h)
known r [] = refl
known r (e ∷ before) =
    known-more (length before) (request r before) (requested_here r e.event) (ask_at r before) (is_ask_of r e.event)
    (says-request r e.event) (known r before)

-- what the first n entries say, where the entry of an index is the first that says it
abbrev seen : ℕ → Option ℕ → Option Request → Option Request
seen n None x = None
seen n (Some i) x = cond (ltb i n) x None

seen-all : (n len : ℕ) (x : Option Request) (a : Option ℕ) → len ≤ n → IsKnown len x a → x ≡ seen n a x
seen-all n len x None l k = k
seen-all n len x (Some i) l k = rw (lt-ltb i n (omega (arith, l, k.0))) refl

seen-before : (n len : ℕ) (x y z : Option Request) (a : Option ℕ) (b : Bool) → n ≤ len → IsKnown len x a →
    z ≡ seen n a x → z ≡ seen n (or_here a (cond b (Some len) None)) (or_here x y)
seen-before n len x y z None false l k s = s
seen-before n len x y z None true l k s = rw (le-ltb len n l) s
seen-before n len None y z (Some i) b l k s = cc
seen-before n len (Some x) None z (Some i) false l k s = s
seen-before n len (Some x) None z (Some i) true l k s = s
seen-before n len (Some x) (Some y) z (Some i) false l k s = s
seen-before n len (Some x) (Some y) z (Some i) true l k s = s

-- the first n entries say of a request what the whole journal says, where its first entry is among them
pub request-before : (r n : ℕ) (h : History) → request r (prefix n h) ≡ seen n (ask_at r h) (request r h)
request-before r n [] = refl
request-before r n (e ∷ before) = go (ltb (length before) n) refl (request-before r n before)
  where
    go : (b : Bool) → ltb (length before) n ≡ b → request r (prefix n before) ≡ seen n (ask_at r before) (request r before) →
        request r (cond b (e ∷ before) (prefix n before)) ≡ seen n (ask_at r (e ∷ before)) (request r (e ∷ before))
    go true p ih =
        let less : length before < n = ltb-true (length before) n p in
        seen-all n (suc (length before)) (request r (e ∷ before)) (ask_at r (e ∷ before)) (omega (arith, less))
        (known r (e ∷ before))
    go false p ih =
        seen-before n (length before) (request r before) (requested_here r e.event) _ (ask_at r before)
        (is_ask_of r e.event) (ltb-false (length before) n p) (known r before) ih

-- its first entry is among the first n
pub request-first : (r n i : ℕ) (h : History) → Some i ≡ ask_at r h → i < n → request r (prefix n h) ≡ request r h
request-first r n i h at less =
    request-before r n h ∙ ap (λ (a : Option ℕ). seen n a (request r h)) (sym at) ∙ rw (lt-ltb i n less) refl

-- its first entry is not
pub request-later : (r n i : ℕ) (h : History) → Some i ≡ ask_at r h → n ≤ i → request r (prefix n h) ≡ None
request-later r n i h at less =
    request-before r n h ∙ ap (λ (a : Option ℕ). seen n a (request r h)) (sym at) ∙ rw (le-ltb i n less) refl

-- it has none
pub request-never : (r n : ℕ) (h : History) → None ≡ ask_at r h → request r (prefix n h) ≡ None
request-never r n h at = request-before r n h ∙ ap (λ (a : Option ℕ). seen n a (request r h)) (sym at)
