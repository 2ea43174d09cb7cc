-- What a request changes of the operations that are open, where it begins its own.
use Rattle.std.proofs.Common.{ℕ, [], ◌∷◌, ◌++◌, true, false, ◌≡◌, refl, ap, ◌∙◌, Some, None, arith, ◌==◌, ne_eqb, eq-eqb}
use Rattle.std.specs.Prelude.{filter, filter_map, option_and_then}
use Rattle.std.specs.List.{AllByRecursion}
use Rattle.fnc_journal.specs.declared.entry.Entry.{Entry}
use Rattle.fnc_journal.specs.declared.event.Event.{Event}
use Rattle.fnc_journal.specs.declared.event.Request.{Request}
use Rattle.fnc_journal.specs.History.{History}
use Rattle.fnc_journal.specs.Missing.{has_any}
use Rattle.fnc_journal.specs.Found.{Asked, asked, asks, is_answered}
use Rattle.fnc_journal.specs.Slots.{operation_of}
use Rattle.fnc_journal.specs.Operations.{operation, led, operations, requests, unanswered, is_open, open_operations}
use Rattle.fnc_journal.specs.Lawful.{Lawful}
use Rattle.fnc_journal.proofs.Each.{
  each-map,
  each-filter,
  filter-same,
  filter-append,
  filter_map-append,
  filter_map-same,
}
use Rattle.fnc_journal.proofs.Requests.{fresh_ask}
use Rattle.fnc_journal.proofs.Fresh.{unasked_unanswered, unasked_unrequested, operations-small}

-- a request as one that begins its own operation
abbrev pub begins : Request → Request
begins q = record q { lead = q.req }

-- the entry of a request that begins its own operation
abbrev pub ask_entry : ℕ → Request → Entry
ask_entry m q = record { moment = m; event = Event.Ask (begins q) }

-- what is asked, after what lay before
abbrev pub asked_as : ℕ → Request → History → Asked
asked_as m q h = record {
  moment = m;
  lead = q.req.0;
  kind = q.kind;
  target = q.target;
  total = q.total;
  coin = q.coin;
  scope = q.scope;
  before = h;
}

-- a request of the next number is found
pub asked-new : (h : History) → Lawful h → (m : ℕ) (q : Request) → q.req.0 ≡ asks h →
    asked q.req.0 (ask_entry m q ∷ h) ≡ Some (asked_as m q h)
asked-new h l m q e =
    let fresh : asked q.req.0 h ≡ None = fresh_ask h l q.req.0 (omega (arith, e)) in
    let same : (q.req.0 == q.req.0) ≡ true = eq-eqb q.req.0 q.req.0 refl in
    rw (fresh, same) refl

pub operation-new : (h : History) → Lawful h → (m : ℕ) (q : Request) → q.req.0 ≡ asks h →
    operation q.req.0 (ask_entry m q ∷ h) ≡ Some (operation_of q.req.0 (asked_as m q h))
operation-new h l m q e =
    ap (option_and_then (led q.req.0)) (asked-new h l m q e)
    ∙ (let same : (q.req.0 == q.req.0) ≡ true = eq-eqb q.req.0 q.req.0 refl in rw same refl)

-- it waits alone for its own operation
pub unanswered-new : (h : History) → Lawful h → (m : ℕ) (q : Request) → q.req.0 ≡ asks h →
    unanswered q.req.0 (ask_entry m q ∷ h) ≡ q.req.0 ∷ []
unanswered-new h l m q e =
    let none : requests q.req.0 h ≡ [] = unasked_unrequested h l q.req.0 (omega (arith, e)) in
    let waits : is_answered q.req.0 h ≡ false = unasked_unanswered h l q.req.0 (omega (arith, e)) in
    let same : (q.req.0 == q.req.0) ≡ true = eq-eqb q.req.0 q.req.0 refl in
    rw (same, none, waits) refl

-- and changes nothing of who waits for another
pub unanswered-other : (h : History) (m : ℕ) (q : Request) (o : ℕ) → (o == q.req.0) ≡ false →
    unanswered o (ask_entry m q ∷ h) ≡ unanswered o h
unanswered-other h m q o e = rw e refl

-- an operation that began earlier is the same after a request of a number to come
operation-earlier : (h : History) (m : ℕ) (q : Request) (o : ℕ) → (o == q.req.0) ≡ false →
    operation o (ask_entry m q ∷ h) ≡ operation o h
operation-earlier h m q o e = rw e refl

-- the operations that are open after a request that begins its own: those before, and it
pub open-asked : (h : History) → Lawful h → (m : ℕ) (q : Request) → q.req.0 ≡ asks h →
    open_operations (ask_entry m q ∷ h)
    ≡ open_operations h ++ operation_of q.req.0 (asked_as m q h) ∷ []
open-asked h l m q e =
    ap (λ os. filter_map (λ o. operation o (ask_entry m q ∷ h)) (filter (λ o. is_open o (ask_entry m q ∷ h)) os)) listed
    ∙ ap (filter_map (λ o. operation o (ask_entry m q ∷ h))) (filter-append (λ o. is_open o (ask_entry m q ∷ h)) (operations h) q.req.0 opened ∙ ap (λ os. os ++ q.req.0 ∷ []) kept)
    ∙ filter_map-append (λ o. operation o (ask_entry m q ∷ h)) (filter (λ o. is_open o h) (operations h)) q.req.0 _ (operation-new h l m q e)
    ∙ ap (λ os. os ++ operation_of q.req.0 (asked_as m q h) ∷ []) (filter_map-same _ _ _ (each-filter _ (λ o. is_open o h) (operations h) earlier))
  where
    others : AllByRecursion (λ o. (o == q.req.0) ≡ false) (operations h)
    others = each-map _ _ (operations h) (λ o k. ne_eqb o q.req.0 (λ g. omega (arith, e))) (operations-small h l)

    listed : operations (ask_entry m q ∷ h) ≡ operations h ++ q.req.0 ∷ []
    listed = let same : (q.req.0 == q.req.0) ≡ true = eq-eqb q.req.0 q.req.0 refl in rw same refl

    opened : is_open q.req.0 (ask_entry m q ∷ h) ≡ true
    opened = ap has_any (unanswered-new h l m q e)

    kept : filter (λ o. is_open o (ask_entry m q ∷ h)) (operations h) ≡ filter (λ o. is_open o h) (operations h)
    kept = filter-same _ _ (operations h) (each-map _ _ (operations h) (λ o k. ap has_any (unanswered-other h m q o k)) others)

    earlier : AllByRecursion (λ o. operation o (ask_entry m q ∷ h) ≡ operation o h) (operations h)
    earlier = each-map _ _ (operations h) (λ o k. operation-earlier h m q o k) others
