-- With a reply to a request of an open operation less is owed: one reply, and all that the operation owes where it is
-- closed by it.
use Rattle.std.proofs.Common.{
  ℕ,
  List,
  [],
  ◌∷◌,
  Bool,
  true,
  false,
  ◌≡◌,
  ◌==◌,
  ◌≤◌,
  ◌+◌,
  refl,
  ap,
  sym,
  subst,
  arith,
  length,
  not,
  cond,
  Some,
}
use Rattle.std.specs.Prelude.{find, filter}
use Rattle.fnc_journal.specs.declared.entry.Answer.{Answer}
use Rattle.fnc_journal.specs.declared.entry.Req.{Req}
use Rattle.fnc_journal.specs.History.{History}
use Rattle.fnc_journal.specs.Found.{is_answered}
use Rattle.fnc_journal.specs.Slots.{Operation}
use Rattle.fnc_journal.specs.Operations.{first_due, is_due, is_open, open_operations, requests, unanswered}
use Rattle.fnc_journal.specs.Owed.{owed, owed_by, owed_by_all}
use Rattle.fnc_journal.specs.Startable.{alive_runs}
use Rattle.fnc_journal.specs.Lawful.{Lawful}
use Rattle.fnc_journal.proofs.Each.{filter-or}
use Rattle.fnc_journal.proofs.Members.{unanswered-reply}
use Rattle.fnc_ops.specs.Stands.{reply_entry}
use Rattle.fnc_ops.proofs.StandsReplies.{open-reply}

length-filter : (p : ℕ → Bool) (xs : List ℕ) → length (filter p xs) ≤ length xs
length-filter p [] = omega arith
length-filter p (x ∷ xs) = go (p x) (length-filter p xs)
  where
    go : (b : Bool) → length (filter p xs) ≤ length xs →
        length (cond b (x ∷ filter p xs) (filter p xs)) ≤ length (x ∷ xs)
    go true k = omega (arith, k)
    go false k = omega (arith, k)

module _ (h : History) (m : ℕ) (req : Req) (answer : Answer) where
  -- no operation owes more
  owed_by-reply : (o : Operation) → owed_by (reply_entry m req answer ∷ h) o ≤ owed_by h o
  owed_by-reply o =
      let less : unanswered o.req (reply_entry m req answer ∷ h) ≡ filter (λ x. not (x == req.0)) (unanswered o.req h) =
      filter-or (λ x. x == req.0) (λ x. is_answered x h) (requests o.req h) in
      let most : length (filter (λ x. not (x == req.0)) (unanswered o.req h)) ≤ length (unanswered o.req h) =
      length-filter (λ x. not (x == req.0)) (unanswered o.req h) in
      let same : length (unanswered o.req (reply_entry m req answer ∷ h)) ≡ length
      (filter (λ x. not (x == req.0)) (unanswered o.req h)) = ap length less in
      omega (arith, most, same)

  owed_by_all-reply : (still : Operation → Bool) (os : List Operation) →
      owed_by_all (reply_entry m req answer ∷ h) (filter still os) ≤ owed_by_all h os
  owed_by_all-reply still [] = omega arith
  owed_by_all-reply still (o ∷ os) = go (still o) (owed_by_all-reply still os)
    where
      go : (b : Bool) → owed_by_all (reply_entry m req answer ∷ h) (filter still os) ≤ owed_by_all h os →
          owed_by_all (reply_entry m req answer ∷ h)
          (cond b (o ∷ filter still os) (filter still os)) ≤ owed_by h o + owed_by_all h os
      go true k = let less = owed_by-reply o in omega (arith, k, less)
      go false k = omega (arith, k)

  -- one of them owes less
  owed_by_all-falls : (still q : Operation → Bool) (os : List Operation) (o : Operation) → find q os ≡ Some o →
      owed_by (reply_entry m req answer ∷ h) o + 1 ≤ owed_by h o →
      owed_by_all (reply_entry m req answer ∷ h) (filter still os) + 1 ≤ owed_by_all h os
  owed_by_all-falls still q [] o f k = cc
  owed_by_all-falls still q (x ∷ os) o f k =
      go (q x) (still x) f (owed_by_all-reply still os) (λ g. owed_by_all-falls still q os o g k)
    where
      go : (b c : Bool) → cond b (Some x) (find q os) ≡ Some o →
          owed_by_all (reply_entry m req answer ∷ h) (filter still os) ≤ owed_by_all h os →
          (find q os ≡ Some o → owed_by_all (reply_entry m req answer ∷ h) (filter still os) + 1 ≤ owed_by_all h os) →
          owed_by_all (reply_entry m req answer ∷ h)
          (cond c (x ∷ filter still os) (filter still os)) + 1 ≤ owed_by h x + owed_by_all h os
      go true true g l ih =
          let same : x ≡ o = cc in
          let here : owed_by (reply_entry m req answer ∷ h) x + 1 ≤ owed_by h x =
          subst (λ (y : Operation). owed_by (reply_entry m req answer ∷ h) y + 1 ≤ owed_by h y) (sym same) k in
          omega (arith, l, here)
      go true false g l ih =
          let same : x ≡ o = cc in
          let here : owed_by (reply_entry m req answer ∷ h) x + 1 ≤ owed_by h x =
          subst (λ (y : Operation). owed_by (reply_entry m req answer ∷ h) y + 1 ≤ owed_by h y) (sym same) k in
          omega (arith, l, here)
      go false true g l ih = let more = ih g in let less = owed_by-reply x in omega (arith, more, less)
      go false false g l ih = let more = ih g in omega (arith, more)

-- what is owed falls by one at least
pub owed-reply : (h : History) → Lawful h → (m r : ℕ) (answer : Answer) (o : Operation) (rest : List ℕ) →
    first_due h m ≡ Some o → unanswered o.req h ≡ r ∷ rest →
    owed (reply_entry m (record { 0 = r }) answer ∷ h) + 1 ≤ owed h
owed-reply h l m r answer o rest f u =
    let e = reply_entry m (record { 0 = r }) answer in
    let before : length (unanswered o.req h) ≡ length (r ∷ rest) = ap length u in
    let after : length (unanswered o.req (e ∷ h)) ≡ length rest =
    ap length (unanswered-reply h l o.req m r answer rest u) in
    let here : owed_by (e ∷ h) o + 1 ≤ owed_by h o = omega (arith, before, after) in
    let falls : owed_by_all (e ∷ h) (filter (λ (p : Operation). is_open p.req (e ∷ h)) (open_operations h)) + 1
    ≤ owed_by_all h (open_operations h) =
    owed_by_all-falls h m (record { 0 = r }) answer (λ (p : Operation). is_open p.req (e ∷ h)) (is_due h m)
    (open_operations h) o f here in
    let left : owed_by_all (e ∷ h) (open_operations (e ∷ h)) ≡ owed_by_all (e ∷ h)
    (filter (λ (p : Operation). is_open p.req (e ∷ h)) (open_operations h)) =
    ap (owed_by_all (e ∷ h)) (open-reply h m (record { 0 = r }) answer) in
    let alive : length (alive_runs (e ∷ h)) ≡ length (alive_runs h) = refl in
    omega (arith, falls, left, alive)
