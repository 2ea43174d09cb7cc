-- Where an operation stands at no slot, an answer is due to it.
use Rattle.std.proofs.Common.{
  ℕ,
  List,
  [],
  ◌∷◌,
  Bool,
  true,
  false,
  ◌≡◌,
  refl,
  Option,
  Some,
  None,
  is_some,
  ◌||◌,
  ◌&&◌,
  not,
  cond,
}
use Rattle.std.specs.Prelude.{find, option_map, option_and_then}
use Rattle.std.specs.List.{list_any, list_all}
use Rattle.std.specs.Option.{option_or}
use Rattle.fnc_journal.specs.declared.entry.Answer.{Answer}
use Rattle.fnc_journal.specs.Device.{cuts_power}
use Rattle.fnc_journal.specs.Slots.{Task, Operation, Rank, queries}
use Rattle.fnc_journal.specs.Acts.{Act, confirmed, concluded}
use Rattle.fnc_journal.specs.Standing.{
  queries_concluded,
  ranks,
  lost,
  is_lost_by,
  first_kept,
  standing_in,
  standing_among,
  standing,
}
use Rattle.fnc_journal.specs.Due.{answer_passed, is_done, passed_among, failure_due, due_among, due_by_acts, due}

-- where none fails a test, all pass
none-fails : {X : Type 0} (p : X → Bool) (xs : List X) → find (λ x. not (p x)) xs ≡ None → list_all p xs ≡ true
none-fails p [] e = refl
none-fails p (x ∷ xs) e = go (p x) e (none-fails p xs)
  where
    go : (b : Bool) → cond (not b) (Some x) (find (λ x. not (p x)) xs) ≡ None →
        (find (λ x. not (p x)) xs ≡ None → list_all p xs ≡ true) → (b && list_all p xs) ≡ true
    go true e ih = ih e
    go false e ih = cc

first-none : {X : Type 0} (x y : Option X) → option_or x y ≡ None → x ≡ None
first-none None y e = refl
first-none (Some x) y e = cc

second-none : {X : Type 0} (x y : Option X) → option_or x y ≡ None → y ≡ None
second-none None y e = e
second-none (Some x) y e = cc

module _ (o : Operation) (m : ℕ) (xs : List Act) where
  -- a level at no slot of which it stands is done
  done : (l : Rank) → standing_in o m xs l ≡ None → is_done o m xs l ≡ true
  done l e = rw (firsts, ons) refl
    where
      unconfirmed : Option Task
      unconfirmed = find (λ t. not (confirmed t o.over xs)) l.firsts

      unconcluded : Option Task
      unconcluded = find (λ t. not (concluded t o.over m xs)) l.ons

      firsts : list_all (λ t. confirmed t o.over xs) l.firsts ≡ true
      firsts = none-fails (λ t. confirmed t o.over xs) l.firsts (first-none unconfirmed unconcluded e)

      ons : list_all (λ t. concluded t o.over m xs) l.ons ≡ true
      ons = none-fails (λ t. concluded t o.over m xs) l.ons (second-none unconfirmed unconcluded e)

  -- a level passes, or all are lost
  passing : (ls : List Rank) → option_and_then (standing_in o m xs) (first_kept o m xs ls) ≡ None →
      (is_some (passed_among o m xs ls) || list_all (lost o m xs) ls) ≡ true
  passing [] e = refl
  passing (l ∷ ls) e = go (lost o m xs l) refl e (not l.unfit && is_done o m xs l) refl (passing ls)
    where
      fit : (b : Bool) → (b || list_any (is_lost_by o m xs) l.firsts) ≡ false → not b ≡ true
      fit true e = cc
      fit false e = refl

      go : (b : Bool) → lost o m xs l ≡ b →
          option_and_then (standing_in o m xs) (cond (not b) (Some l) (first_kept o m xs ls)) ≡ None →
          (c : Bool) → (not l.unfit && is_done o m xs l) ≡ c →
          (option_and_then (standing_in o m xs) (first_kept o m xs ls) ≡ None →
          (is_some (passed_among o m xs ls) || list_all (lost o m xs) ls) ≡ true) →
          (is_some (cond c (Some l) (cond b (passed_among o m xs ls) None)) || (b && list_all (lost o m xs) ls)) ≡ true
      go b k e true d ih = refl
      go true k e false d ih = ih e
      go false k e false d ih =
          let yes : (not l.unfit && is_done o m xs l) ≡ true = rw (fit l.unfit k, done l e) refl in cc

  failing : (ls : List Rank) → queries_concluded o m xs ≡ true → list_all (lost o m xs) ls ≡ true →
      is_some (failure_due o m xs ls) ≡ true
  failing [] q e = rw q refl
  failing (l ∷ ls) q e = rw (q, e) refl

  due-some : (x : Option Rank) (b : Bool) (y : Option Answer) → (is_some x || b) ≡ true →
      (b ≡ true → is_some y ≡ true) → is_some (option_or (option_map answer_passed x) y) ≡ true
  due-some (Some l) b y e f = refl
  due-some None b y e f = f e

  standing-due : (ls : List Rank) → standing_among o m xs ls ≡ None → is_some (due_among o m xs ls) ≡ true
  standing-due ls e =
      due-some (passed_among o m xs ls) (list_all (lost o m xs) ls) (failure_due o m xs ls)
      (passing ls (second-none asking in_level e))
      (λ k. failing ls (none-fails (λ q. concluded q o.over m xs) (queries o)
      (first-none asking in_level e)) k)
    where
      asking : Option Task
      asking = find (λ q. not (concluded q o.over m xs)) (queries o)

      in_level : Option Task
      in_level = option_and_then (standing_in o m xs) (first_kept o m xs ls)

  -- whatever an operator said
  pub nowhere-due : (b : Bool) → standing o m xs ≡ None → is_some (due o m b xs) ≡ true
  nowhere-due b e = go (b && cuts_power o.kind)
    where
      go : (c : Bool) → is_some (cond c (Some Answer.Confirmed) (due_by_acts o m xs)) ≡ true
      go true = refl
      go false = standing-due (ranks o m xs) e
