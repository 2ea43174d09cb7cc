-- What is known of the slot at which an operation stands: it is one of its slots, and not concluded.
use Rattle.std.proofs.Common.{
  ℕ,
  List,
  [],
  ◌∷◌,
  Bool,
  true,
  false,
  ◌≡◌,
  refl,
  ◌∙◌,
  Option,
  Some,
  None,
  cond,
  not,
  ◌&&◌,
  ◌||◌,
}
use Rattle.std.proofs.lemmas.Bool.{or_parts, not-true, both_ways}
use Rattle.std.specs.Prelude.{find, option_and_then}
use Rattle.std.specs.List.{list_any, list_all, AllByRecursion}
use Rattle.std.specs.Option.{option_or}
use Rattle.fnc_journal.specs.Slots.{Task, Operation, Rank, queries, ranked_from, slots_of}
use Rattle.fnc_journal.specs.Acts.{Act, is_query, concluded, spent, has_succeeded, confirmed}
use Rattle.fnc_journal.specs.Standing.{
  capable,
  queries_concluded,
  ranks,
  slots,
  lost,
  is_lost_by,
  first_kept,
  standing_in,
  standing,
}
use Rattle.fnc_journal.proofs.Each.{found-each, each-left, each-right}
use Rattle.fnc_stands.proofs.Lists.{IsIn, found-passes, none-each, each-slots}
use Rattle.fnc_stands.proofs.Sound.{IsSound, ranks-acting}

-- an Act or Off slot that is not confirmed, of a level that is not lost, is not concluded
open-by : (query succeeded spent : Bool) → query ≡ false → not (not query && succeeded) ≡ true →
    (spent && not (not query && succeeded)) ≡ false → (succeeded || spent) ≡ false
open-by true succeeded spent e f g = cc
open-by false true spent e f g = cc
open-by false false true e f g = cc
open-by false false false e f g = refl

-- which levels are tried, by what is known
pub ranks_by : (o : Operation) (m : ℕ) (xs : List Act) (a b : Bool) → o.levelled ≡ a → queries_concluded o m xs ≡ b →
    ranks o m xs ≡ cond a o.levels (cond b (ranked_from o.kind 1 (capable o xs)) [])
ranks_by o m xs a b e f = rw (e, f) refl

module _ (o : Operation) (sound : IsSound o) (m : ℕ) (xs : List Act) where
  abbrev first_open : List Task → Option Task
  first_open ts = find (λ q. not (concluded q o.over m xs)) ts

  abbrev IsActing : Task → Type 0
  IsActing t = is_query t ≡ false

  abbrev AreActing : Rank → Type 0
  AreActing l = AllByRecursion IsActing l.firsts × AllByRecursion IsActing l.ons

  each-acting : AllByRecursion AreActing (ranks o m xs)
  each-acting = each-slots IsActing (ranks o m xs) (ranks-acting o sound m xs)

  none-open : (ts : List Task) → first_open ts ≡ None → list_all (λ q. concluded q o.over m xs) ts ≡ true
  none-open [] e = refl
  none-open (t ∷ ts) e = go (concluded t o.over m xs) e (λ k. none-open ts k)
    where
      go : (b : Bool) → cond (not b) (Some t) (first_open ts) ≡ None →
          (first_open ts ≡ None → list_all (λ q. concluded q o.over m xs) ts ≡ true) →
          (b && list_all (λ q. concluded q o.over m xs) ts) ≡ true
      go true f ih = ih f
      go false f ih = cc

  -- what each slot of the levels has, that at which it stands in one has
  in-level : (P : Task → Type 0) (l : Rank) (t : Task) → AllByRecursion P l.firsts × AllByRecursion P l.ons →
      standing_in o m xs l ≡ Some t → P t
  in-level P l t a e = go (find (λ t. not (confirmed t o.over xs)) l.firsts) refl e
    where
      go : (x : Option Task) → find (λ t. not (confirmed t o.over xs)) l.firsts ≡ x →
          option_or x (first_open l.ons) ≡ Some t → P t
      go None k f = found-each P _ l.ons t a.1 f
      go (Some u) k f = found-each P _ l.firsts t a.0 (k ∙ f)

  in-levels : (P : Task → Type 0) (ls : List Rank) (t : Task) →
      AllByRecursion (λ l. AllByRecursion P l.firsts × AllByRecursion P l.ons) ls →
      option_and_then (standing_in o m xs) (first_kept o m xs ls) ≡ Some t → P t
  in-levels P ls t a e = go (first_kept o m xs ls) refl e
    where
      go : (x : Option Rank) → first_kept o m xs ls ≡ x → option_and_then (standing_in o m xs) x ≡ Some t → P t
      go None k f = cc
      go (Some l) k f =
          in-level P l t (found-each (λ l. AllByRecursion P l.firsts × AllByRecursion P l.ons) _ ls l a k) f

  -- it is one of its slots
  pub standing-in : (t : Task) → standing o m xs ≡ Some t → IsIn t (slots o m xs)
  standing-in t e P a = go (first_open (queries o)) refl e
    where
      go : (x : Option Task) → first_open (queries o) ≡ x →
          option_or x (option_and_then (standing_in o m xs) (first_kept o m xs (ranks o m xs))) ≡ Some t → P t
      go None k f =
          in-levels P (ranks o m xs) t
          (each-slots P (ranks o m xs) (each-right P (queries o) (slots_of (ranks o m xs)) a)) f
      go (Some u) k f =
          found-each P _ (queries o) t (each-left P (queries o) (slots_of (ranks o m xs)) a) (k ∙ f)

  -- it is not concluded
  level-open : (l : Rank) (t : Task) → AreActing l → lost o m xs l ≡ false → standing_in o m xs l ≡ Some t →
      concluded t o.over m xs ≡ false
  level-open l t a unlost e = go (find (λ t. not (confirmed t o.over xs)) l.firsts) refl e
    where
      go : (x : Option Task) → find (λ t. not (confirmed t o.over xs)) l.firsts ≡ x →
          option_or x (first_open l.ons) ≡ Some t → concluded t o.over m xs ≡ false
      go None k f =
          not-true (concluded t o.over m xs) (found-passes (λ t. not (concluded t o.over m xs)) l.ons t f)
      go (Some u) k f =
          open-by (is_query t) (has_succeeded t o.over xs) (spent t o.over m xs)
          (found-each IsActing _ l.firsts t a.0 (k ∙ f))
          (found-passes (λ t. not (confirmed t o.over xs)) l.firsts t (k ∙ f))
          (found-each (λ t. is_lost_by o m xs t ≡ false) _ l.firsts t
          (none-each (is_lost_by o m xs) l.firsts
          (or_parts l.unfit (list_any (is_lost_by o m xs) l.firsts) unlost).1) (k ∙ f))

  levels-open : (ls : List Rank) (t : Task) → AllByRecursion AreActing ls →
      option_and_then (standing_in o m xs) (first_kept o m xs ls) ≡ Some t → concluded t o.over m xs ≡ false
  levels-open ls t a e = go (first_kept o m xs ls) refl e
    where
      go : (x : Option Rank) → first_kept o m xs ls ≡ x → option_and_then (standing_in o m xs) x ≡ Some t →
          concluded t o.over m xs ≡ false
      go None k f = cc
      go (Some l) k f =
          level-open l t (found-each AreActing _ ls l a k)
          (not-true (lost o m xs l) (found-passes (λ l. not (lost o m xs l)) ls l k)) f

  pub standing-open : (t : Task) → standing o m xs ≡ Some t → concluded t o.over m xs ≡ false
  standing-open t e = go (first_open (queries o)) refl e
    where
      go : (x : Option Task) → first_open (queries o) ≡ x →
          option_or x (option_and_then (standing_in o m xs) (first_kept o m xs (ranks o m xs))) ≡ Some t →
          concluded t o.over m xs ≡ false
      go None k f = levels-open (ranks o m xs) t each-acting f
      go (Some u) k f =
          not-true (concluded t o.over m xs)
          (found-passes (λ q. not (concluded q o.over m xs)) (queries o) t (k ∙ f))

  -- while it is not known which levels are tried, it is a query
  pub standing-query : (t : Task) → standing o m xs ≡ Some t → queries_concluded o m xs ≡ false → is_query t ≡ true
  standing-query t e asks = go (first_open (queries o)) refl e
    where
      go : (x : Option Task) → first_open (queries o) ≡ x →
          option_or x (option_and_then (standing_in o m xs) (first_kept o m xs (ranks o m xs))) ≡ Some t →
          is_query t ≡ true
      go None k f = absurd (both_ways (queries_concluded o m xs) asks (none-open (queries o) k))
      go (Some u) k f = found-each (λ t. is_query t ≡ true) _ (queries o) t sound.asking (k ∙ f)
