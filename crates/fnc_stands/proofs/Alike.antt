-- Where an operation stands, and since when, where what is known of its slots stays alike.
use Rattle.std.proofs.Common.{
  ℕ,
  List,
  [],
  ◌∷◌,
  ◌++◌,
  Bool,
  true,
  false,
  ◌≡◌,
  refl,
  ap,
  ◌∙◌,
  ap₂,
  Option,
  Some,
  None,
  ◌&&◌,
  ◌||◌,
  not,
  cond,
}
use Rattle.std.specs.Prelude.{filter_map, option_and_then}
use Rattle.std.specs.List.{cons_option, AllByRecursion}
use Rattle.std.specs.Option.{option_or}
use Rattle.fnc_journal.specs.Slots.{Task, Operation, QueriedDevice, Rank, queries, slots_of}
use Rattle.fnc_journal.specs.Acts.{Act, Last, has_succeeded, has_listed, spent, concluded, is_query, last_run}
use Rattle.fnc_journal.specs.Standing.{
  capable_by,
  capable_query,
  capable,
  queries_concluded,
  ranks,
  slots,
  lost,
  is_lost_by,
  first_kept,
  standing_in,
  standing_among,
  standing,
  greatest_concluded,
  since,
  ready,
  ready_after,
}
use Rattle.fnc_journal.proofs.Each.{any-same, all-same, find-same, filter-same, each-map}
use Rattle.fnc_stands.proofs.Lists.{each-slots}

-- what a slot tells is the same: whether it succeeded, whether it is concluded, and whether it listed the node
pub record Alike (over m : ℕ) (xs : List Act) (n : ℕ) (ys : List Act) (t : Task) : Type 0 where
  pub succeeded : has_succeeded t over ys ≡ has_succeeded t over xs
  pub concluded_same : concluded t over n ys ≡ concluded t over m xs
  pub listed : has_listed t over ys ≡ has_listed t over xs

-- of a slot that is spent without success
spent-by : (a b c d e : Bool) → a ≡ b → (a || c) ≡ (b || d) → (c && not (not false && a)) ≡ (d && not (not false && b))
spent-by true true c d q e f = go c d
  where
    go : (c d : Bool) → (c && false) ≡ (d && false)
    go true true = refl
    go true false = refl
    go false true = refl
    go false false = refl
spent-by false false c d q e f = ap (λ b. b && true) f
spent-by true false c d q e f = cc
spent-by false true c d q e f = cc

module _ (o : Operation) (m : ℕ) (xs : List Act) (n : ℕ) (ys : List Act) where
  abbrev pub IsAlike : Task → Type 0
  IsAlike t = Alike o.over m xs n ys t

  -- it is one of a level
  abbrev pub IsActing : Task → Type 0
  IsActing t = is_query t ≡ false

  abbrev pub EachAlike : List Task → Type 0
  EachAlike ts = AllByRecursion IsAlike ts

  abbrev pub EachActing : List Task → Type 0
  EachActing ts = AllByRecursion (λ t. IsActing t × IsAlike t) ts

  abbrev pub EachRank : List Rank → Type 0
  EachRank ls = AllByRecursion (λ l. EachActing l.firsts × EachActing l.ons) ls

  abbrev ForSomeAlike : Option Task → Type 0
  ForSomeAlike None = Unit {0}
  ForSomeAlike (Some q) = IsAlike q

  is_lost_by-alike : (t : Task) → IsActing t × IsAlike t → is_lost_by o n ys t ≡ is_lost_by o m xs t
  is_lost_by-alike t s = rw s.0 (spent-by (has_succeeded t o.over ys) (has_succeeded t o.over xs)
      (spent t o.over n ys) (spent t o.over m xs) false s.1.succeeded s.1.concluded_same)

  not_confirmed-alike : (t : Task) → IsActing t × IsAlike t →
      not (not (is_query t) && has_succeeded t o.over ys) ≡ not (not (is_query t) && has_succeeded t o.over xs)
  not_confirmed-alike t s = ap (λ b. not (not (is_query t) && b)) s.1.succeeded

  not_concluded-alike : (t : Task) → IsAlike t → not (concluded t o.over n ys) ≡ not (concluded t o.over m xs)
  not_concluded-alike t s = ap not s.concluded_same

  pub queries_concluded-alike : EachAlike (queries o) → queries_concluded o n ys ≡ queries_concluded o m xs
  queries_concluded-alike s =
      all-same (λ q. concluded q o.over n ys) (λ q. concluded q o.over m xs) (queries o)
      (each-map IsAlike (λ q. concluded q o.over n ys ≡ concluded q o.over m xs) (queries o)
      (λ t k. k.concluded_same) s)

  lost-alike : (l : Rank) → EachActing l.firsts → lost o n ys l ≡ lost o m xs l
  lost-alike l s = ap (λ b. l.unfit || b)
      (any-same (is_lost_by o n ys) (is_lost_by o m xs) l.firsts
      (each-map _ (λ t. is_lost_by o n ys t ≡ is_lost_by o m xs t) l.firsts is_lost_by-alike s))

  standing_in-alike : (l : Rank) → EachActing l.firsts × EachActing l.ons →
      standing_in o n ys l ≡ standing_in o m xs l
  standing_in-alike l s =
      ap₂ option_or (find-same _ _ l.firsts (each-map _ _ l.firsts not_confirmed-alike s.0))
      (find-same _ _ l.ons (each-map _ _ l.ons (λ t k. not_concluded-alike t k.1) s.1))

  in_first_kept-alike : (ls : List Rank) → EachRank ls →
      option_and_then (standing_in o n ys) (first_kept o n ys ls)
      ≡ option_and_then (standing_in o m xs) (first_kept o m xs ls)
  in_first_kept-alike [] s = refl
  in_first_kept-alike (l ∷ ls) s =
      rw (lost-alike l s.0.0) (go (not (lost o m xs l)) (in_first_kept-alike ls s.1))
    where
      go : (b : Bool) → option_and_then (standing_in o n ys) (first_kept o n ys ls)
          ≡ option_and_then (standing_in o m xs) (first_kept o m xs ls) →
          option_and_then (standing_in o n ys) (cond b (Some l) (first_kept o n ys ls))
          ≡ option_and_then (standing_in o m xs) (cond b (Some l) (first_kept o m xs ls))
      go true e = standing_in-alike l s.0
      go false e = e

  standing_among-alike : (ls : List Rank) → EachAlike (queries o) → EachRank ls →
      standing_among o n ys ls ≡ standing_among o m xs ls
  standing_among-alike ls s r =
      ap₂ option_or (find-same _ _ (queries o) (each-map _ _ (queries o) not_concluded-alike s))
      (in_first_kept-alike ls r)

  capable_query-alike : (q : Option Task) → ForSomeAlike q → capable_query o ys q ≡ capable_query o xs q
  capable_query-alike None s = refl
  capable_query-alike (Some q) s = ap₂ (capable_by q.kind) s.listed (ap (λ b. is_query q && b) s.succeeded)

  each-queries : (cs : List QueriedDevice) → EachAlike (filter_map (λ c. c.query) cs) →
      AllByRecursion (λ c. ForSomeAlike c.query) cs
  each-queries [] s = tt
  each-queries (c ∷ cs) s =
      let r : ForSomeAlike c.query × EachAlike (filter_map (λ c. c.query) cs) = go c.query s in
      (r.0, each-queries cs r.1)
    where
      go : (q : Option Task) → EachAlike (cons_option q (filter_map (λ c. c.query) cs)) →
          ForSomeAlike q × EachAlike (filter_map (λ c. c.query) cs)
      go None s = (tt, s)
      go (Some q) s = s

  capable-alike : EachAlike (queries o) → capable o ys ≡ capable o xs
  capable-alike s =
      filter-same _ _ o.candidates
      (each-map _ _ o.candidates (λ c r. capable_query-alike c.query r) (each-queries o.candidates s))

  pub ranks-alike : EachAlike (queries o) → ranks o n ys ≡ ranks o m xs
  ranks-alike s = rw (queries_concluded-alike s, capable-alike s) refl

  pub slots-alike : EachAlike (queries o) → slots o n ys ≡ slots o m xs
  slots-alike s = ap (λ ls. queries o ++ slots_of ls) (ranks-alike s)

  pub standing-alike : EachAlike (queries o) → EachActing (slots_of (ranks o m xs)) →
      standing o n ys ≡ standing o m xs
  standing-alike s r =
      ap (standing_among o n ys) (ranks-alike s)
      ∙ standing_among-alike (ranks o m xs) s (each-slots (λ t. IsActing t × IsAlike t) (ranks o m xs) r)

-- since when it stands where it stands, while time passes
module _ (o : Operation) (a m : ℕ) (xs : List Act) where
  greatest-alike : (ts : List Task) → AllByRecursion (Alike o.over a xs m xs) ts →
      greatest_concluded o m xs ts ≡ greatest_concluded o a xs ts
  greatest-alike [] s = refl
  greatest-alike (t ∷ ts) s = rw (s.0.concluded_same, greatest-alike ts s.1) refl

  pub since-alike : AllByRecursion (Alike o.over a xs m xs) (queries o) →
      AllByRecursion (Alike o.over a xs m xs) (slots o a xs) → since o m xs ≡ since o a xs
  since-alike q s = ap (greatest_concluded o m xs) (slots-alike o a xs m xs q) ∙ greatest-alike (slots o a xs) s

  pub ready-alike : since o m xs ≡ since o a xs → (t : Task) → ready o m xs t ≡ ready o a xs t
  ready-alike e t = go (last_run t.slot xs)
    where
      go : (l : Last) → ready_after o m xs t l ≡ ready_after o a xs t l
      go Last.NoRun = rw e refl
      go (Last.Alive run) = refl
      go (Last.EndedAt at) = refl
