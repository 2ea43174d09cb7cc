-- The tries that the records of an operation's slots have left: a start of the standing slot takes one, and nothing
-- adds any.
use Rattle.std.proofs.Common.{
  ℕ,
  List,
  [],
  ◌∷◌,
  Bool,
  true,
  false,
  ◌≡◌,
  ◌≤◌,
  ◌<◌,
  ◌+◌,
  ◌&&◌,
  refl,
  ap,
  ap₂,
  sym,
  ◌∙◌,
  subst,
  Option,
  Some,
  None,
  cond,
  not,
  arith,
  map,
}
use Rattle.std.specs.Prelude.{find, option_map, option_and_then}
use Rattle.std.specs.List.{list_all}
use Rattle.std.specs.Option.{option_or}
use Rattle.fnc_journal.specs.declared.limits.TheConstants.{MOST_TRIES}
use Rattle.fnc_journal.specs.declared.entry.Exit.{Exit}
use Rattle.fnc_journal.specs.declared.entry.Slot.{Slot}
use Rattle.fnc_journal.specs.Exits.{is_success}
use Rattle.fnc_journal.specs.Same.{same_slot}
use Rattle.fnc_journal.proofs.LawfulSteps.{same_slot-self}
use Rattle.fnc_records.specs.declared.slot.LastRun.{LastRun}
use Rattle.fnc_records.specs.declared.slot.SlotRecord.{SlotRecord}
use Rattle.fnc_records.specs.KeptLevel.{KeptLevel}
use Rattle.fnc_records.specs.KeptOperation.{KeptOperation}
use Rattle.fnc_records.specs.SlotRecords.{
  at_level,
  is_concluded,
  is_in_time,
  started,
  started_same,
  ended,
  succeeded_now,
  failed_now,
}
use Rattle.fnc_records.specs.LevelRecords.{
  is_queried,
  open_of,
  standing_in,
  is_capable,
  ranked,
  next_rank,
  level_started,
  level_ended,
}
use Rattle.fnc_records.specs.OperationRecords.{first_query, is_kept, standing_slot, ranked_levels, ranked_if_queried}
use Rattle.fnc_records.specs.OperationFacts.{left_of, left_in, left_query, left_level, left_levels}

-- a level's number
left-numbered : (k : ℕ) (rs : List SlotRecord) → left_in (map (at_level k) rs) ≡ left_in rs
left-numbered k [] = refl
left-numbered k (r ∷ rs) = ap (λ n. left_of r + n) (left-numbered k rs)

left-ranked_levels : (k : ℕ) (ls : List KeptLevel) → left_levels (ranked_levels k ls) ≡ left_levels ls
left-ranked_levels k [] = refl
left-ranked_levels k (l ∷ ls) = ap₂ ◌+◌ (go (is_capable l)) (left-ranked_levels (next_rank k l) ls)
  where
    go : (b : Bool) → left_level (cond b (ranked k l) l) ≡ left_level l
    go true = ap (λ n. left_query l.query + n + left_in l.ons) (left-numbered k l.firsts)
    go false = refl

-- what becomes known
pub left-ranked : (m : ℕ) (r : KeptOperation) → left_levels (ranked_if_queried m r).levels ≡ left_levels r.levels
left-ranked m r = go (not r.ranked && list_all (is_queried m) r.levels)
  where
    go : (b : Bool) → left_levels (cond b (record r { ranked = true; levels = ranked_levels 1 r.levels }) r).levels ≡
        left_levels r.levels
    go true = left-ranked_levels 1 r.levels
    go false = refl

-- an exit
module _ (s : Slot) (exit : Exit) (listed : Bool) (over m : ℕ) where
  left-ended_slot : (r : SlotRecord) → left_of (ended s exit listed over m r) ≡ left_of r
  left-ended_slot r = go (same_slot r.slot s) (not (is_in_time over m r.end)) (is_success r.kind exit)
    where
      go : (a b c : Bool) →
          left_of (cond a (cond b (record r { last = LastRun.EndedAt m }) (cond c (succeeded_now listed m r)
          (failed_now m r))) r) ≡ left_of r
      go true true c = refl
      go true false true = refl
      go true false false = refl
      go false b c = refl

  left-ended_in : (rs : List SlotRecord) → left_in (map (ended s exit listed over m) rs) ≡ left_in rs
  left-ended_in [] = refl
  left-ended_in (r ∷ rs) = ap₂ ◌+◌ (left-ended_slot r) (left-ended_in rs)

  left-ended_query : (q : Option SlotRecord) → left_query (option_map (ended s exit listed over m) q) ≡ left_query q
  left-ended_query None = refl
  left-ended_query (Some q) = left-ended_slot q

  pub left-ended : (ls : List KeptLevel) → left_levels (map (level_ended s exit listed over m) ls) ≡ left_levels ls
  left-ended [] = refl
  left-ended (l ∷ ls) = ap₂ ◌+◌ (ap₂ ◌+◌ (ap₂ ◌+◌ (left-ended_query l.query) (left-ended_in l.firsts))
      (left-ended_in l.ons)) (left-ended ls)

-- a slot has a try left
abbrev pub HasLeft : SlotRecord → Type 0
HasLeft r = (r.runs < r.tries) × (r.tries ≤ MOST_TRIES)

some_slot : (a b : SlotRecord) → ◌≡◌ {A = Option SlotRecord} (Some a) (Some b) → a ≡ b
some_slot a b e = cc

-- a start of any slot adds none
module _ (s : Slot) (m : ℕ) where
  least-slot : (r : SlotRecord) → left_of (started s m r) ≤ left_of r
  least-slot r = go (same_slot r.slot s)
    where
      go : (b : Bool) → left_of (cond b (started_same m r) r) ≤ left_of r
      go true = omega arith
      go false = omega arith

  least-in : (rs : List SlotRecord) → left_in (map (started s m) rs) ≤ left_in rs
  least-in [] = omega arith
  least-in (r ∷ rs) =
      let here : left_of (started s m r) ≤ left_of r = least-slot r in
      let rest : left_in (map (started s m) rs) ≤ left_in rs = least-in rs in
      omega (arith, here, rest)

  least-query : (q : Option SlotRecord) → left_query (option_map (started s m) q) ≤ left_query q
  least-query None = omega arith
  least-query (Some q) = least-slot q

  least-levels : (ls : List KeptLevel) → left_levels (map (level_started s m) ls) ≤ left_levels ls
  least-levels [] = omega arith
  least-levels (l ∷ ls) =
      let query : left_query (option_map (started s m) l.query) ≤ left_query l.query = least-query l.query in
      let firsts : left_in (map (started s m) l.firsts) ≤ left_in l.firsts = least-in l.firsts in
      let ons : left_in (map (started s m) l.ons) ≤ left_in l.ons = least-in l.ons in
      let rest : left_levels (map (level_started s m) ls) ≤ left_levels ls = least-levels ls in
      omega (arith, query, firsts, ons, rest)

-- a start of one that has a try left takes it
module _ (q : SlotRecord) (has : HasLeft q) (m : ℕ) where
  fewer-slot : left_of (started q.slot m q) + 1 ≤ left_of q
  fewer-slot =
      let same : same_slot q.slot q.slot ≡ true = same_slot-self q.slot in
      let now : left_of (started q.slot m q) ≡ left_of (started_same m q) =
      ap (λ b. left_of (cond b (started_same m q) q)) same in
      let runs : q.runs < q.tries = has.0 in
      let few : q.tries ≤ MOST_TRIES = has.1 in
      let less : left_of (started_same m q) + 1 ≤ left_of q = omega (arith, runs, few) in
      omega (arith, now, less)

  fewer-in : (p : SlotRecord → Bool) (rs : List SlotRecord) → find p rs ≡ Some q → left_in (map (started q.slot m) rs)
      + 1 ≤ left_in rs
  fewer-in p [] e = cc
  fewer-in p (r ∷ rs) e = go (p r) e (λ k. fewer-in p rs k)
    where
      go : (b : Bool) → cond b (Some r) (find p rs) ≡ Some q →
          (find p rs ≡ Some q → left_in (map (started q.slot m) rs) + 1 ≤ left_in rs) →
          left_in (map (started q.slot m) (r ∷ rs)) + 1 ≤ left_in (r ∷ rs)
      go true f ih =
          let here : left_of (started q.slot m r) + 1 ≤ left_of r =
          subst (λ w. left_of (started q.slot m w) + 1 ≤ left_of w) (sym (some_slot r q f)) fewer-slot in
          let rest : left_in (map (started q.slot m) rs) ≤ left_in rs = least-in q.slot m rs in
          omega (arith, here, rest)
      go false f ih =
          let here : left_of (started q.slot m r) ≤ left_of r = least-slot q.slot m r in
          let rest : left_in (map (started q.slot m) rs) + 1 ≤ left_in rs = ih f in
          omega (arith, here, rest)

  fewer-query : (n : ℕ) (x : Option SlotRecord) → open_of n x ≡ Some q → left_query (option_map (started q.slot m) x) +
      1 ≤ left_query x
  fewer-query n None e = cc
  fewer-query n (Some r) e = go (is_concluded n r) e
    where
      go : (b : Bool) → cond b None (Some r) ≡ Some q → left_of (started q.slot m r) + 1 ≤ left_of r
      go true f = cc
      go false f = subst (λ w. left_of (started q.slot m w) + 1 ≤ left_of w) (sym (some_slot r q f)) fewer-slot

  fewer-in_level : (n : ℕ) (l : KeptLevel) → standing_in n l ≡ Some q → left_level (level_started q.slot m l) + 1 ≤
      left_level l
  fewer-in_level n l e = go (find (λ s. not s.succeeded) l.firsts) refl e
    where
      query : left_query (option_map (started q.slot m) l.query) ≤ left_query l.query
      query = least-query q.slot m l.query

      go : (x : Option SlotRecord) → find (λ s. not s.succeeded) l.firsts ≡ x →
          option_or x (find (λ s. not (is_concluded n s)) l.ons) ≡ Some q → left_level (level_started q.slot m l) + 1 ≤
          left_level l
      go None k f =
          let asked : left_query (option_map (started q.slot m) l.query) ≤ left_query l.query = query in
          let firsts : left_in (map (started q.slot m) l.firsts) ≤ left_in l.firsts = least-in q.slot m l.firsts in
          let ons : left_in (map (started q.slot m) l.ons) + 1 ≤ left_in l.ons =
          fewer-in (λ s. not (is_concluded n s)) l.ons f in
          omega (arith, asked, firsts, ons)
      go (Some r) k f =
          let asked : left_query (option_map (started q.slot m) l.query) ≤ left_query l.query = query in
          let firsts : left_in (map (started q.slot m) l.firsts) + 1 ≤ left_in l.firsts =
          fewer-in (λ s. not s.succeeded) l.firsts (k ∙ f) in
          let ons : left_in (map (started q.slot m) l.ons) ≤ left_in l.ons = least-in q.slot m l.ons in
          omega (arith, asked, firsts, ons)

  -- of one level or of a later one
  fewer-here : (l : KeptLevel) (ls : List KeptLevel) → left_level (level_started q.slot m l) + 1 ≤ left_level l →
      left_levels (map (level_started q.slot m) (l ∷ ls)) + 1 ≤ left_levels (l ∷ ls)
  fewer-here l ls here = let rest : left_levels (map (level_started q.slot m) ls) ≤ left_levels ls =
      least-levels q.slot m ls in omega (arith, here, rest)

  fewer-later : (l : KeptLevel) (ls : List KeptLevel) → left_levels (map (level_started q.slot m) ls) + 1 ≤ left_levels
      ls → left_levels (map (level_started q.slot m) (l ∷ ls)) + 1 ≤ left_levels (l ∷ ls)
  fewer-later l ls rest =
      let one : left_levels (map (level_started q.slot m) (l ∷ [])) ≤ left_levels (l ∷ []) =
      least-levels q.slot m (l ∷ []) in
      omega (arith, one, rest)

  fewer-queries : (n : ℕ) (ls : List KeptLevel) → first_query n ls ≡ Some q →
      left_levels (map (level_started q.slot m) ls) + 1 ≤ left_levels ls
  fewer-queries n [] e = cc
  fewer-queries n (l ∷ ls) e = go (open_of n l.query) refl e (λ k. fewer-queries n ls k)
    where
      go : (x : Option SlotRecord) → open_of n l.query ≡ x → option_or x (first_query n ls) ≡ Some q →
          (first_query n ls ≡ Some q → left_levels (map (level_started q.slot m) ls) + 1 ≤ left_levels ls) →
          left_levels (map (level_started q.slot m) (l ∷ ls)) + 1 ≤ left_levels (l ∷ ls)
      go None k f ih = fewer-later l ls (ih f)
      go (Some r) k f ih =
          let query : left_query (option_map (started q.slot m) l.query) + 1 ≤ left_query l.query =
          fewer-query n l.query (k ∙ f) in
          let firsts : left_in (map (started q.slot m) l.firsts) ≤ left_in l.firsts = least-in q.slot m l.firsts in
          let ons : left_in (map (started q.slot m) l.ons) ≤ left_in l.ons = least-in q.slot m l.ons in
          fewer-here l ls (omega (arith, query, firsts, ons))

  fewer-levels : (n : ℕ) (ls : List KeptLevel) → option_and_then (standing_in n) (find (is_kept n) ls) ≡ Some q →
      left_levels (map (level_started q.slot m) ls) + 1 ≤ left_levels ls
  fewer-levels n [] e = cc
  fewer-levels n (l ∷ ls) e = go (is_kept n l) e (λ k. fewer-levels n ls k)
    where
      go : (b : Bool) → option_and_then (standing_in n) (cond b (Some l) (find (is_kept n) ls)) ≡ Some q →
          (option_and_then (standing_in n) (find (is_kept n) ls) ≡ Some q →
          left_levels (map (level_started q.slot m) ls) + 1 ≤ left_levels ls) →
          left_levels (map (level_started q.slot m) (l ∷ ls)) + 1 ≤ left_levels (l ∷ ls)
      go true f ih = fewer-here l ls (fewer-in_level n l f)
      go false f ih = fewer-later l ls (ih f)

-- a start of the standing slot takes one
pub left-started : (n m : ℕ) (r : KeptOperation) (q : SlotRecord) → standing_slot n r ≡ Some q → HasLeft q →
    left_levels (map (level_started q.slot m) r.levels) + 1 ≤ left_levels r.levels
left-started n m r q e has = go (first_query n r.levels) refl e
  where
    go : (x : Option SlotRecord) → first_query n r.levels ≡ x →
        option_or x (option_and_then (standing_in n) (find (is_kept n) r.levels)) ≡ Some q →
        left_levels (map (level_started q.slot m) r.levels) + 1 ≤ left_levels r.levels
    go None k f = fewer-levels q has m n r.levels f
    go (Some x) k f = fewer-queries q has m n r.levels (k ∙ f)
