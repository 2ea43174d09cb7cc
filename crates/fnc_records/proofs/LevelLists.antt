-- Searches of an operation's levels go over its queries, and over the levels that are tried.
use Rattle.std.proofs.Common.{
  ℕ,
  List,
  [],
  ◌∷◌,
  Bool,
  true,
  false,
  ◌≡◌,
  refl,
  ap,
  Option,
  Some,
  None,
  cond,
  not,
  ◌&&◌,
  ◌||◌,
}
use Rattle.std.specs.Prelude.{find}
use Rattle.std.specs.List.{list_any, list_all, cons_option}
use Rattle.std.specs.Option.{option_or}
use Rattle.fnc_journal.specs.Missing.{has_any}
use Rattle.fnc_records.specs.declared.slot.SlotRecord.{SlotRecord}
use Rattle.fnc_records.specs.KeptLevel.{KeptLevel}
use Rattle.fnc_records.specs.SlotRecords.{is_concluded}
use Rattle.fnc_records.specs.LevelRecords.{is_queried, query_concluded, open_of, is_lost}
use Rattle.fnc_records.specs.OperationRecords.{first_query, is_kept}
use Rattle.fnc_records.specs.OperationFacts.{kept_queries, tried_levels}

module _ (m : ℕ) where
  pub first_query_is : (ls : List KeptLevel) → first_query m ls ≡ find (λ q. not (is_concluded m q)) (kept_queries ls)
  first_query_is [] = refl
  first_query_is (l ∷ ls) = go l.query (first_query_is ls)
    where
      pick : (q : SlotRecord) (b : Bool) → first_query m ls ≡ find (λ q. not (is_concluded m q)) (kept_queries ls) →
          option_or (cond b None (Some q)) (first_query m ls) ≡ cond (not b) (Some q)
          (find (λ q. not (is_concluded m q)) (kept_queries ls))
      pick q true e = e
      pick q false e = refl

      go : (x : Option SlotRecord) → first_query m ls ≡ find (λ q. not (is_concluded m q)) (kept_queries ls) →
          option_or (open_of m x) (first_query m ls) ≡ find (λ q. not (is_concluded m q))
          (cons_option x (kept_queries ls))
      go None e = e
      go (Some q) e = pick q (is_concluded m q) e

  pub all_queried_is : (ls : List KeptLevel) → list_all (is_queried m) ls ≡ list_all (is_concluded m) (kept_queries ls)
  all_queried_is [] = refl
  all_queried_is (l ∷ ls) = go l.query (all_queried_is ls)
    where
      go : (x : Option SlotRecord) → list_all (is_queried m) ls ≡ list_all (is_concluded m) (kept_queries ls) →
          (query_concluded m x && list_all (is_queried m) ls) ≡ list_all (is_concluded m)
          (cons_option x (kept_queries ls))
      go None e = e
      go (Some q) e = ap (λ b. is_concluded m q && b) e

  pub first_kept_is : (ls : List KeptLevel) → find (is_kept m) ls ≡ find (λ l. not (is_lost m l)) (tried_levels ls)
  first_kept_is [] = refl
  first_kept_is (l ∷ ls) = go l.tried (is_lost m l) refl (first_kept_is ls)
    where
      go : (b c : Bool) → is_lost m l ≡ c → find (is_kept m) ls ≡ find (λ l. not (is_lost m l)) (tried_levels ls) →
          cond (b && not c) (Some l) (find (is_kept m) ls) ≡ find (λ l. not (is_lost m l))
          (cond b (l ∷ tried_levels ls) (tried_levels ls))
      go true true k e = rw k e
      go true false k e = rw k refl
      go false c k e = e

  pub all_lost_is : (ls : List KeptLevel) → list_all (λ l. not (is_kept m l)) ls ≡ list_all (is_lost m)
      (tried_levels ls)
  all_lost_is [] = refl
  all_lost_is (l ∷ ls) = go l.tried (is_lost m l) refl (all_lost_is ls)
    where
      go : (b c : Bool) → is_lost m l ≡ c → list_all (λ l. not (is_kept m l)) ls ≡ list_all (is_lost m)
          (tried_levels ls) →
          (not (b && not c) && list_all (λ l. not (is_kept m l)) ls) ≡ list_all (is_lost m)
          (cond b (l ∷ tried_levels ls) (tried_levels ls))
      go true true k e = rw k e
      go true false k e = rw k refl
      go false c k e = e

pub any_tried_is : (ls : List KeptLevel) → list_any (λ l. l.tried) ls ≡ has_any (tried_levels ls)
any_tried_is [] = refl
any_tried_is (l ∷ ls) = go l.tried (any_tried_is ls)
  where
    go : (b : Bool) → list_any (λ l. l.tried) ls ≡ has_any (tried_levels ls) → (b || list_any (λ l. l.tried) ls) ≡
        has_any (cond b (l ∷ tried_levels ls) (tried_levels ls))
    go true e = refl
    go false e = e
