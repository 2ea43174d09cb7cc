-- Texts whose parts are kept apart by separators.
use Rattle.std.proofs.Common.{◌≡◌, ℕ, ◌+◌, Bool, true, false, cond, List, [], ◌∷◌, drop, refl, arith}
use Rattle.std.specs.Prelude.{not}
use Rattle.std.specs.List.{prefix_len, position_or_len}
use Rattle.std.proofs.Math.Numerals.{one-add}

module _ (separator : ℕ → Bool) where
  past_first : (b : ℕ) (bs : List ℕ) (is : Bool) → separator b ≡ is
      → prefix_len separator (drop (prefix_len separator bs) bs) ≡ 0
      → prefix_len separator (drop (cond is (1 + prefix_len separator bs) 0) (b ∷ bs)) ≡ 0
  past_first b bs true e h = rw one-add h
  past_first b bs false e h = rw e refl

  -- after the separators at the front no other follows
  past_all : (bs : List ℕ) → prefix_len separator (drop (prefix_len separator bs) bs) ≡ 0
  past_all [] = refl
  past_all (b ∷ bs) = past_first b bs (separator b) refl (past_all bs)

  one_or_other : (is : Bool) (m n : ℕ) → cond is (1 + m) 0 ≡ 0 → cond (not is) (1 + n) 0 ≡ 0 → ⊥
  one_or_other true m n h k = omega arith
  one_or_other false m n h k = omega arith

  -- what begins with neither a separator nor another byte is empty
  empty_from : (bs : List ℕ) → prefix_len separator bs ≡ 0 → position_or_len separator bs ≡ 0 → bs ≡ []
  empty_from [] h k = refl
  empty_from (b ∷ bs) h k =
      absurd (one_or_other (separator b) (prefix_len separator bs) (position_or_len separator bs) h k)

  -- a text in which no part begins after the separators at its front ends there
  pub none_past_separators : (bs : List ℕ) → position_or_len separator (drop (prefix_len separator bs) bs) ≡ 0
      → drop (prefix_len separator bs) bs ≡ []
  none_past_separators bs h = empty_from (drop (prefix_len separator bs) bs) (past_all bs) h
