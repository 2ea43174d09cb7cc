-- A word spells no more bytes than it has.
use Rattle.std.proofs.Common.{ℕ, ◌+◌, ◌*◌, ◌≤◌, Bool, true, false, cond, eqb, List, [], ◌∷◌, length, arith}
use Rattle.std.specs.Char.{digit_value}
use Rattle.fnc_text.specs.Escapes.{spelled}

either : (c : Bool) (high low b : ℕ) (x y rest : List ℕ) → length x ≤ length rest → length y ≤ length rest + 2
    → length (cond c (b ∷ x) (high ∷ y)) ≤ length rest + 3
either true high low b x y rest h k = omega arith
either false high low b x y rest h k = omega arith

pub length-spelled : (bs : List ℕ) → length (spelled bs) ≤ length bs
length-spelled [] = omega arith
length-spelled (b ∷ []) = omega arith
length-spelled (b ∷ c ∷ []) = omega arith
length-spelled (b ∷ high ∷ low ∷ rest) =
    let far = length-spelled rest in
    let near = length-spelled (high ∷ low ∷ rest) in
    let sum = either (eqb b 37) b low (16 * digit_value high + digit_value low) (spelled rest)
    (spelled (high ∷ low ∷ rest)) rest far (omega arith) in
    omega arith
