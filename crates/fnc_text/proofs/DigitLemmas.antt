-- Facts on the number that digits spell.
use Rattle.std.proofs.Common.{◌≡◌, ℕ, ◌+◌, ◌-◌, ◌*◌, ◌^◌, ◌<◌, ◌≤◌, zero, suc, Bool, true, false, cond, List, [], ◌∷◌, length, get_or, drop, refl, ◌∙◌, arith, None}
use Rattle.std.specs.List.{list_all, take_while}
use Rattle.std.proofs.lemmas.List.Sums.{take_while-cons}
use Rattle.std.proofs.Math.Nat.{pow-suc, le-mul_of_pos_right}
use Rattle.std.proofs.lemmas.List.{at_drop_more}
use Rattle.std.proofs.lemmas.Bool.Decides.{nat_tests}
use Rattle.fnc_text.specs.Digits.{digits_value, at_most}

-- a number to the left of digits
abbrev pub joined : ℕ → List ℕ → ℕ
joined n ds = n * 10 ^ length ds + digits_value ds

-- a digit moves over to the number
joined-cons : (n d : ℕ) (ds : List ℕ) → joined n (d ∷ ds) ≡ joined (n * 10 + (d - 48)) ds
joined-cons n d ds = rw (pow-suc 10 (length ds)) (omega arith)

-- the same at a place of a list
pub joined-drop : (n : ℕ) (ds : List ℕ) (i : ℕ) → i < length ds → joined n (drop i ds)
    ≡ joined (n * 10 + (get_or ds i 0 - 48)) (drop (i + 1) ds)
joined-drop n ds i within = at_drop_more (joined n) ds i 0 within ∙ joined-cons n _ _

one-le-ten : (k : ℕ) → 0 < 10 ^ k
one-le-ten zero = omega arith
one-le-ten (suc k) = let h = one-le-ten k in rw (pow-suc 10 k) (omega arith)

-- digits to its right make a number no less
pub joined-ge : (n : ℕ) (ds : List ℕ) → n ≤ joined n ds
joined-ge n ds = omega (arith, le-mul_of_pos_right n (one-le-ten (length ds)))

-- what is above the limit is not there
pub at_most-none : (most n : ℕ) → most < n → at_most most n ≡ None
at_most-none most n h = grind (arith, nat_tests)

all_after : (p : ℕ → Bool) (b : ℕ) (bs : List ℕ) (is : Bool) → p b ≡ is → list_all p bs ≡ true
    → list_all p (cond is (b ∷ bs) []) ≡ true
all_after p b bs true e h = rw e h
all_after p b bs false e h = refl

-- the digits that a text begins with are digits
pub list_all-take_while : (p : ℕ → Bool) (bs : List ℕ) → list_all p (take_while p bs) ≡ true
list_all-take_while p [] = refl
list_all-take_while p (b ∷ bs) =
    rw take_while-cons (all_after p b (take_while p bs) (p b) refl (list_all-take_while p bs))
