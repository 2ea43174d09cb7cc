-- The first line is what stands before the first line feed, and the others are those of what stands after it.
use Rattle.std.proofs.Common.{ℕ, ◌<◌, List, [], ◌∷◌, Bool, true, false, cond, ◌||◌, length, eqb, ◌≡◌, refl, ap, arith, add-one}
use Rattle.std.proofs.Math.Numerals.{one-add}
use Rattle.std.specs.List.{onto_first, list_any}
use Rattle.fnc_agent_api.specs.Cuts.{before, after, lines_of}
use Rattle.fnc_agent_api.specs.ListOutput.{names, lists}

-- how the first byte counts
before_first_byte : (c b : ℕ) (bs : List ℕ) (r : Bool) → eqb b c ≡ r → before c (b ∷ bs) ≡ cond r [] (b ∷ before c bs)
before_first_byte c b bs true e = rw e refl
before_first_byte c b bs false e = rw (e, one-add) refl

after_first_byte : (c b : ℕ) (bs : List ℕ) (r : Bool) → eqb b c ≡ r → after c (b ∷ bs) ≡ cond r bs (after c bs)
after_first_byte c b bs true e = rw e refl
after_first_byte c b bs false e = rw (e, one-add) (simp add-one)

joined : (b : ℕ) (bs : List ℕ) (r : Bool) → eqb b 10 ≡ r
    → (0 < length bs → lines_of bs ≡ before 10 bs ∷ lines_of (after 10 bs))
    → lines_of (b ∷ bs) ≡ before 10 (b ∷ bs) ∷ lines_of (after 10 (b ∷ bs))
joined b bs true e more = rw (before_first_byte 10 b bs true e, after_first_byte 10 b bs true e, e) refl
joined b [] false e more = rw (before_first_byte 10 b [] false e, after_first_byte 10 b [] false e, e) refl
joined b (d ∷ bs) false e more =
    rw (before_first_byte 10 b (d ∷ bs) false e, after_first_byte 10 b (d ∷ bs) false e, e)
    (ap (onto_first b) (more (omega arith)))

pub lines_of_cut : (bs : List ℕ) → 0 < length bs → lines_of bs ≡ before 10 bs ∷ lines_of (after 10 bs)
lines_of_cut [] l = absurd (omega arith)
lines_of_cut (b ∷ bs) l = joined b bs (eqb b 10) refl (λ k. lines_of_cut bs k)

-- the output names the target in its first line or in the others
pub lists_cut : (rest target : List ℕ) → 0 < length rest → lists rest target
    ≡ (names target (before 10 rest) || lists (after 10 rest) target)
lists_cut rest target l = ap (list_any (names target)) (lines_of_cut rest l)
