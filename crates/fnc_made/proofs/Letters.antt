-- A text of letters, which lacks the space, is a word: alone, and before a space. Decimal digits are letters.
use Rattle.std.proofs.Common.{ℕ, zero, suc, List, [], ◌∷◌, ◌++◌, Bool, true, false, ◌≡◌, ◌≤◌, ◌+◌, ◌/◌, ◌%◌, ◌==◌, not, cond, refl, ap, ◌∙◌, subst, arith, length, ltb}
use Rattle.std.specs.Prelude.{decimal, filter, nat_lt}
use Rattle.std.specs.Fmt.{digit_glyph, digits, digits_onto}
use Rattle.std.specs.List.{list_all, onto_first, slice_split}
use Rattle.std.proofs.lemmas.Bool.{and_parts}
use Rattle.std.proofs.lemmas.Bool.Decides.{nat_tests}
use Rattle.fnc_text.specs.Words.{is_space, words}

-- no byte is the space
abbrev pub are_letters : List ℕ → Bool
are_letters bs = list_all (λ b. not (is_space b)) bs

-- there is a byte
abbrev pub has_byte : List ℕ → Bool
has_byte [] = false
has_byte (b ∷ bs) = true

not-true : (b : Bool) → not b ≡ true → b ≡ false
not-true true q = cc
not-true false q = refl

record Letter (b : ℕ) (bs : List ℕ) : Type 0 where
  here : is_space b ≡ false
  rest : are_letters bs ≡ true

letter : (b : ℕ) (bs : List ℕ) → are_letters (b ∷ bs) ≡ true → Letter b bs
letter b bs h =
    let two = and_parts (not (is_space b)) (are_letters bs) h in
    record { here = not-true (is_space b) two.0; rest = two.1 }

-- letters before a space are cut off there
split-before : (bs rest : List ℕ) → are_letters bs ≡ true →
    slice_split is_space (bs ++ 32 ∷ rest) ≡ bs ∷ slice_split is_space rest
split-before [] rest h = refl
split-before (b ∷ bs) rest h =
    let two = letter b bs h in rw two.here (ap (onto_first b) (split-before bs rest two.rest))

-- letters alone are one part
split-alone : (bs : List ℕ) → are_letters bs ≡ true → slice_split is_space bs ≡ bs ∷ []
split-alone [] h = refl
split-alone (b ∷ bs) h = let two = letter b bs h in rw two.here (ap (onto_first b) (split-alone bs two.rest))

-- a part with a byte is a word
kept : (bs : List ℕ) (parts : List (List ℕ)) → has_byte bs ≡ true →
    filter (λ part. nat_lt 0 (length part)) (bs ∷ parts) ≡ bs ∷ filter (λ part. nat_lt 0 (length part)) parts
kept [] parts h = cc
kept (b ∷ bs) parts h = rw some refl
  where
    some : nat_lt 0 (length (b ∷ bs)) ≡ true
    some = grind (arith, nat_tests)

-- letters before a space are the first word
pub word-before : (bs rest : List ℕ) → has_byte bs ≡ true → are_letters bs ≡ true →
    words (bs ++ 32 ∷ rest) ≡ bs ∷ words rest
word-before bs rest k h =
    ap (filter (λ part. nat_lt 0 (length part))) (split-before bs rest h)
    ∙ kept bs (slice_split is_space rest) k

-- letters alone are the only word
pub word-alone : (bs : List ℕ) → has_byte bs ≡ true → are_letters bs ≡ true → words bs ≡ bs ∷ []
word-alone bs k h = ap (filter (λ part. nat_lt 0 (length part))) (split-alone bs h) ∙ kept bs [] k

-- a digit is a letter
glyph-letter : (d : ℕ) (bs : List ℕ) → are_letters bs ≡ true → are_letters (digit_glyph false d ∷ bs) ≡ true
glyph-letter d bs h = go (ltb d 10)
  where
    large : (n : ℕ) → 33 ≤ n → is_space n ≡ false
    large n k = grind (arith, nat_tests)

    go : (small : Bool) → are_letters (cond small (48 + d) (87 + d) ∷ bs) ≡ true
    go true = rw (large (48 + d) (omega arith)) h
    go false = rw (large (87 + d) (omega arith)) h

digits-letters : (k n : ℕ) (bs : List ℕ) → are_letters bs ≡ true → are_letters (digits_onto k 10 false n bs) ≡ true
digits-letters zero n bs h = h
digits-letters (suc k) n bs h =
    go (n / 10 == 0) (digits-letters k (n / 10) (digit_glyph false (n % 10) ∷ bs) more)
  where
    more : are_letters (digit_glyph false (n % 10) ∷ bs) ≡ true
    more = glyph-letter (n % 10) bs h

    go : (last : Bool) → are_letters (digits_onto k 10 false (n / 10) (digit_glyph false (n % 10) ∷ bs)) ≡ true →
        are_letters
        (cond last (digit_glyph false (n % 10) ∷ bs)
        (digits_onto k 10 false (n / 10) (digit_glyph false (n % 10) ∷ bs)))
        ≡ true
    go true ih = more
    go false ih = ih

digits-some : (k n b : ℕ) (bs : List ℕ) → has_byte (digits_onto k 10 false n (b ∷ bs)) ≡ true
digits-some zero n b bs = refl
digits-some (suc k) n b bs =
    go (n / 10 == 0) (digits-some k (n / 10) (digit_glyph false (n % 10)) (b ∷ bs))
  where
    go : (last : Bool) → has_byte (digits_onto k 10 false (n / 10) (digit_glyph false (n % 10) ∷ b ∷ bs)) ≡ true →
        has_byte
        (cond last (digit_glyph false (n % 10) ∷ b ∷ bs)
        (digits_onto k 10 false (n / 10) (digit_glyph false (n % 10) ∷ b ∷ bs)))
        ≡ true
    go true ih = refl
    go false ih = ih

onto-nil : (n : ℕ) → digits_onto 64 10 false n [] ≡ decimal n
unfolding digits
onto-nil n = refl

-- the digits of a number are letters, and there is one
pub decimal-letters : (n : ℕ) → are_letters (decimal n) ≡ true
decimal-letters n =
    subst (λ (bs : List ℕ). are_letters bs ≡ true) (onto-nil n) (digits-letters 64 n [] refl)

pub decimal-some : (n : ℕ) → has_byte (decimal n) ≡ true
decimal-some n = subst (λ (bs : List ℕ). has_byte bs ≡ true) (onto-nil n) (go (n / 10 == 0))
  where
    go : (last : Bool) →
        has_byte
        (cond last (digit_glyph false (n % 10) ∷ [])
        (digits_onto 63 10 false (n / 10) (digit_glyph false (n % 10) ∷ [])))
        ≡ true
    go true = refl
    go false = digits-some 63 (n / 10) (digit_glyph false (n % 10)) []
