-- A text whose escapes are well formed decodes to what it spells.
use Rattle.std.proofs.Common.{◌≡◌, ℕ, ◌+◌, ◌*◌, Bool, true, false, cond, ◌&&◌, eqb, List, [], ◌∷◌, Option, Some, None, refl, ap, ⊎_elim, arith}
use Rattle.std.specs.Str.{IsUtf8, is_utf8}
use Rattle.std.proofs.lemmas.Str.{IsUtf8-from_is_utf8}
use Rattle.std.proofs.lemmas.Bool.{cases_Bool}
use Rattle.std.specs.Prelude.{not}
use Rattle.std.specs.Char.{digit_value, is_digit, is_ascii_hexdigit}
use Rattle.std.proofs.lemmas.Bool.Decides.{nat_tests}
use Rattle.percent_encoding.specs.Percent.{percent_decode, is_escape}
use Rattle.fnc_text.specs.Escapes.{begins_hexadecimal, malformed_from, spelled}

-- whether a `%` that stands before this is malformed
abbrev is_malformed : ℕ → List ℕ → Bool
is_malformed b bs = eqb b 37 && not (begins_hexadecimal bs)

-- nothing is found only where the first test fails and nothing is found after it
found_none : (c : Bool) (place : ℕ) (o : Option ℕ) → cond c (Some place) o ≡ None → (c ≡ false) × (o ≡ None)
found_none true place o h = absurd cc
found_none false place o h = (refl, h)

both : (x y : Bool) → not (x && y) ≡ false → (x ≡ true) × (y ≡ true)
both true true h = (refl, refl)
both true false h = absurd cc
both false y h = absurd cc

hexadecimal : (c : ℕ) → is_ascii_hexdigit c ≡ true → is_digit c 16 ≡ true
hexadecimal c h = grind (arith, nat_tests)

-- a well-formed `%` begins an escape, and no other byte does
escape : (percent : Bool) (b high low : ℕ) → eqb b 37 ≡ percent
    → (percent && not (is_ascii_hexdigit high && is_ascii_hexdigit low)) ≡ false → is_escape b high low ≡ percent
escape false b high low e h = rw e refl
escape true b high low e h =
    let digits = both _ _ h in rw (e, hexadecimal high digits.0, hexadecimal low digits.1) refl

same_choice : (a b : Bool) (w x y z : List ℕ) → a ≡ b → w ≡ y → x ≡ z → cond a w x ≡ cond b y z
same_choice a b w x y z p q r = cc

pub percent_decode-spelled : (place : ℕ) (bs : List ℕ) → malformed_from place bs ≡ None → percent_decode bs ≡ spelled bs
unfolding percent_decode
percent_decode-spelled place [] h = refl
percent_decode-spelled place (b ∷ []) h = refl
percent_decode-spelled place (b ∷ c ∷ []) h = refl
percent_decode-spelled place (b ∷ high ∷ low ∷ rest) h =
    let first = found_none (is_malformed b (high ∷ low ∷ rest)) place _ h in
    let second = found_none (is_malformed high (low ∷ rest)) (place + 1) _ first.1 in
    let third = found_none (is_malformed low rest) (place + 1 + 1) _ second.1 in
    let one = percent_decode-spelled (place + 1 + 1 + 1) rest third.1 in
    let other = percent_decode-spelled (place + 1) (high ∷ low ∷ rest) first.1 in
    same_choice _ _ _ _ _ _ (escape (eqb b 37) b high low refl first.0)
    (ap (λ r. (16 * digit_value high + digit_value low) ∷ r) one) (ap (λ r. b ∷ r) other)

-- bytes that cannot be a text fail the test
pub is_utf8-not : (bs : List ℕ) → (IsUtf8 bs → ⊥) → is_utf8 bs ≡ false
is_utf8-not bs h =
    ⊎_elim (λ yes. absurd (h (IsUtf8-from_is_utf8 bs yes))) (λ no. no) (cases_Bool (is_utf8 bs))
