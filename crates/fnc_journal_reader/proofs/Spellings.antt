-- The bytes of what is spelled: escaped texts and numbers have no byte that separates.
use Rattle.std.proofs.Common.{
  ◌≡◌,
  ◌<◌,
  ◌≤◌,
  ◌+◌,
  ◌*◌,
  ◌/◌,
  ◌%◌,
  ◌^◌,
  ◌==◌,
  ℕ,
  zero,
  suc,
  List,
  [],
  ◌∷◌,
  ◌++◌,
  Bool,
  true,
  false,
  ◌&&◌,
  ◌||◌,
  cond,
  length,
  decimal,
  Some,
  None,
  Ok,
  refl,
  sym,
  ap,
  ◌∙◌,
  arith,
  rules,
  eqb-true,
}
use Rattle.std.specs.Prelude.{nat_lt, not, bytes_eq}
use Rattle.std.specs.Char.{is_ascii_digit, is_ascii_hexdigit, digit_value}
use Rattle.std.specs.List.{list_all}
use Rattle.std.specs.Str.{is_utf8}
use Rattle.std.proofs.lemmas.Bool.{and_parts, le-leb, lt-ltb, ltb-true}
use Rattle.std.proofs.lemmas.Bool.{false≢true}
use Rattle.std.proofs.lemmas.Bool.Decides.{Decides-below_and, nat_tests}
use Rattle.std.proofs.lemmas.Fmt.{digits_decimal, digits_value-decimal, decimal_nonempty, length-decimal-le}
use Rattle.std.proofs.lemmas.Str.Parse.{IsNumeralModel, numerals_by_weight}
use Rattle.std.proofs.lemmas.List.Folds.{list_all-append}
use Rattle.fnc_journal.specs.Line.{escaped, escaped_byte, hex_digit, is_plain}
use Rattle.fnc_journal_reader.proofs.CharacterBytes.{are_bytes}
use Rattle.fnc_text.specs.Digits.{digits_value, number}
use Rattle.fnc_text.specs.Escapes.{malformed_from, spelled, unescaped_text}

-- a byte that escaped texts and numbers are made of
abbrev pub is_safe : ℕ → Bool
is_safe b = is_plain b || (b == 37)

-- no such byte stands in a text
abbrev pub lacks : ℕ → List ℕ → Bool
lacks sep text = list_all (λ b. not (b == sep)) text

-- escapes, byte by byte

abbrev all_safe : List ℕ → Bool
all_safe text = list_all is_safe text

-- an escaped byte is read back, and its bytes are safe
abbrev reads_back : ℕ → List ℕ → Bool
reads_back b (c ∷ []) = (c == b) && not (c == 37)
reads_back b (percent ∷ high ∷ low ∷ []) =
    (percent == 37) && is_ascii_hexdigit high && is_ascii_hexdigit low && not (high == 37) && not (low == 37)
    && (16 * digit_value high + digit_value low == b)
reads_back b _ = false

abbrev bytes_match : ℕ → Bool
bytes_match zero = true
bytes_match (suc n) = (all_safe (escaped_byte n) && reads_back n (escaped_byte n)) && bytes_match n

bytes_checked : bytes_match 256 ≡ true
bytes_checked = refl

byte_matches : (b : ℕ) → b < 256 → (all_safe (escaped_byte b) && reads_back b (escaped_byte b)) ≡ true
byte_matches =
    (Decides-below_and (λ b. all_safe (escaped_byte b) && reads_back b (escaped_byte b)) (λ b. (all_safe (escaped_byte b) && reads_back b (escaped_byte b)) ≡ true) bytes_match
    (λ b. ((λ e. e), (λ e. e))) refl (λ _. refl) 256).0 bytes_checked

-- what holds of a list by its items
pub all-implied : {X : Type 0} (p q : X → Bool) → ((x : X) → p x ≡ true → q x ≡ true) → (xs : List X) →
    list_all p xs ≡ true → list_all q xs ≡ true
all-implied p q f [] h = refl
all-implied p q f (x ∷ xs) h =
    let parts = and_parts (p x) (list_all p xs) h in rw (f x parts.0, all-implied p q f xs parts.1) refl

pub not-true : (b : Bool) → not b ≡ true → b ≡ false
not-true true h = absurd cc
not-true false h = refl

pub escaped-safe : (text : List ℕ) → are_bytes text ≡ true → list_all is_safe (escaped text) ≡ true
escaped-safe [] h = refl
escaped-safe (b ∷ bs) h =
    let parts = and_parts (nat_lt b 256) (are_bytes bs) h in
    let one =
    and_parts (all_safe (escaped_byte b)) (reads_back b (escaped_byte b))
    (byte_matches b (ltb-true b 256 parts.0)) in
    list_all-append is_safe (escaped_byte b) (escaped bs) ∙ rw (one.0, escaped-safe bs parts.1) refl

spelled-plain : (b : ℕ) (rest : List ℕ) → (b == 37) ≡ false → spelled (b ∷ rest) ≡ b ∷ spelled rest
spelled-plain b [] h = refl
spelled-plain b (c ∷ []) h = refl
spelled-plain b (c ∷ d ∷ rest) h = rw h refl

record IsEscape (b percent high low : ℕ) : Type 0 where
  marked : (percent == 37) ≡ true
  first : is_ascii_hexdigit high ≡ true
  second : is_ascii_hexdigit low ≡ true
  plain : (high == 37) ≡ false
  also : (low == 37) ≡ false
  value : 16 * digit_value high + digit_value low ≡ b

is_escape : (b percent high low : ℕ) → reads_back b (percent ∷ high ∷ low ∷ []) ≡ true → IsEscape b percent high low
is_escape b percent high low h =
    let five = and_parts _ _ h in
    let four = and_parts _ _ five.0 in
    let three = and_parts _ _ four.0 in
    let two = and_parts _ _ three.0 in
    let one = and_parts _ _ two.0 in
    record {
      marked = one.0;
      first = one.1;
      second = two.1;
      plain = not-true _ three.1;
      also = not-true _ four.1;
      value = eqb-true _ _ five.1;
    }

spelled-byte : (b : ℕ) (e rest : List ℕ) → reads_back b e ≡ true → spelled (e ++ rest) ≡ b ∷ spelled rest
spelled-byte b [] rest h = absurd cc
spelled-byte b (c ∷ []) rest h =
    let parts = and_parts (c == b) (not (c == 37)) h in
    spelled-plain c rest (not-true _ parts.1) ∙ ap (λ x. x ∷ spelled rest) (eqb-true c b parts.0)
spelled-byte b (c ∷ d ∷ []) rest h = absurd cc
spelled-byte b (percent ∷ high ∷ low ∷ []) rest h =
    let e = is_escape b percent high low h in
    rw e.marked (ap (λ x. x ∷ spelled rest) e.value)
spelled-byte b (c ∷ d ∷ e ∷ f ∷ more) rest h = absurd cc

formed-byte : (b : ℕ) (e rest : List ℕ) → reads_back b e ≡ true → ((place : ℕ) → malformed_from place rest ≡ None) →
    (place : ℕ) → malformed_from place (e ++ rest) ≡ None
formed-byte b [] rest h more place = absurd cc
formed-byte b (c ∷ []) rest h more place =
    let parts = and_parts (c == b) (not (c == 37)) h in
    rw (not-true _ parts.1) (more (place + 1))
formed-byte b (c ∷ d ∷ []) rest h more place = absurd cc
formed-byte b (percent ∷ high ∷ low ∷ []) rest h more place =
    let e = is_escape b percent high low h in
    rw (e.marked, e.first, e.second, e.plain, e.also) (more (place + 1 + 1 + 1))
formed-byte b (c ∷ d ∷ e ∷ f ∷ g) rest h more place = absurd cc

spelled-back : (text : List ℕ) → are_bytes text ≡ true → spelled (escaped text) ≡ text
spelled-back [] h = refl
spelled-back (b ∷ bs) h =
    let parts = and_parts (nat_lt b 256) (are_bytes bs) h in
    let one =
    and_parts (all_safe (escaped_byte b)) (reads_back b (escaped_byte b))
    (byte_matches b (ltb-true b 256 parts.0)) in
    spelled-byte b (escaped_byte b) (escaped bs) one.1 ∙ ap (λ r. b ∷ r) (spelled-back bs parts.1)

formed-back : (text : List ℕ) → are_bytes text ≡ true → (place : ℕ) → malformed_from place (escaped text) ≡ None
formed-back [] h place = refl
formed-back (b ∷ bs) h place =
    let parts = and_parts (nat_lt b 256) (are_bytes bs) h in
    let one =
    and_parts (all_safe (escaped_byte b)) (reads_back b (escaped_byte b))
    (byte_matches b (ltb-true b 256 parts.0)) in
    formed-byte b (escaped_byte b) (escaped bs) one.1 (formed-back bs parts.1) place

-- the text that was escaped is read back
pub unescaped-back : (text : List ℕ) → are_bytes text ≡ true → is_utf8 text ≡ true →
    unescaped_text (escaped text) ≡ Ok text
unescaped-back text h u = rw (formed-back text h 0, spelled-back text h, u) refl

-- decimal digits
own : IsNumeralModel (λ ds. list_all is_ascii_digit ds ≡ true) digits_value
own = numerals_by_weight _ (search rules) digits_value (search rules)

pub decimal-digits : (n : ℕ) → n < 2 ^ 64 → list_all is_ascii_digit (decimal n) ≡ true
decimal-digits n h = digits_decimal own n h

pub number-back : (most n : ℕ) → n ≤ most → n < 2 ^ 64 → number most (decimal n) ≡ Some n
number-back most n l h =
    rw (
      lt-ltb 0 (length (decimal n)) (decimal_nonempty n h),
      le-leb (length (decimal n)) 20 (length-decimal-le 20 n (omega arith) (omega (arith, h)) h),
      decimal-digits n h,
      digits_value-decimal own n h,
      le-leb n most l,
    ) refl

digit-safe : (c : ℕ) → is_ascii_digit c ≡ true → is_safe c ≡ true
digit-safe c h = grind (arith, nat_tests)

pub digits-safe : (ds : List ℕ) → list_all is_ascii_digit ds ≡ true → list_all is_safe ds ≡ true
digits-safe ds h = all-implied is_ascii_digit is_safe digit-safe ds h

pub decimal-safe : (n : ℕ) → n < 2 ^ 64 → list_all is_safe (decimal n) ≡ true
decimal-safe n h = digits-safe (decimal n) (decimal-digits n h)

-- what is safe lacks each byte that is not
other-byte : (sep b : ℕ) → is_safe sep ≡ false → is_safe b ≡ true → not (b == sep) ≡ true
other-byte sep b s h = go (b == sep) refl
  where
    go : (is : Bool) → (b == sep) ≡ is → not is ≡ true
    go false e = refl
    go true e = let same : b ≡ sep = eqb-true b sep e in absurd (false≢true (sym s ∙ ap is_safe (sym same) ∙ h))

pub safe-lacks : (sep : ℕ) (text : List ℕ) → is_safe sep ≡ false → list_all is_safe text ≡ true → lacks sep text ≡ true
safe-lacks sep text s h = all-implied is_safe (λ b. not (b == sep)) (λ b. other-byte sep b s) text h

pub escaped-lacks : (sep : ℕ) (text : List ℕ) → is_safe sep ≡ false → are_bytes text ≡ true →
    lacks sep (escaped text) ≡ true
escaped-lacks sep text s h = safe-lacks sep (escaped text) s (escaped-safe text h)

pub decimal-lacks : (sep n : ℕ) → is_safe sep ≡ false → n < 2 ^ 64 → lacks sep (decimal n) ≡ true
decimal-lacks sep n s h = safe-lacks sep (decimal n) s (decimal-safe n h)

pub lacks-append : (sep : ℕ) (xs ys : List ℕ) → lacks sep xs ≡ true → lacks sep ys ≡ true → lacks sep (xs ++ ys) ≡ true
lacks-append sep xs ys h k = list_all-append (λ b. not (b == sep)) xs ys ∙ rw (h, k) refl

-- a text that has a byte
abbrev pub has_byte : List ℕ → Bool
has_byte [] = false
has_byte (b ∷ bs) = true

pub some-has : (text : List ℕ) → nat_lt 0 (length text) ≡ true → has_byte text ≡ true
some-has [] h = cc
some-has (b ∷ bs) h = refl

-- an escaped text has one where the text has
pub escaped-has : (text : List ℕ) → has_byte text ≡ true → has_byte (escaped text) ≡ true
escaped-has [] h = absurd cc
escaped-has (b ∷ bs) h = go (is_plain b)
  where
    go : (plain : Bool) →
        has_byte (cond plain (b ∷ []) (37 ∷ hex_digit (b / 16) ∷ hex_digit (b % 16) ∷ []) ++ escaped bs) ≡ true
    go true = refl
    go false = refl

pub decimal-has : (n : ℕ) → n < 2 ^ 64 → has_byte (decimal n) ≡ true
decimal-has n h = some-has (decimal n) (lt-ltb 0 (length (decimal n)) (decimal_nonempty n h))

pub digit-other : (d c : ℕ) → is_ascii_digit c ≡ false → is_ascii_digit d ≡ true → (d == c) ≡ false
digit-other d c n h = go (d == c) refl
  where
    go : (is : Bool) → (d == c) ≡ is → is ≡ false
    go false e = refl
    go true e = absurd (false≢true (sym n ∙ ap is_ascii_digit (sym (eqb-true d c e)) ∙ h))

-- digits are no word that begins with another byte
pub digits-differ : (ds : List ℕ) (c : ℕ) (cs : List ℕ) → is_ascii_digit c ≡ false → list_all is_ascii_digit ds ≡ true →
    bytes_eq ds (c ∷ cs) ≡ false
digits-differ [] c cs n h = refl
digits-differ (d ∷ ds) c cs n h =
    rw (digit-other d c n (and_parts (is_ascii_digit d) (list_all is_ascii_digit ds) h).0) refl
