-- Characters are spelled by bytes.
use lib.Utf8.{encode, encodes, scalar, scalars, scalar_cases}
use Rattle.std.proofs.Common.{
  ◌≡◌,
  ◌<◌,
  ◌+◌,
  ◌/◌,
  ◌%◌,
  ℕ,
  List,
  [],
  ◌∷◌,
  Bool,
  true,
  false,
  cond,
  refl,
  ◌∙◌,
  subst,
  arith,
  ltb,
  ⊎_elim,
  lt-ltb,
}
use Rattle.std.specs.Prelude.{nat_lt}
use Rattle.std.specs.List.{list_all}
use Rattle.std.specs.Str.{is_utf8}
use Rattle.std.proofs.lemmas.Bool.{and_parts, ltb-true}
use Rattle.std.proofs.lemmas.Str.{IsUtf8-from_is_utf8}
use Rattle.std.proofs.lemmas.List.Folds.{list_all-append}

abbrev pub are_bytes : List ℕ → Bool
are_bytes text = list_all (λ b. nat_lt b 256) text

byte : (b : ℕ) → b < 256 → nat_lt b 256 ≡ true
byte b h = lt-ltb b 256 h

with : (b : ℕ) (bs : List ℕ) → b < 256 → are_bytes bs ≡ true → are_bytes (b ∷ bs) ≡ true
with b bs h k = rw (byte b h, k) refl

below : (c : ℕ) → scalar c ≡ true → c < 1114112
below c h = ⊎_elim (λ k. omega (arith, k)) (λ k. k.1) (scalar_cases c h)

encode-bytes : (c : ℕ) → scalar c ≡ true → are_bytes (encode c) ≡ true
unfolding encode
encode-bytes c h =
    let most = below c h in
    go (ltb c 128) (ltb c 2048) (ltb c 65536) (λ e. ltb-true c 128 e) (λ e. ltb-true c 2048 e) (λ e. ltb-true c 65536 e)
  where
    go : (x y z : Bool) → (x ≡ true → c < 128) → (y ≡ true → c < 2048) → (z ≡ true → c < 65536) →
        are_bytes (cond x (c ∷ [])
        (cond y ((192 + c / 64) ∷ (128 + c % 64) ∷ [])
        (cond z ((224 + c / 4096) ∷ (128 + (c / 64) % 64) ∷ (128 + c % 64) ∷ [])
        ((240 + c / 262144) ∷ (128 + (c / 4096) % 64) ∷ (128 + (c / 64) % 64) ∷ (128 + c % 64) ∷ [])))) ≡ true
    go true y z f g k = let s = f refl in with c [] (omega (arith, s)) refl
    go false true z f g k =
        let s = g refl in
        with (192 + c / 64) ((128 + c % 64) ∷ []) (omega (arith, s)) (with (128 + c % 64) [] (omega arith) refl)
    go false false true f g k =
        let s = k refl in
        with (224 + c / 4096) ((128 + (c / 64) % 64) ∷ (128 + c % 64) ∷ []) (omega (arith, s))
        (with (128 + (c / 64) % 64) ((128 + c % 64) ∷ []) (omega arith) (with (128 + c % 64) [] (omega arith) refl))
    go false false false f g k =
        let s = below c h in
        with (240 + c / 262144) ((128 + (c / 4096) % 64) ∷ (128 + (c / 64) % 64) ∷ (128 + c % 64) ∷ []) (omega (arith, s)) (with (128 + (c / 4096) % 64) ((128 + (c / 64) % 64) ∷ (128 + c % 64) ∷ []) (omega arith) (with (128 + (c / 64) % 64) ((128 + c % 64) ∷ []) (omega arith) (with (128 + c % 64) [] (omega arith) refl)))

encodes-bytes : (cs : List ℕ) → scalars cs ≡ true → are_bytes (encodes cs) ≡ true
encodes-bytes [] h = refl
encodes-bytes (c ∷ cs) h =
    let two = and_parts (scalar c) (scalars cs) h in
    list_all-append (λ b. nat_lt b 256) (encode c) (encodes cs) ∙ rw (encode-bytes c two.0, encodes-bytes cs two.1) refl

pub characters-bytes : (text : List ℕ) → is_utf8 text ≡ true → are_bytes text ≡ true
characters-bytes text h =
    let u = IsUtf8-from_is_utf8 text h in
    subst (λ t. are_bytes t ≡ true) u.1.1 (encodes-bytes u.0 u.1.0)
