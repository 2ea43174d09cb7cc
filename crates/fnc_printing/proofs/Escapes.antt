-- Texts are escaped as `percent_encoding` does it with our set, checked byte by byte.
use Rattle.std.proofs.Common.{◌≡◌, ℕ, zero, suc, ◌<◌, Bool, true, ◌&&◌, List, [], ◌∷◌, ◌++◌, All, refl, ap₂}
use Rattle.std.specs.List.{flat_map}
use Rattle.std.specs.Str.{bytes_eq}
use Rattle.std.proofs.lemmas.Bool.Decides.{Decides-below_and}
use Rattle.std.proofs.lemmas.Slice.Eq.{bytes_eq-Decides}
use Rattle.std.proofs.lemmas.List.Elements.{All-head, All-tail}
use Rattle.percent_encoding.specs.AsciiSet.{should_percent_encode}
use Rattle.percent_encoding.specs.Percent.{encode_byte, percent_encode, percent_encode_byte}
use Rattle.percent_encoding.proofs.PercentLemmas.{IsByte}
use Rattle.fnc_journal.specs.Line.{escaped, escaped_byte}
use Rattle.fnc_printing.specs.declared.piece.TheConstants.{ESCAPED}

abbrev escapes_match : ℕ → Bool
escapes_match zero = true
escapes_match (suc n) = bytes_eq (encode_byte ESCAPED n) (escaped_byte n) && escapes_match n

escapes_checked : escapes_match 256 ≡ true
unfolding percent_encode_byte should_percent_encode
escapes_checked = refl

byte_escaped : (b : ℕ) → b < 256 → encode_byte ESCAPED b ≡ escaped_byte b
byte_escaped =
    (Decides-below_and (λ b. bytes_eq (encode_byte ESCAPED b) (escaped_byte b))
    (λ b. encode_byte ESCAPED b ≡ escaped_byte b) escapes_match (λ b. bytes_eq-Decides _ _) refl (λ _. refl) 256).0
    escapes_checked

bytes_escaped : (name : List ℕ) → All IsByte name → flat_map (encode_byte ESCAPED) name ≡ flat_map escaped_byte name
bytes_escaped [] small = refl
bytes_escaped (b ∷ bs) small =
    ap₂ (λ (xs ys : List ℕ). xs ++ ys) (byte_escaped b (All-head IsByte b bs small))
    (bytes_escaped bs (All-tail IsByte b bs small))

pub name_escaped : (name : List ℕ) → All IsByte name → percent_encode ESCAPED name ≡ escaped name
unfolding percent_encode
name_escaped name small = bytes_escaped name small
