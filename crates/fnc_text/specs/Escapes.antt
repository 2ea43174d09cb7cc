-- Escapes: `%` and two hexadecimal digits, of either case, stand for a byte. Any other byte stands for itself.
use Rattle.std.specs.Prelude.{
  ◌≡◌,
  ℕ,
  List,
  [],
  ◌∷◌,
  ◌+◌,
  ◌*◌,
  Bool,
  false,
  not,
  ◌&&◌,
  ◌==◌,
  if◌then◌else◌,
  Option,
  Some,
  None,
  Result,
  Ok,
  Err,
}
use Rattle.std.specs.Char.{is_ascii_hexdigit, digit_value}
use Rattle.std.specs.Str.{is_utf8}
use Rattle.fnc_text.specs.declared.escape.EscapeFault.{EscapeFault}

-- whether a text begins with two hexadecimal digits
abbrev pub begins_hexadecimal : List ℕ → Bool
begins_hexadecimal (high ∷ low ∷ rest) = is_ascii_hexdigit high && is_ascii_hexdigit low
begins_hexadecimal _ = false

-- the first place of a `%` that two hexadecimal digits do not follow, in a text that begins at a place
abbrev pub malformed_from : ℕ → List ℕ → Option ℕ
malformed_from place [] = None
malformed_from place (b ∷ bs) =
    if b == 37 && not (begins_hexadecimal bs) then Some place else malformed_from (place + 1) bs

-- the bytes that a text without such a `%` spells
abbrev pub spelled : List ℕ → List ℕ
spelled [] = []
spelled (b ∷ []) = b ∷ []
spelled (b ∷ c ∷ []) = b ∷ c ∷ []
spelled (b ∷ high ∷ low ∷ rest) =
    if b == 37 then (16 * digit_value high + digit_value low) ∷ spelled rest else b ∷ spelled (high ∷ low ∷ rest)

-- the bytes, unless an escape is malformed
abbrev pub unless_malformed : Option ℕ → List ℕ → Result (List ℕ) EscapeFault
unless_malformed None bytes = Ok bytes
unless_malformed (Some place) bytes = Err (EscapeFault.BadEscape place)

-- the bytes that a word spells, or where its first malformed escape stands
abbrev pub unescaped : List ℕ → Result (List ℕ) EscapeFault
unescaped word = unless_malformed (malformed_from 0 word) (spelled word)

-- bytes that have to be a text
abbrev pub as_text : Result (List ℕ) EscapeFault → Result (List ℕ) EscapeFault
as_text (Ok bytes) = if is_utf8 bytes then Ok bytes else Err EscapeFault.NotUtf8
as_text (Err fault) = Err fault

-- the text that a word spells, or its first fault
abbrev pub unescaped_text : List ℕ → Result (List ℕ) EscapeFault
unescaped_text word = as_text (unescaped word)

-- an answer, seen as its bytes, is what reading gives, unless memory was refused
abbrev pub Gives : {X : Type 0} → (X → List ℕ) → Result X EscapeFault → Result (List ℕ) EscapeFault → Type 0
Gives view (Ok x) read = read ≡ Ok (view x)
Gives view (Err (EscapeFault.BadEscape place)) read = read ≡ Err (EscapeFault.BadEscape place)
Gives view (Err EscapeFault.NotUtf8) read = read ≡ Err EscapeFault.NotUtf8
Gives view (Err EscapeFault.NoMemory) read = Unit {0}
