-- Words cut off the front of a line, and how many words are wanted.
use Rattle.std.specs.Prelude.{◌≡◌, ℕ, List, [], ◌∷◌, ◌+◌, ◌≤◌, length, Option, Some, None, Result, Ok, Err}
use Rattle.fnc_journal.specs.declared.cause.Cause.{Cause}
use Rattle.fnc_text.specs.Words.{words}
use Rattle.fnc_command.specs.Answers.{and_then}
use Rattle.fnc_command.specs.declared.word.Cut.{Cut}

-- the first word is cut off a line
abbrev pub CutsWord : List ℕ → Option Cut → Type 0
CutsWord line None = words line ≡ []
CutsWord line (Some cut) =
    (words line ≡ cut.word.now ∷ words cut.rest.now) × (length cut.word.now + length cut.rest.now ≤ length line)

-- no word
abbrev pub none : List (List ℕ) → Result (Unit {0}) Cause
none [] = Ok tt
none (a ∷ ws) = Err Cause.ExtraWord

-- one word
abbrev pub one : List (List ℕ) → Result (List ℕ) Cause
one [] = Err Cause.MissingWord
one (a ∷ []) = Ok a
one (a ∷ b ∷ ws) = Err Cause.ExtraWord

-- two words
abbrev pub two : List (List ℕ) → Result (List ℕ × List ℕ) Cause
two (a ∷ b ∷ []) = Ok (a, b)
two (a ∷ b ∷ c ∷ ws) = Err Cause.ExtraWord
two _ = Err Cause.MissingWord

-- three words
abbrev pub three : List (List ℕ) → Result (List ℕ × List ℕ × List ℕ) Cause
three [] = Err Cause.MissingWord
three (a ∷ ws) = and_then (two ws) (λ p. Ok (a, p.0, p.1))
