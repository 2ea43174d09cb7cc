-- What one poll of a source means, by its answer.
use Rattle.std.specs.Prelude.{◌≡◌, ℕ, ◌≤◌, ◌<◌, List, [], ◌∷◌, length, Option}
use Rattle.fnc_outside.specs.Buffered.{Buffered}
use Rattle.fnc_outside.specs.Events.{Happening}
use Rattle.fnc_outside.specs.Faults.{Rose}
use Rattle.fnc_outside.specs.Told.{WhereTold}
use Rattle.fnc_outside.specs.declared.source.Polled.{Polled}

-- the buffer afterwards: it holds the line, which fits, and after any other answer it is empty
abbrev pub IsPolled : Polled → Buffered → Type 0
IsPolled Polled.Line buffer = length buffer.bytes ≤ buffer.size
IsPolled _ buffer = buffer.bytes ≡ []

-- the events that the poll gave: one, or none at the end and at a fault
abbrev pub given_by : Polled → Buffered → List Happening
given_by Polled.Line buffer = Happening.Line buffer.bytes ∷ []
given_by Polled.TooLong buffer = Happening.TooLong buffer.size ∷ []
given_by Polled.Again buffer = Happening.Again ∷ []
given_by Polled.End buffer = []
given_by Polled.Failed buffer = []

-- what was left before the poll, what is left after it, and the answer fit together
abbrev pub Takes : Polled → Buffered → List Happening → List Happening → Type 0
Takes Polled.Line buffer before after = before ≡ Happening.Line buffer.bytes ∷ after
Takes Polled.TooLong buffer before after =
    (line : List ℕ) × (before ≡ Happening.Line line ∷ after) × (buffer.size < length line)
Takes Polled.Again buffer before after = before ≡ Happening.Again ∷ after
Takes Polled.End buffer before after = (before ≡ []) × (after ≡ [])
Takes Polled.Failed buffer before after = after ≡ before

-- the same where the source tells what is left
abbrev pub Leaves : Polled → Buffered → Option (List Happening) → Option (List Happening) → Type 0
Leaves answer buffer before after = WhereTold before after (Takes answer buffer)

-- a poll fails only where the count of faults rose in it
abbrev pub HasCause : Polled → ℕ → ℕ → Type 0
HasCause Polled.Failed before after = Rose before after
HasCause _ before after = Unit {0}
