-- What is read, or the first cause why nothing is.
use Rattle.std.specs.Prelude.{◌≡◌, ◌⊎◌, Result, Ok, Err, MatchResult}
use Rattle.fnc_journal.specs.declared.cause.Cause.{Cause}

-- what is read next, unless there was a cause before
abbrev pub and_then : {X Y : Type 0} → Result X Cause → (X → Result Y Cause) → Result Y Cause
and_then (Ok x) next = next x
and_then (Err cause) next = Err cause

-- a cause is the first, or memory was refused
abbrev pub Refuses : {X : Type 0} → Cause → Result X Cause → Type 0
Refuses cause said = (cause ≡ Cause.NoMemory) ⊎ (said ≡ Err cause)

-- an answer is what is said, unless memory was refused
abbrev pub Tells : {X : Type 0} → Result X Cause → Result X Cause → Type 0
Tells answer said = MatchResult answer (λ x. said ≡ Ok x) (λ cause. Refuses cause said)
