-- Steps of reading that may fail, one after another, and what an answer says of them.
use Rattle.std.specs.Prelude.{◌≡◌, List, [], ◌∷◌, ℕ, Option, Some, None, Result, Ok, Err}
use Rattle.fnc_journal_reader.specs.declared.fault.EntryFault.{EntryFault}

-- a step after another: the first fault counts
infixl 10 ◌>>=◌
abbrev pub ◌>>=◌ : {A B : Type 0} → Result A EntryFault → (A → Result B EntryFault) → Result B EntryFault
(Ok x) >>= f = f x
(Err fault) >>= f = Err fault

-- a fault is that of reading, unless it is want of memory
abbrev pub Fails : {X : Type 0} → EntryFault → Result X EntryFault → Type 0
Fails EntryFault.NoMemory read = Unit {0}
Fails EntryFault.Malformed read = read ≡ Err EntryFault.Malformed

-- an answer is what reading gives, unless memory was refused
abbrev pub Gives : {X : Type 0} → Result X EntryFault → Result X EntryFault → Type 0
Gives (Ok x) read = read ≡ Ok x
Gives (Err fault) read = Fails fault read

-- what has to be there
abbrev pub or_malformed : {X : Type 0} → Option X → Result X EntryFault
or_malformed (Some x) = Ok x
or_malformed None = Err EntryFault.Malformed

-- each part is read
abbrev pub each : {X : Type 0} → (List ℕ → Result X EntryFault) → List (List ℕ) → Result (List X) EntryFault
each read [] = Ok []
each read (part ∷ parts) = read part >>= λ x. each read parts >>= λ xs. Ok (x ∷ xs)
