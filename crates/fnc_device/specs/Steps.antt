-- Steps that may fail, one after another, and what an answer says of them.
use Rattle.std.specs.Prelude.{◌≡◌, Result, Ok, Err}
use Rattle.fnc_device.specs.declared.fault.DefineFault.{DefineFault}

-- a step after another: the first fault counts
infixl 10 ◌>>=◌
abbrev pub ◌>>=◌ : {A B : Type 0} → Result A DefineFault → (A → Result B DefineFault) → Result B DefineFault
(Ok x) >>= f = f x
(Err fault) >>= f = Err fault

-- a fault is that of reading, unless it is want of memory
abbrev pub Fails : {X : Type 0} → DefineFault → Result X DefineFault → Type 0
Fails DefineFault.NoMemory read = Unit {0}
Fails fault read = read ≡ Err fault

-- an answer is what reading gives, unless memory was refused
abbrev pub Gives : {X : Type 0} → Result X DefineFault → Result X DefineFault → Type 0
Gives (Ok x) read = read ≡ Ok x
Gives (Err fault) read = Fails fault read
