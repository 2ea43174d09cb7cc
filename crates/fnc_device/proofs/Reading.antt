-- Items that are read one after another.
use Rattle.std.proofs.Common.{◌≡◌, List, [], ◌∷◌, ◌++◌, Result, Ok, Err, refl, ap, sym, append_assoc}
use Rattle.fnc_device.specs.declared.fault.DefineFault.{DefineFault}
use Rattle.fnc_device.specs.Steps.{◌>>=◌, Fails}

-- items that were read, before what reading the rest gives
abbrev pub onto : {X : Type 0} → List X → Result (List X) DefineFault → Result (List X) DefineFault
onto front (Ok xs) = Ok (front ++ xs)
onto front (Err fault) = Err fault

-- an item joins those that were read
pub onto-ok : {X : Type 0} (front : List X) (x : X) (rest : Result (List X) DefineFault)
    → onto front (rest >>= λ xs. Ok (x ∷ xs)) ≡ onto (front ++ x ∷ []) rest
onto-ok front x (Ok xs) = ap Ok (sym (append_assoc front (x ∷ []) xs))
onto-ok front x (Err fault) = refl

-- the fault of a step is that of all
pub Fails-all : {X Y : Type 0} (fault : DefineFault) (one : Result X DefineFault) (all : Result Y DefineFault)
    → Fails fault one → (one ≡ Err fault → all ≡ Err fault) → Fails fault all
Fails-all DefineFault.TooManyOptions one all h f = f h
Fails-all (DefineFault.BadOption name) one all h f = f h
Fails-all (DefineFault.RepeatedOption name) one all h f = f h
Fails-all DefineFault.BadHostList one all h f = f h
Fails-all DefineFault.BadHostMap one all h f = f h
Fails-all DefineFault.BadHostCheck one all h f = f h
Fails-all (DefineFault.BadDuration name) one all h f = f h
Fails-all DefineFault.BadLimit one all h f = f h
Fails-all DefineFault.BadPriority one all h f = f h
Fails-all (DefineFault.BadRetries name) one all h f = f h
Fails-all (DefineFault.MissingParameter name) one all h f = f h
Fails-all DefineFault.NoMemory one all h f = tt
