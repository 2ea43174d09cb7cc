-- Entries that are read one after another.
use Rattle.std.proofs.Common.{◌≡◌, List, [], ◌∷◌, ◌++◌, Result, Ok, Err, refl, ap, sym, append_assoc}
use Rattle.fnc_hosts.specs.declared.hosts.HostFault.{HostFault}
use Rattle.fnc_hosts.specs.Hosts.{before, together, Fails}

-- items that were read, before what reading the rest gives
abbrev pub onto : {X : Type 0} → List X → Result (List X) HostFault → Result (List X) HostFault
onto front (Ok xs) = Ok (front ++ xs)
onto front (Err fault) = Err fault

onto-before : {X : Type 0} (front : List X) (x : X) (rest : Result (List X) HostFault)
    → onto front (before x rest) ≡ onto (front ++ x ∷ []) rest
onto-before front x (Ok xs) = ap Ok (sym (append_assoc front (x ∷ []) xs))
onto-before front x (Err fault) = refl

-- an item joins those that were read
pub onto-ok : {X : Type 0} (front : List X) (x : X) (one : Result X HostFault) (rest : List (Result X HostFault))
    → one ≡ Ok x → onto front (together (one ∷ rest)) ≡ onto (front ++ x ∷ []) (together rest)
onto-ok front x one rest e = rw e (onto-before front x (together rest))

-- a fault is the first
pub onto-err : {X : Type 0} (front : List X) (fault : HostFault) (one : Result X HostFault)
    (rest : List (Result X HostFault)) → one ≡ Err fault → onto front (together (one ∷ rest)) ≡ Err fault
onto-err front fault one rest e = rw e refl

-- the fault of one entry is that of all
pub Fails-all : {X Y : Type 0} (fault : HostFault) (one : Result X HostFault) (all : Result Y HostFault)
    → Fails fault one → (one ≡ Err fault → all ≡ Err fault) → Fails fault all
Fails-all HostFault.NoMemory one all h f = tt
Fails-all (HostFault.NoColon place) one all h f = f h
Fails-all (HostFault.EmptyName place) one all h f = f h
Fails-all (HostFault.EmptyPort place) one all h f = f h
Fails-all (HostFault.LongName place) one all h f = f h
Fails-all HostFault.TooMany one all h f = f h
