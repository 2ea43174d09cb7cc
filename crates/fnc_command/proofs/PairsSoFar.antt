-- Options that are read one after another.
use Rattle.std.proofs.Common.{◌≡◌, ℕ, List, [], ◌∷◌, ◌++◌, Result, Ok, Err, refl, ap, sym, append_assoc}
use Rattle.fnc_journal.specs.declared.cause.Cause.{Cause}
use Rattle.fnc_journal.specs.declared.names.Pair.{Pair}
use Rattle.fnc_command.specs.Answers.{and_then}
use Rattle.fnc_command.specs.Options.{pair_of, pairs_of}

-- pairs that were read, before what reading the rest gives
abbrev pub onto : List Pair → Result (List Pair) Cause → Result (List Pair) Cause
onto front (Ok pairs) = Ok (front ++ pairs)
onto front (Err cause) = Err cause

one_more : (front : List Pair) (pair : Pair) (rest : Result (List Pair) Cause)
    → onto front (and_then rest (λ pairs. Ok (pair ∷ pairs))) ≡ onto (front ++ pair ∷ []) rest
one_more front pair (Ok pairs) = ap Ok (sym (append_assoc front (pair ∷ []) pairs))
one_more front pair (Err cause) = refl

-- a pair joins those that were read
pub onto-ok : (front : List Pair) (pair : Pair) (word : List ℕ) (ws : List (List ℕ)) → pair_of word ≡ Ok pair
    → onto front (pairs_of (word ∷ ws)) ≡ onto (front ++ pair ∷ []) (pairs_of ws)
onto-ok front pair word ws e = rw e (one_more front pair (pairs_of ws))

-- a cause is the first
pub onto-err : (front : List Pair) (cause : Cause) (word : List ℕ) (ws : List (List ℕ)) → pair_of word ≡ Err cause
    → onto front (pairs_of (word ∷ ws)) ≡ Err cause
onto-err front cause word ws e = rw e refl
