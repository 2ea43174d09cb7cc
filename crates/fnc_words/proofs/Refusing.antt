-- What a refusal of words says.
use Rattle.std.proofs.Common.{List, [], ◌∷◌, ◌≡◌, ◌↔◌, ◌==◌, false, Option, Some, None, Result, Ok}
use Rattle.std.proofs.Common.{Err, refl, sym, ap, subst}
use Rattle.std.proofs.Common.{arith, inl, inr, length}
use Rattle.std.specs.Prelude.{IsErrAnd, MatchResult, option_and_then, option_map}
use Rattle.std.proofs.lemmas.Bool.{ne_eqb}
use Rattle.clap.specs.Words.{App, HasKind, Kinds, Text, fault_of, kind_of}
use Rattle.clap.specs.declared.error.Error.{Error}
use Rattle.clap.specs.declared.error.kind.ErrorKind.TheVariants.{OutOfMemory}
use Rattle.fnc_words.specs.Arguments.{taken}
use Rattle.fnc_words.specs.Commands.{IsRefused}
use Rattle.fnc_words.specs.declared.command.WordsFault.{WordsFault}

-- where `clap` does not take the words, they are refused
pub refused : (app : App) (words : List Text) (error : Error) (fault : WordsFault) →
    HasKind (fault_of app words) error → ((fault ≡ WordsFault.NoMemory) ↔ (kind_of error ≡ OutOfMemory)) →
    IsRefused (taken app words) fault
refused app words error WordsFault.NoMemory k is = tt
refused app words error WordsFault.NoCommand k is = go (fault_of app words) refl k
  where
    go : (kinds : Kinds) → fault_of app words ≡ kinds → HasKind kinds error → taken app words ≡ None
    go kinds e (inl none) = let bad : WordsFault.NoCommand ≡ WordsFault.NoMemory = is.1 none in cc
    go [] e (inr among) = absurd among
    go (kind ∷ kinds) e (inr among) =
        let some : (length (kind ∷ kinds) == 0) ≡ false = ne_eqb (length (kind ∷ kinds)) 0 (λ z. omega (arith, z)) in
        rw (e, some) refl

-- what is refused has no values
pub refused-map : {A B : Type 0} (f : A → B) (o : Option A) (fault : WordsFault) → IsRefused o fault →
    IsRefused (option_map f o) fault
refused-map f o WordsFault.NoMemory is = tt
refused-map f o WordsFault.NoCommand is = ap (option_map f) is

pub refused-then : {A B : Type 0} (f : A → Option B) (o : Option A) (fault : WordsFault) → IsRefused o fault →
    IsRefused (option_and_then f o) fault
refused-then f o WordsFault.NoMemory is = tt
refused-then f o WordsFault.NoCommand is = ap (option_and_then f) is

-- a fault that is passed on
pub passed-on : {A : Type 0} (r : Result A WordsFault) (fault : WordsFault) (asked : Option A) →
    IsErrAnd r (λ e. e ≡ fault) → IsRefused asked fault → MatchResult r (λ x. asked ≡ Some x) (IsRefused asked)
passed-on (Ok x) fault asked e refused = absurd e
passed-on (Err e) fault asked is refused = subst (IsRefused asked) (sym is) refused

-- what stands for what is asked answers it
pub answered : {A : Type 0} (r : Result A WordsFault) (asked given : Option A) → asked ≡ given →
    MatchResult r (λ x. given ≡ Some x) (IsRefused given) → MatchResult r (λ x. asked ≡ Some x) (IsRefused asked)
answered r asked given is = subst (λ o. MatchResult r (λ x. o ≡ Some x) (IsRefused o)) (sym is)
