-- What an answer says of the steps that gave it.
use Rattle.std.proofs.Common.{◌≡◌, Bool, true, false, cond, List, [], ◌∷◌, Result, Ok, Err, refl}
use Rattle.std.specs.List.{list_all, AllByRecursion}
use Rattle.std.proofs.lemmas.Bool.{and_parts, and_from}
use Rattle.fnc_hosts.specs.declared.hosts.HostFault.{HostFault}
use Rattle.fnc_device.specs.declared.fault.DefineFault.{DefineFault}
use Rattle.fnc_device.specs.Steps.{◌>>=◌}
use Rattle.fnc_device.specs.Nodes.{or_fault}

-- steps that succeed have each succeeded
pub bind_ok : {A B : Type 0} (r : Result A DefineFault) (f : A → Result B DefineFault) (y : B) → (r >>= f) ≡ Ok y
    → (x : A) × (r ≡ Ok x) × (f x ≡ Ok y)
bind_ok (Ok x) f y h = (x, refl, h)
bind_ok (Err fault) f y h = absurd cc

pub same_Ok : {A E : Type 0} (x y : A) → ◌≡◌ {A = Result A E} (Ok x) (Ok y) → x ≡ y
same_Ok x y h = cc

-- hosts that were read
pub or_fault_is : {X : Type 0} (fault : DefineFault) (r : Result X HostFault) (x : X)
    → or_fault fault r ≡ Ok x → r ≡ Ok x
or_fault_is fault (Ok y) x h = cc
or_fault_is fault (Err e) x h = absurd cc

-- a guard that let pass
pub guard_ok : {A E : Type 0} (b : Bool) (fault : E) (r : Result A E) (y : A) → cond b (Err fault) r ≡ Ok y
    → (b ≡ false) × (r ≡ Ok y)
guard_ok true fault r y h = absurd cc
guard_ok false fault r y h = (refl, h)

pub test_ok : {A E : Type 0} (b : Bool) (fault : E) (r : Result A E) (y : A) → cond b r (Err fault) ≡ Ok y
    → (b ≡ true) × (r ≡ Ok y)
test_ok true fault r y h = (refl, h)
test_ok false fault r y h = absurd cc

-- what holds of each item, as a test of the list
pub list_all-each : {X : Type 0} (p : X → Bool) (xs : List X) → AllByRecursion (λ x. p x ≡ true) xs
    → list_all p xs ≡ true
list_all-each p [] h = refl
list_all-each p (x ∷ xs) h = and_from _ _ h.0 (list_all-each p xs h.1)

pub each-list_all : {X : Type 0} (p : X → Bool) (xs : List X) → list_all p xs ≡ true
    → AllByRecursion (λ x. p x ≡ true) xs
each-list_all p [] h = tt
each-list_all p (x ∷ xs) h = let both = and_parts _ _ h in (both.0, each-list_all p xs both.1)
