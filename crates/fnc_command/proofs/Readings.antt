-- What holds of each answer of a reading in steps.
use Rattle.std.proofs.Common.{Result, Ok, Err, IfOk}
use Rattle.fnc_journal.specs.declared.cause.Cause.{Cause}
use Rattle.fnc_command.specs.Answers.{and_then}

-- what is read by a function, of whatever was read before
pub each : {X Y : Type 0} (P : X → Type 0) (Q : Y → Type 0) (x : Result X Cause) (f : X → Result Y Cause) → IfOk x P
    → ((v : X) → P v → IfOk (f v) Q) → IfOk (and_then x f) Q
each P Q (Ok v) f p h = h v p
each P Q (Err cause) f p h = tt

-- nothing is claimed of what was read before
pub any : {X : Type 0} (x : Result X Cause) → IfOk x (λ v. Unit {0})
any (Ok v) = tt
any (Err cause) = tt

-- what is made of one value
pub of_one : {X Z : Type 0} (P : X → Type 0) (S : Z → Type 0) (x : Result X Cause) (make : X → Z) → IfOk x P
    → ((a : X) → P a → S (make a)) → IfOk (and_then x (λ a. Ok (make a))) S
of_one P S (Ok a) make p h = h a p
of_one P S (Err cause) make p h = tt

-- what is made of two values
pub of_two : {X Y Z : Type 0} (P : X → Type 0) (Q : Y → Type 0) (S : Z → Type 0) (x : Result X Cause)
    (y : Result Y Cause) (make : X → Y → Z) → IfOk x P → IfOk y Q → ((a : X) (b : Y) → P a → Q b → S (make a b))
    → IfOk (and_then x (λ a. and_then y (λ b. Ok (make a b)))) S
of_two P Q S (Ok a) y make p q h = of_one Q S y (make a) q (λ b. h a b p)
of_two P Q S (Err cause) y make p q h = tt

-- what is made of three values
pub of_three : {X Y W Z : Type 0} (P : X → Type 0) (Q : Y → Type 0) (R : W → Type 0) (S : Z → Type 0)
    (x : Result X Cause) (y : Result Y Cause) (w : Result W Cause) (make : X → Y → W → Z) → IfOk x P → IfOk y Q
    → IfOk w R → ((a : X) (b : Y) (c : W) → P a → Q b → R c → S (make a b c))
    → IfOk (and_then x (λ a. and_then y (λ b. and_then w (λ c. Ok (make a b c))))) S
of_three P Q R S (Ok a) y w make p q r h = of_two Q R S y w (make a) q r (λ b c. h a b c p)
of_three P Q R S (Err cause) y w make p q r h = tt
