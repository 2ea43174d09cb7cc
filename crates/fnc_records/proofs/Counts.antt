-- A slot has had no more runs and failures than there were acts.
use Rattle.std.proofs.Common.{ℕ, List, [], ◌∷◌, Bool, true, false, ◌≤◌, ◌+◌, arith, cond, length}
use Rattle.fnc_journal.specs.declared.entry.Slot.{Slot}
use Rattle.fnc_journal.specs.Slots.{Task}
use Rattle.fnc_journal.specs.Acts.{Act, begun_here, fails_here, runs, failed}

counted : (b : Bool) (n k : ℕ) → n ≤ k → cond b (n + 1) n ≤ k + 1
counted true n k h = omega arith
counted false n k h = omega arith

pub runs-few : (s : Slot) (xs : List Act) → runs s xs ≤ length xs
runs-few s [] = omega arith
runs-few s (a ∷ xs) =
    let more : runs s (a ∷ xs) ≤ length xs + 1 = counted (begun_here s a) (runs s xs) (length xs) (runs-few s xs) in
    omega (arith, more)

pub failed-few : (t : Task) (over : ℕ) (xs : List Act) → failed t over xs ≤ length xs
failed-few t over [] = omega arith
failed-few t over (a ∷ xs) =
    let more : failed t over (a ∷ xs) ≤ length xs + 1 = counted (fails_here t over xs a) (failed t over xs) (length xs)
    (failed-few t over xs) in
    omega (arith, more)
