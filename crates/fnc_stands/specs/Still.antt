-- What of an operation stays as it is while time passes.
use Rattle.std.specs.Prelude.{ℕ, List, ◌≡◌, ◌≤◌, Bool, true, ◌&&◌, not, Option, Some, is_some, option_and_then}
use Rattle.std.specs.List.{AllByRecursion}
use Rattle.fnc_journal.specs.Slots.{Task, Operation}
use Rattle.fnc_journal.specs.Acts.{Act, moment_of, begun_at, end, concluded}
use Rattle.fnc_journal.specs.Standing.{slots, standing, since, ready}

-- no act came after a moment
abbrev pub ArePast : ℕ → List Act → Type 0
ArePast m xs = AllByRecursion (λ a. moment_of a ≤ m) xs

-- whether a slot is under way: a run of it was started, and it is not concluded
abbrev pub is_under_way : Operation → ℕ → List Act → Task → Bool
is_under_way o m xs t = is_some (begun_at t.slot xs) && not (concluded t o.over m xs)

-- of the slots of an operation none is under way but that at which it stands
abbrev pub OnlyOneRuns : Operation → ℕ → List Act → Type 0
OnlyOneRuns o m xs = AllByRecursion (λ t. is_under_way o m xs t ≡ true → standing o m xs ≡ Some t) (slots o m xs)

-- the end of the action of the slot at which an operation stands, where that was started
abbrev pub standing_end : Operation → ℕ → List Act → Option ℕ
standing_end o m xs = option_and_then (λ t. end t xs) (standing o m xs)

-- an operation stands at a later moment where it stood, since then, and its next try is ready as it was
pub record StandsStill (o : Operation) (a m : ℕ) (xs : List Act) : Type 0 where
  pub stands : standing o m xs ≡ standing o a xs
  pub since_same : since o m xs ≡ since o a xs
  pub ready_same : (t : Task) → ready o m xs t ≡ ready o a xs t
