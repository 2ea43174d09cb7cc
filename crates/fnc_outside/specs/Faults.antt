-- Counts of faults: numbers up to 2^64 - 1.
use Rattle.std.specs.Prelude.{ℕ, ◌+◌, ◌-◌, ◌^◌, ◌≤◌, ◌<◌, min}

-- one more, up to the greatest number
abbrev pub one_more : ℕ → ℕ
one_more count = min (count + 1) (2 ^ 64 - 1)

-- the count rose in a call: it is greater afterwards, or stands at the greatest number
abbrev pub Rose : ℕ → ℕ → Type 0
Rose before after = one_more before ≤ after

-- the count did not fall in a call, and is a count
abbrev pub NeverFalls : ℕ → ℕ → Type 0
NeverFalls before after = (before ≤ after) × (after < 2 ^ 64)
