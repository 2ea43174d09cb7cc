-- What was read of a source, with a buffer of a size, and why reading ended.
use Rattle.std.specs.Prelude.{ℕ, ◌≡◌, ◌≤◌, List, [], ◌++◌, length, map, nat_le, if◌then◌else◌, Option, Some, None}
use Rattle.std.specs.List.{AllByRecursion}
use Rattle.fnc_outside.specs.Events.{Happening}
use Rattle.fnc_outside.specs.Faults.{Rose}
use Rattle.fnc_outside.specs.Told.{Gains, WhereTold}
use Rattle.fnc_told.specs.SourceAndSink.{Change, SourceTold}

-- what is made of an event that is still to come: a line that the buffer can hold is read, a longer one is too long
abbrev pub read_in : ℕ → Happening → Happening
read_in size (Happening.Line bytes) =
    if nat_le (length bytes) size then Happening.Line bytes else Happening.TooLong size
read_in size event = event

-- an event that a buffer of this size lets come
abbrev pub FitsIn : ℕ → Happening → Type 0
FitsIn size (Happening.Line bytes) = length bytes ≤ size
FitsIn size (Happening.TooLong at) = at ≡ size
FitsIn size Happening.Again = Unit {0}

-- these events are what was made of the first of those that were to come
pub record AreFirst (size : ℕ) (events before after : List Happening) : Type 0 where
  pub came : List Happening
  pub first : before ≡ came ++ after
  pub read : events ≡ map (read_in size) came

-- The source gave these events, where it tells them. A line that fits into the buffer was read, and a longer one was
-- too long; where the source tells what is to come, these are the first of that, none left out.
pub record Gave (size : ℕ) (source : Change SourceTold) (events : List Happening) : Type 0 where
  pub gained : Gains source.before.given source.after.given events
  pub fit : AllByRecursion (FitsIn size) events
  pub first : WhereTold source.before.left source.after.left (AreFirst size events)

-- nothing is left, where the source tells what is
abbrev pub IsOver : Option (List Happening) → Type 0
IsOver None = Unit {0}
IsOver (Some events) = events ≡ []

-- a read failed
abbrev pub SourceFaulted : Change SourceTold → Type 0
SourceFaulted source = Rose source.before.faults source.after.faults
