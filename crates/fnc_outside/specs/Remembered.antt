-- What a source in memory is seen as.
use Rattle.std.specs.Prelude.{ℕ, ◌==◌, List, map, take, drop, Bool}
use Rattle.std.specs.List.{list_any}
use Rattle.fnc_outside.specs.Events.{Happening}
use Rattle.fnc_outside.specs.Lines.{lines_of}
use Rattle.fnc_outside.specs.declared.memory_source.Taken.{Taken}

-- the events given and left, oldest first; the number of the next poll, and the numbers of those that fail; the count
-- of faults
pub record Remembered : Type 0 where
  pub given : List Happening
  pub left : List Happening
  pub polls : ℕ
  pub failing : List ℕ
  pub faults : ℕ

-- what a text has to give
abbrev pub events_of : List ℕ → List Happening
events_of bytes = map Happening.Line (lines_of bytes)

-- the event of a line of the text that was taken
abbrev pub happening_of : List ℕ → Taken → Happening
happening_of bytes (Taken.Line start length) = Happening.Line (take length (drop start bytes))
happening_of bytes (Taken.TooLong size) = Happening.TooLong size

-- the next poll is one of those that fail
abbrev pub is_failing : Remembered → Bool
is_failing source = list_any (λ number. number == source.polls) source.failing
