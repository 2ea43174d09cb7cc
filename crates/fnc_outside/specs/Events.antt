-- What comes from a source, poll by poll.
use Rattle.std.specs.Prelude.{ℕ, List}

-- A line, without its line feed; a line that was longer than the buffer, with the size that the buffer had;
-- a moment at which no line was there yet. Of what is still to come each line is a Line, however long.
pub data Happening : Type 0 where
  Line : (bytes : List ℕ) → Happening
  TooLong : (size : ℕ) → Happening
  Again : Happening
