-- What a sink holds of a text that was written to it.
use Rattle.std.specs.Prelude.{ℕ, ◌≡◌, List}
use Rattle.fnc_outside.specs.Faults.{Rose}
use Rattle.fnc_outside.specs.Told.{Gains}
use Rattle.fnc_outside.specs.Writes.{HoldsPart}
use Rattle.fnc_told.specs.SourceAndSink.{Change, SinkTold}

-- the text is held, sent on or not
abbrev pub Holds : Change SinkTold → List ℕ → Type 0
Holds sink text = Gains sink.before.held sink.after.held text

-- all of the text is held and was sent on
abbrev pub SentOn : Change SinkTold → List ℕ → Type 0
SentOn sink text = Holds sink text × (sink.after.unsent ≡ 0)

-- of what was held before and of the text a part from the front is held
abbrev pub HoldsFront : Change SinkTold → List ℕ → Type 0
HoldsFront sink text = HoldsPart sink.before.held sink.after.held text

-- a write or a flush failed
abbrev pub SinkFaulted : Change SinkTold → Type 0
SinkFaulted sink = Rose sink.before.faults sink.after.faults
