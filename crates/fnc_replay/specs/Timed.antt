-- Lines that say their moments, as a session reads them: nothing comes with them.
use Rattle.std.specs.Prelude.{ℕ, [], if◌then◌else◌}
use Rattle.fnc_journal.specs.declared.event.Event.{Event}
use Rattle.fnc_journal.specs.declared.outcome.Full.{Full}
use Rattle.fnc_outside.specs.Events.{Happening}
use Rattle.fnc_command.specs.declared.command.Mode.{Mode}
use Rattle.fnc_core.specs.Cored.{Cored}
use Rattle.fnc_desk.specs.declared.entering.Given.{Given}
use Rattle.fnc_desk.specs.Entered as Entered
use Rattle.fnc_desk.specs.Inputs as Inputs
use Rattle.fnc_desk.specs.Lines.{Reading}

-- what comes with a line
abbrev pub nothing : Given
nothing = record { moment = 0; coin = 0 }

-- how its lines are read
abbrev pub timed : ℕ → Reading
timed limit = record { mode = Mode.Timed; coins = []; limit = limit }

-- a line gives one input entry
abbrev pub TakesLine : Happening → Cored → Cored → Type 0
TakesLine line old new = Entered.TakesLine Mode.Timed nothing line old new

-- a line without room gives none
abbrev pub LacksRoom : Happening → Cored → Cored → Full → Type 0
LacksRoom line old new full = Entered.LacksRoom Mode.Timed nothing line old new full

-- an input finds room for itself, but an exit, whose entries were owed since its operation began
abbrev pub needed : Event → ℕ
needed event = if Inputs.is_exit event then 0 else 1
