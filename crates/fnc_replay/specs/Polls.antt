-- What one poll does to the desk, by what was taken.
use Rattle.std.specs.Prelude.{◌≡◌, [], ◌∷◌, true}
use Rattle.fnc_journal.specs.declared.limits.TheConstants.{LONGEST_LINE}
use Rattle.fnc_outside.specs.Events.{Happening}
use Rattle.fnc_core.specs.Cored.{Cored}
use Rattle.fnc_replay.specs.Timed.{LacksRoom}
use Rattle.fnc_desk.specs.Lines.{is_line}
use Rattle.fnc_replay.specs.declared.taken.Taken.{Taken}
use Rattle.fnc_told.specs.Read.{Gave, IsOver, SourceFaulted}
use Rattle.fnc_replay.specs.Rests.{ServesLine}
use Rattle.fnc_told.specs.SourceAndSink.{Change, SourceTold}

-- what a line does: it is served, or finds no room
abbrev pub Serves : Taken → Happening → Cored → Cored → Type 0
Serves Taken.Served line old new = ServesLine line old new
Serves (Taken.Full full) line old new = LacksRoom line old new full
Serves _ line old new = ⊥

-- the source gave a line, and that does this
pub record GaveLine (source : Change SourceTold) (Does : Happening → Type 0) : Type 0 where
  pub line : Happening
  pub is_line_given : is_line line ≡ true
  pub gave : Gave LONGEST_LINE source (line ∷ [])
  pub does : Does line

-- the source gave nothing
abbrev pub GaveNothing : Change SourceTold → Type 0
GaveNothing source = Gave LONGEST_LINE source []

-- what it means for the desk
abbrev pub Takes : Taken → Change SourceTold → Cored → Cored → Type 0
Takes Taken.Nothing source old new =
    (new ≡ old) × Gave LONGEST_LINE source (Happening.Again ∷ [])
Takes Taken.Served source old new = GaveLine source (λ line. ServesLine line old new)
Takes (Taken.Full full) source old new = GaveLine source (λ line. LacksRoom line old new full)
Takes Taken.Over source old new = (new ≡ old) × GaveNothing source × IsOver source.after.left
Takes Taken.Failed source old new = (new ≡ old) × GaveNothing source × SourceFaulted source
