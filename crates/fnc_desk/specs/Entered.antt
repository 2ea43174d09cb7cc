-- What a line does to the core.
use Rattle.std.specs.Prelude.{ℕ, ◌≡◌, ◌≤◌, ◌++◌, false}
use Rattle.fnc_journal.specs.declared.entry.Entry.{Entry}
use Rattle.fnc_journal.specs.declared.outcome.Full.{Full}
use Rattle.fnc_journal.specs.History.{History}
use Rattle.fnc_outside.specs.Events.{Happening}
use Rattle.fnc_command.specs.declared.command.Mode.{Mode}
use Rattle.fnc_core.specs.Cored.{Cored, Advances, Enters, IsFull}
use Rattle.fnc_desk.specs.declared.entering.Given.{Given}
use Rattle.fnc_desk.specs.Inputs.{Gives, inputs, is_exit, line_number}

-- One input entry, which is one of these after the journal that it finds, enters at its moment, with the room that it
-- needs: an exit may need none, any other entry needs room for itself.
pub record Takes (IsEntry : History → Entry → Type 0) (old new : Cored) : Type 0 where
  pub entry : Entry
  pub need : ℕ
  pub later : old.last ≤ entry.moment
  pub enters : Enters old new entry.moment entry.event need
  pub needs : is_exit entry.event ≡ false → 1 ≤ need
  pub is : IsEntry (enters.advances.advance ++ old.history) entry

-- the input entry, which is no exit, finds no room for itself: only the moment advances, and there is no entry
pub record Lacks (IsEntry : History → Entry → Type 0) (old new : Cored) (full : Full) : Type 0 where
  pub entry : Entry
  pub later : old.last ≤ entry.moment
  pub advances : Advances old new entry.moment
  pub no_exit : is_exit entry.event ≡ false
  pub is : IsEntry (advances.advance ++ old.history) entry
  pub is_full : IsFull new 1 full

-- the number of the line that comes next
abbrev pub next_line : Mode → Cored → ℕ
next_line mode v = line_number (inputs mode v.history)

-- a line gives one input entry
abbrev pub TakesLine : Mode → Given → Happening → Cored → Cored → Type 0
TakesLine mode given x old new =
    Takes (λ h. Gives mode given x h old.last old.limit (next_line mode old)) old new

-- a line without room gives none
abbrev pub LacksRoom : Mode → Given → Happening → Cored → Cored → Full → Type 0
LacksRoom mode given x old new full =
    Lacks (λ h. Gives mode given x h old.last old.limit (next_line mode old)) old new full
