-- The inputs of a journal are what the lines of a session give, in order, one each; in mode Live its exits are told by no
-- line.
use Rattle.std.specs.Prelude.{ℕ, ◌≡◌, List, [], ◌∷◌, Bool, true, false, length, filter, reverse, unwrap_or, slice_index_or}
use Rattle.fnc_journal.specs.declared.entry.Entry.{Entry}
use Rattle.fnc_journal.specs.declared.outcome.Full.{Full}
use Rattle.fnc_journal.specs.History.{History}
use Rattle.fnc_journal.specs.Driven.{last_input}
use Rattle.fnc_outside.specs.Events.{Happening}
use Rattle.fnc_command.specs.declared.command.Mode.{Mode}
use Rattle.fnc_core.specs.Cored.{Cored, IsFull}
use Rattle.fnc_desk.specs.declared.entering.Given.{Given}
use Rattle.fnc_desk.specs.Inputs.{Gives, is_exit, is_of_line, line_number}

-- whether a line came, be it too long
abbrev pub is_line : Happening → Bool
is_line (Happening.Line bytes) = true
is_line (Happening.TooLong size) = true
is_line Happening.Again = false

-- the lines among the events that a source gave, the newest first
abbrev pub newest_lines : List Happening → List Happening
newest_lines events = reverse (filter is_line events)

-- the last moment: that of the last input, or 0 before the first
abbrev pub last_come : History → ℕ
last_come h = unwrap_or (last_input h) 0

-- how lines are read: their mode, the coins that were drawn for them in mode Live, in order, and the journal's limit
pub record Reading : Type 0 where
  pub mode : Mode
  pub coins : List ℕ
  pub limit : ℕ

-- what came with the line that so many came before, in mode Live: the moment of its entry, and its coin
abbrev pub given_at : Reading → ℕ → Entry → Given
given_at r n e = record { moment = e.moment; coin = slice_index_or r.coins n 0 }

-- the line that comes after so many lines gives an entry
abbrev pub GivesNext : Reading → ℕ → Happening → History → Entry → Type 0
GivesNext r n line h e = Gives r.mode (given_at r n e) line h (last_come h) r.limit (line_number n) e

-- An input is what the newest line gives, with what lies before it, and the rest holds of the lines before; an entry
-- that is no input has no line.
abbrev pub IsOfLine : Bool → Reading → List Happening → Entry → History → (List Happening → Type 0) → Type 0
IsOfLine false r lines e before Rest = Rest lines
IsOfLine true r [] e before Rest = ⊥
IsOfLine true r (line ∷ lines) e before Rest = GivesNext r (length lines) line before e × Rest lines

-- the inputs of a journal are those of these lines, the newest first in both
abbrev pub AreLines : Reading → History → List Happening → Type 0
AreLines r [] lines = lines ≡ []
AreLines r (e ∷ before) lines = IsOfLine (is_of_line r.mode e.event) r lines e before (AreLines r before)

-- the line that comes after these lines gives an input, which is no exit, that finds no room for itself
pub record FindsNoRoom (r : Reading) (line : Happening) (lines : List Happening) (v : Cored) (full : Full) : Type 0 where
  pub entry : Entry
  pub gives : GivesNext r (length lines) line v.history entry
  pub no_exit : is_exit entry.event ≡ false
  pub is_full : IsFull v 1 full

-- all but the newest line gave an input, and that one finds no room
abbrev pub NewestFindsNoRoom : Reading → List Happening → Cored → Full → Type 0
NewestFindsNoRoom r [] v full = ⊥
NewestFindsNoRoom r (line ∷ lines) v full = AreLines r v.history lines × FindsNoRoom r line lines v full
