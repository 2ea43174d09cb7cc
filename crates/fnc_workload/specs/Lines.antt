-- The lines of a workload, as its journal tells them: each input is that of the line that was next when it came.
use Rattle.std.specs.Prelude.{ℕ, zero, suc, List, [], ◌∷◌, ◌+◌, ◌≡◌, if◌then◌else◌, Option, Some, None}
use Rattle.fnc_journal.specs.declared.outcome.Full.{Full}
use Rattle.fnc_journal.specs.History.{History}
use Rattle.fnc_journal.specs.Found.{is_input, starts}
use Rattle.fnc_journal.specs.Startable.{is_alive}
use Rattle.fnc_outside.specs.Events.{Happening}
use Rattle.fnc_core.specs.Cored.{Cored}
use Rattle.fnc_desk.specs.Lines.{AreLines, FindsNoRoom}
use Rattle.fnc_replay.specs.Timed.{timed}
use Rattle.fnc_made.specs.Made.{made_text}
use Rattle.fnc_workload.specs.Steps.{next}
use Rattle.fnc_workload.specs.declared.making.Making.{Making}
use Rattle.fnc_workload.specs.declared.making.Next.{Next}

-- the number that the draws of a workload begin with, and how many steps it has
pub record Course : Type 0 where
  pub number : ℕ
  pub count : ℕ

-- the least run that is alive, among so many from a number on
abbrev pub least_from : ℕ → ℕ → History → Option ℕ
least_from zero run h = None
least_from (suc n) run h = if is_alive run h then Some run else least_from n (run + 1) h

-- the least run that is alive, if one is
abbrev pub least_alive : History → Option ℕ
least_alive h = least_from (starts h) 0 h

-- how a workload stands at first
abbrev pub begun : Course → Making
begun c = record { state = c.number; moment = 0; made = 0 }

-- how it stands after a line that was made, if one was
abbrev pub then_stands : Making → Option Next → Making
then_stands s None = s
then_stands s (Some n) = n.making

-- how it stands after the lines that gave the inputs of a journal
abbrev pub standing : Course → History → Making
standing c [] = begun c
standing c (e ∷ before) =
    if is_input e.event then then_stands (standing c before) (next (standing c before) c.count (least_alive before))
    else standing c before

-- the line that comes next, with the runs that are alive after a journal
abbrev pub next_line : Course → History → Option Next
next_line c h = next (standing c h) c.count (least_alive h)

-- a line that is made, as a source would give it
abbrev pub given_line : Next → Happening
given_line n = Happening.Line (made_text n.line)

-- a line that was made is the newest
abbrev pub and_then : Option Next → List Happening → List Happening
and_then None lines = lines
and_then (Some n) lines = given_line n ∷ lines

-- the lines that gave the inputs of a journal, the newest first
abbrev pub made_lines : Course → History → List Happening
made_lines c [] = []
made_lines c (e ∷ before) =
    if is_input e.event then and_then (next_line c before) (made_lines c before) else made_lines c before

-- The inputs of a journal are those of the lines that were made of it, one each.
abbrev pub AreMade : Course → Cored → Type 0
AreMade c v = AreLines (timed v.limit) v.history (made_lines c v.history)

-- all lines were made
abbrev pub IsWhole : Course → Cored → Type 0
IsWhole c v = AreMade c v × (next_line c v.history ≡ None)

-- all lines but the last one made gave their inputs, and that one finds no room
pub record IsCut (c : Course) (v : Cored) (full : Full) : Type 0 where
  pub made : AreMade c v
  pub last : Next
  pub next_is : next_line c v.history ≡ Some last
  pub no_room : FindsNoRoom (timed v.limit) (given_line last) (made_lines c v.history) v full
