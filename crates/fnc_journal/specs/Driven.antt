-- Journals of a session of lines: each input is followed by its replies and by all starts that it lets be made,
-- and before the next input stand only the replies that its moment made due.
use Rattle.std.specs.Prelude.{
  ℕ,
  List,
  [],
  ◌∷◌,
  Bool,
  true,
  false,
  ◌==◌,
  ◌&&◌,
  if◌then◌else◌,
  nat_lt,
  Option,
  Some,
  None,
  IsTrue,
  is_none,
}
use Rattle.std.specs.List.{list_all}
use Rattle.fnc_journal.specs.declared.entry.Entry.{Entry}
use Rattle.fnc_journal.specs.History.{History}
use Rattle.fnc_journal.specs.Found.{is_input, is_reply}
use Rattle.fnc_journal.specs.Operations.{settled}
use Rattle.fnc_journal.specs.Startable.{first}

-- the moment of the last input
abbrev pub last_input : History → Option ℕ
last_input [] = None
last_input (e ∷ before) = if is_input e.event then Some e.moment else last_input before

-- the journal without the replies of an advance beyond a moment, and the moments of those
abbrev pub before_advance : ℕ → History → History
before_advance m [] = []
before_advance m (e ∷ before) = if is_reply e.event && nat_lt m e.moment then before_advance m before else e ∷ before

-- the moments of those replies
abbrev pub advances : ℕ → History → List ℕ
advances m [] = []
advances m (e ∷ before) = if is_reply e.event && nat_lt m e.moment then e.moment ∷ advances m before else []

-- what came since the last input came at its moment
abbrev pub is_at_once : ℕ → History → Bool
is_at_once m [] = true
is_at_once m (e ∷ before) = if is_input e.event then true else (e.moment == m) && is_at_once m before

-- nothing is due and nothing may start
abbrev pub is_at_rest : ℕ → History → Bool
is_at_rest m h = is_at_once m h && settled h m && is_none (first h m)

-- whether all are this moment
abbrev pub are_all_at : ℕ → List ℕ → Bool
are_all_at m ms = list_all (λ n. n == m) ms

-- whether all are one moment
abbrev pub are_one : List ℕ → Bool
are_one [] = true
are_one (m ∷ ms) = are_all_at m ms

-- the replies of the advance have the moment of the next input, or where none comes are of one moment
abbrev pub is_advance : Option ℕ → List ℕ → Bool
is_advance None ms = are_one ms
is_advance (Some next) ms = are_all_at next ms

-- whether all that an input called for was done before what came next
abbrev pub rests_after : Option ℕ → History → Option ℕ → Bool
rests_after next h None = false
rests_after next h (Some m) = is_at_rest m (before_advance m h) && is_advance next (advances m h)

-- whether all that the last input called for was done before the next one came
abbrev pub rests : Option ℕ → History → Bool
rests next [] = true
rests next (e ∷ before) = rests_after next (e ∷ before) (last_input (e ∷ before))

-- each input finds the input before it served in full
abbrev pub rests_before : Entry → History → Bool
rests_before e before = if is_input e.event then rests (Some e.moment) before else true

-- each input finds the one before it done
abbrev pub DrivenInputs : History → Type 0
DrivenInputs [] = Unit {0}
DrivenInputs (e ∷ before) = IsTrue (rests_before e before) × DrivenInputs before

-- a journal of a session: every input was served in full
abbrev pub Driven : History → Type 0
Driven h = IsTrue (rests None h) × DrivenInputs h
