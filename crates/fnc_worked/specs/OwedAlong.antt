-- How many entries are owed along a session: to each open operation, a reply for each of its requests and two
-- entries for each try that it has left; and an exit for each run that is alive.
use Rattle.std.specs.Prelude.{ℕ, List, [], ◌∷◌}
use Rattle.fnc_journal.specs.declared.entry.Entry.{Entry}
use Rattle.fnc_journal.specs.History.{History}
use Rattle.fnc_journal.specs.Owed.{owed}
use Rattle.fnc_worked.specs.Sessions.{Session}

-- what is owed after these entries, and after each further one
abbrev pub owed_from : History → List Entry → List ℕ
owed_from before [] = owed before ∷ []
owed_from before (e ∷ later) = owed before ∷ owed_from (e ∷ before) later

-- what is owed at first and after each entry
abbrev pub owed_along : Session → List ℕ
owed_along s = owed_from [] s.entries
