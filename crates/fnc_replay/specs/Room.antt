-- Room in the journal: each line found it when it came, and what is owed has it at the end.
use Rattle.std.specs.Prelude.{ℕ, ◌≡◌, ◌+◌, ◌≤◌, [], ◌∷◌, true, length}
use Rattle.fnc_journal.specs.History.{History}
use Rattle.fnc_journal.specs.Found.{is_input}
use Rattle.fnc_journal.specs.Owed.{owed}
use Rattle.fnc_replay.specs.Timed.{needed}

-- each input found room for what it needs beside the entries that stood and those that were owed
abbrev pub FoundRoom : ℕ → History → Type 0
FoundRoom limit [] = Unit {0}
FoundRoom limit (e ∷ before) =
    (is_input e.event ≡ true → length before + owed before + needed e.event ≤ limit) × FoundRoom limit before

-- so no input stands that found none, and no entry that is owed lacks its room
pub record KeepsRoom (limit : ℕ) (h : History) : Type 0 where
  pub found : FoundRoom limit h
  pub left : length h + owed h ≤ limit
