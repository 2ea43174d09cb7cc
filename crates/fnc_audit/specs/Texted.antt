-- A text each line of which was what it should be so far, as it is kept.
use Rattle.std.specs.Prelude.{ℕ}
use Rattle.fnc_journal.specs.History.{History}
use Rattle.fnc_audit.specs.declared.text.Awaited.{Awaited}
use Rattle.fnc_audit.specs.TextRead.{TextRead}

-- which line comes next, the entries, the newest first, and how many there may be
pub record Texted : Type 0 where
  pub awaited : Awaited
  pub history : History
  pub limit : ℕ

-- what its lines are read as
abbrev pub read_by : Awaited → History → TextRead
read_by Awaited.Head h = TextRead.Nothing
read_by Awaited.Entry h = TextRead.Entries h

abbrev pub read : Texted → TextRead
read t = read_by t.awaited t.history
