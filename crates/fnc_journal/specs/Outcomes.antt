-- The exit status of each outcome.
use Rattle.std.specs.Prelude.{ℕ}
use Rattle.fnc_journal.specs.declared.outcome.Outcome.{Outcome}

-- the status with which the program ends
abbrev pub status_of : Outcome → ℕ
status_of Outcome.Finished = 0
status_of (Outcome.Unlawful index rule) = 1
status_of Outcome.Usage = 2
status_of Outcome.ReadFault = 3
status_of Outcome.WriteFault = 4
status_of Outcome.NoMemory = 5
status_of Outcome.Budget = 6
status_of (Outcome.BadEntry line) = 7
status_of (Outcome.JournalFull full) = 8
