-- What a verdict says of a journal.
use Rattle.std.specs.Prelude.{◌≡◌, Option, Some, None}
use Rattle.fnc_journal.specs.Lawful.{Fault}
use Rattle.fnc_judge.specs.declared.verdict.Verdict.{Verdict}

-- that it is lawful
abbrev pub IsLawful : Verdict → Type 0
IsLawful v = v ≡ Verdict.Lawful

-- the first fault that it tells of, if it does
abbrev pub fault_of : Verdict → Option Fault
fault_of Verdict.Lawful = None
fault_of (Verdict.Unlawful index rule) = Some (record { index = index; rule = rule })
