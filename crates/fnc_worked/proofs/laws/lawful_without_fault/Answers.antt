use Rattle.fnc_journal.proofs.Faults.{lawful-no_fault, no_fault-lawful}
use Rattle.fnc_worked.proofs.laws.lawful_without_fault.Goals as goal

pub returns : goal.returns
returns c = record { lawful = lawful-no_fault; no_fault = no_fault-lawful }
