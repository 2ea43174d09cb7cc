-- Where the operations of a lawful journal stand while time passes.
use Rattle.fnc_stands.proofs.Journals.{only-one, each-still}
use Rattle.fnc_stands.proofs.law.each_stands_still.Goals as goal

pub returns-clause-one : goal.returns-clause-one
returns-clause-one c = only-one

pub returns-clause-still : goal.returns-clause-still
returns-clause-still c = each-still
