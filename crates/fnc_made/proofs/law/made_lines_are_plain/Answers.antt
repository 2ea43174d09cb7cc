-- Line by line.
use Rattle.fnc_made.proofs.Saying.{made-plain}
use Rattle.fnc_made.proofs.law.made_lines_are_plain.Goals as goal

pub returns : goal.returns
returns c = made-plain
