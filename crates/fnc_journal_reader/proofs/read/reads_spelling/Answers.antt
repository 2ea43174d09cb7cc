use Rattle.fnc_journal_reader.proofs.Answering.{in-spelled, in-spelling}
use Rattle.fnc_journal_reader.proofs.read.reads_spelling.Goals as goal

pub returns-clause-read : goal.returns-clause-read
returns-clause-read c = λ e typed within. in-spelling e typed within

pub returns-clause-spelled : goal.returns-clause-spelled
returns-clause-spelled c = λ line e r. in-spelled line e r
