use Rattle.fnc_journal_text.specs.Spelled.{line_of}
use Rattle.fnc_journal_reader.proofs.Answering.{same-entry}
use Rattle.fnc_journal_reader.proofs.EntriesBack.{entry-back}
use Rattle.fnc_journal_reader.proofs.read.spelled_once.Goals as goal

pub returns : goal.returns
returns c = λ d e typed within also_typed also_within same. same-entry (line_of e) d typed within same e (entry-back e also_typed also_within)
