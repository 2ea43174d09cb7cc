use Rattle.fnc_journal_reader.proofs.Cutting.{word-front}
use Rattle.fnc_journal_reader.proofs.cuts.word.Goals as goal

pub returns : goal.returns
returns c = word-front c.rest.result.now c.args.line.now c.front.result.now c.args.index c.front.ensures c.rest.ensures
