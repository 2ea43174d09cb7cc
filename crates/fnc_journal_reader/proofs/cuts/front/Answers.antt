use Rattle.fnc_journal_reader.proofs.Cutting.{front-taken}
use Rattle.fnc_journal_reader.proofs.cuts.front.Goals as goal

pub returns : goal.returns
returns c = rw c.front_length.ensures.count (front-taken c.args.separator c.args.text.now)
