use Rattle.fnc_journal_reader.proofs.Cutting.{after-nothing, after-slice}
use Rattle.fnc_journal_reader.proofs.cuts.after.Goals as goal

pub returns-then-length-text : goal.returns-then-length-text
returns-then-length-text c =
    after-nothing c.args.separator c.front_length-length.result c.args.text.now c.front_length-length.ensures.count
    c.if-length-text.true

pub returns-else-length-text : goal.returns-else-length-text
returns-else-length-text c =
    after-slice c.args.separator c.front_length-length.result c.args.text.now c.front_length-length.ensures.count
