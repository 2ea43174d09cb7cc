-- The first line, or a part of it, which is a part of the whole text.
use Rattle.std.proofs.Common.{[]}
use Rattle.fnc_journal_text.specs.Paper.{text}
use Rattle.fnc_outside.proofs.Telling.{holds-appended, holds-more}
use Rattle.fnc_replay.specs.Session.{last_line}
use Rattle.fnc_replay.proofs.turn.write_head.Goals as goal

pub returns-in-Ok-clause-text : goal.returns-in-Ok-clause-text
returns-in-Ok-clause-text g c = (c.in-Ok.ensures.ok, c.print_head.ensures.count)

pub returns-in-Err-clause-text : goal.returns-in-Err-clause-text
returns-in-Err-clause-text g c =
    holds-more (g.K.Sink.held c.args.sink.now) (g.K.Sink.held c.print_head.new.sink) (text [] c.args.form)
    (last_line c.args.form [])
    (holds-appended (g.K.Sink.held c.args.sink.now) (g.K.Sink.held c.print_head.new.sink) (text [] c.args.form)
    c.in-Err.ensures.err)
