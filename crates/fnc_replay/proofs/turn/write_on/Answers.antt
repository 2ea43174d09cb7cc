-- All of the text, or a part of it, which is part of it with the end line.
use Rattle.std.proofs.Common.{arith}
use Rattle.fnc_replay.specs.Session.{last_line}
use Rattle.fnc_outside.proofs.Telling.{holds-appended, holds-more}
use Rattle.fnc_replay.proofs.turn.write_on.Goals as goal

pub returns-in-Ok-clause-text : goal.returns-in-Ok-clause-text
returns-in-Ok-clause-text g c = λ start held.
    (c.in-Ok.ensures.ok start.held held.0, omega (arith, held.1, c.print_more.ensures.count))

pub returns-in-Err-clause-text : goal.returns-in-Err-clause-text
returns-in-Err-clause-text g c = λ start held.
    holds-more start.held _ _ (last_line c.args.form c.args.journal.now.history)
    (holds-appended start.held _ _ (c.in-Err.ensures.err start.held held.0))
