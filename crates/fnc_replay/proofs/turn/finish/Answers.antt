-- The end line after the text, or a part of it, which is part of both.
use Rattle.fnc_journal_text.specs.Paper.{text}
use Rattle.fnc_replay.specs.Session.{last_line}
use Rattle.fnc_outside.proofs.Telling.{gains-gains, gains-part, holds-appended}
use Rattle.fnc_replay.proofs.turn.finish.Goals as goal

pub returns-in-Ok-clause-text : goal.returns-in-Ok-clause-text
returns-in-Ok-clause-text g c = λ start held.
    gains-gains start.held _ _ (text c.args.journal.now.history c.args.form) (last_line c.args.form c.args.journal.now.history)
    held.0 c.in-Ok.ensures.ok

pub returns-in-Err-clause-text : goal.returns-in-Err-clause-text
returns-in-Err-clause-text g c = λ start held.
    holds-appended start.held _ _
    (gains-part start.held _ _ _ (last_line c.args.form c.args.journal.now.history) held.0 c.in-Err.ensures.err)
