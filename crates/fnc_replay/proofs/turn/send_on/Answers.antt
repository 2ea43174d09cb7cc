-- All of the text is held, or, where the flush fails, a part of it, which is part of it with the end line.
use Rattle.std.proofs.Common.{arith}
use Rattle.fnc_journal_text.specs.Paper.{text}
use Rattle.fnc_replay.specs.Session.{last_line}
use Rattle.fnc_outside.proofs.Telling.{gains-holds, gains-keeps, holds-more}
use Rattle.fnc_replay.proofs.turn.send_on.Goals as goal

pub returns-in-Ok-clause-text : goal.returns-in-Ok-clause-text
returns-in-Ok-clause-text g c = λ start form h held. (
  gains-keeps start.held _ _ (text h form) held.0 c.in-Ok.ensures.ok,
  omega (arith, held.1, c.flush.ensures.count.0),
)

pub returns-in-Err-clause-text : goal.returns-in-Err-clause-text
returns-in-Err-clause-text g c = λ start form h held.
    holds-more start.held _ (text h form) (last_line form h)
    (gains-holds start.held _ _ (text h form) held.0 c.in-Err.ensures.err)
