use Rattle.fnc_words.specs.Arguments.{entries_app, journal_rule}
use Rattle.fnc_words.proofs.Making.{made-ok}
use Rattle.fnc_words.proofs.session.session_command.Goals as goal

pub returns : goal.returns
returns c =
    made-ok (entries_app c.args.name.now) journal_rule c.in_ok-entries_command.field-0 c.journal_argument.result
    c.arg.result c.in_ok-entries_command.ensures c.journal_argument.ensures c.arg.ensures
