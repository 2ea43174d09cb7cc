use Rattle.fnc_words.specs.Arguments.{entries_rule, plain_app}
use Rattle.fnc_words.proofs.Making.{made-ok}
use Rattle.fnc_words.proofs.argument.entries_command.Goals as goal

pub returns : goal.returns
returns c =
    made-ok (plain_app c.args.name.now) entries_rule c.plain_command.result c.entries_argument.result c.arg.result
    c.plain_command.ensures c.entries_argument.ensures c.arg.ensures
