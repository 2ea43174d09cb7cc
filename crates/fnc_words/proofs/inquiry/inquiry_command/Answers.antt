use Rattle.fnc_words.specs.Arguments.{entries_app, node_rule}
use Rattle.fnc_words.proofs.Making.{made-ok}
use Rattle.fnc_words.proofs.inquiry.inquiry_command.Goals as goal

pub returns : goal.returns
returns c =
    made-ok (entries_app c.args.name.now) node_rule c.in_ok-entries_command.field-0 c.node_argument.result c.arg.result
    c.in_ok-entries_command.ensures c.node_argument.ensures c.arg.ensures
