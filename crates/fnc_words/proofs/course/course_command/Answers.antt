use Rattle.clap.specs.Words.{with_rule}
use Rattle.fnc_words.specs.Arguments.{count_rule, number_rule, plain_app}
use Rattle.fnc_words.proofs.Making.{made-ok, made-with}
use Rattle.fnc_words.proofs.course.course_command.Goals as goal

pub returns : goal.returns
returns c =
    let plain = plain_app c.args.name.now in
    made-ok (with_rule plain number_rule) count_rule c.in_ok-arg.field-0 c.count_argument.result c.arg-2.result
    (made-with plain number_rule c.plain_command.result c.in_ok-arg.field-0 c.number_argument.result
    c.plain_command.ensures c.in_ok-arg.ensures c.number_argument.ensures) c.count_argument.ensures c.arg-2.ensures
