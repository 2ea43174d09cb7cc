use Rattle.std.proofs.Common.{ap, rules, map, string_bytes, [], ◌∷◌}
use Rattle.std.specs.Prelude.{option_and_then}
use Rattle.clap.specs.Words.{found_of, rows_of}
use Rattle.fnc_words.specs.Arguments.{count_rule, course_app, number_rule, taken}
use Rattle.fnc_words.specs.Commands.{course_of}
use Rattle.fnc_words.specs.Making.{HasPassed}
use Rattle.fnc_words.specs.Values.{course_in}
use Rattle.fnc_words.proofs.Making.{course-exact}
use Rattle.fnc_words.proofs.Places.{first-of, second-of}
use Rattle.fnc_words.proofs.Refusing.{answered, passed-on, refused-then}
use Rattle.fnc_words.proofs.course.read_course.Goals as goal

pub returns-in_err-matches-clause-reads : goal.returns-in_err-matches-clause-reads
returns-in_err-matches-clause-reads c =
    let name = c.args.name.now in
    let words = map string_bytes c.args.words.now in
    let fault = c.in_err-matches.field-0.0 in
    passed-on c.from_residual-in_err-matches.result fault (course_of name words) (search rules)
    (refused-then course_in (taken (course_app name) words) fault
    (c.in_err-matches.ensures (course_app name) c.in_ok-course_command.ensures (course-exact name)))

pub course_in-requires-clause-number : goal.course_in-requires-clause-number
course_in-requires-clause-number c =
    let name = c.args.name.now in
    let finds = c.in_ok-matches.ensures (course_app name) c.in_ok-course_command.ensures (course-exact name) in
    first-of (HasPassed (rows_of (found_of c.in_ok-matches.matches))) number_rule (count_rule ∷ []) finds.passed

pub course_in-requires-clause-count : goal.course_in-requires-clause-count
course_in-requires-clause-count c =
    let name = c.args.name.now in
    let finds = c.in_ok-matches.ensures (course_app name) c.in_ok-course_command.ensures (course-exact name) in
    second-of (HasPassed (rows_of (found_of c.in_ok-matches.matches))) number_rule count_rule [] finds.passed

pub returns-clause-reads : goal.returns-clause-reads
returns-clause-reads c =
    let name = c.args.name.now in
    let finds = c.in_ok-matches.ensures (course_app name) c.in_ok-course_command.ensures (course-exact name) in
    answered c.course_in.result (course_of name (map string_bytes c.args.words.now))
    (course_in (rows_of (found_of c.in_ok-matches.matches))) (ap (option_and_then course_in) finds.taken)
    c.course_in.ensures.reads
