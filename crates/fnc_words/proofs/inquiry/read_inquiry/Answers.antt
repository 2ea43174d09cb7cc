use Rattle.std.proofs.Common.{ap, rules, map, string_bytes, [], ◌∷◌}
use Rattle.std.specs.Prelude.{option_and_then}
use Rattle.clap.specs.Words.{found_of, rows_of}
use Rattle.fnc_words.specs.Arguments.{entries_rule, inquiry_app, node_rule, taken}
use Rattle.fnc_words.specs.Commands.{inquiry_of}
use Rattle.fnc_words.specs.Making.{HasPassed}
use Rattle.fnc_words.specs.Values.{inquiry_in}
use Rattle.fnc_words.proofs.Making.{inquiry-exact}
use Rattle.fnc_words.proofs.Places.{first-of}
use Rattle.fnc_words.proofs.Refusing.{answered, passed-on, refused-then}
use Rattle.fnc_words.proofs.inquiry.read_inquiry.Goals as goal

pub returns-in_err-matches-clause-reads : goal.returns-in_err-matches-clause-reads
returns-in_err-matches-clause-reads c =
    let name = c.args.name.now in
    let words = map string_bytes c.args.words.now in
    let fault = c.in_err-matches.field-0.0 in
    passed-on c.from_residual-in_err-matches.result fault (inquiry_of name words) (search rules)
    (refused-then inquiry_in (taken (inquiry_app name) words) fault
    (c.in_err-matches.ensures (inquiry_app name) c.in_ok-inquiry_command.ensures (inquiry-exact name)))

pub inquiry_in-requires : goal.inquiry_in-requires
inquiry_in-requires c =
    let name = c.args.name.now in
    let finds = c.in_ok-matches.ensures (inquiry_app name) c.in_ok-inquiry_command.ensures (inquiry-exact name) in
    first-of (HasPassed (rows_of (found_of c.in_ok-matches.matches))) entries_rule (node_rule ∷ []) finds.passed

pub returns-clause-reads : goal.returns-clause-reads
returns-clause-reads c =
    let name = c.args.name.now in
    let finds = c.in_ok-matches.ensures (inquiry_app name) c.in_ok-inquiry_command.ensures (inquiry-exact name) in
    answered c.inquiry_in.result (inquiry_of name (map string_bytes c.args.words.now))
    (inquiry_in (rows_of (found_of c.in_ok-matches.matches))) (ap (option_and_then inquiry_in) finds.taken)
    c.inquiry_in.ensures.reads
