use Rattle.std.proofs.Common.{◌∙◌, ap, ap₂, rules, map, string_bytes, Some, ℕ, [], ◌∷◌, sym}
use Rattle.std.specs.Prelude.{option_map}
use Rattle.clap.specs.Words.{found_of, rows_of}
use Rattle.fnc_journal_text.specs.declared.form.Form.{Form}
use Rattle.fnc_words.specs.declared.session.Session.{Session}
use Rattle.fnc_words.specs.Arguments.{entries_rule, journal_rule, session_app, taken}
use Rattle.fnc_words.specs.Commands.{session_of}
use Rattle.fnc_words.specs.Making.{HasPassed}
use Rattle.fnc_words.specs.Values.{session_in}
use Rattle.fnc_words.proofs.Making.{session-exact}
use Rattle.fnc_words.proofs.Places.{first-of, second-of}
use Rattle.fnc_words.proofs.Refusing.{passed-on, refused-map}
use Rattle.fnc_words.proofs.session.read_session.Goals as goal

pub returns-in_err-matches-clause-reads : goal.returns-in_err-matches-clause-reads
returns-in_err-matches-clause-reads c =
    let name = c.args.name.now in
    let words = map string_bytes c.args.words.now in
    let fault = c.in_err-matches.field-0.0 in
    passed-on c.from_residual-in_err-matches.result fault (session_of name words) (search rules)
    (refused-map session_in (taken (session_app name) words) fault
    (c.in_err-matches.ensures (session_app name) c.in_ok-session_command.ensures (session-exact name)))

pub entries_of-requires : goal.entries_of-requires
entries_of-requires c =
    let name = c.args.name.now in
    let finds = c.in_ok-matches.ensures (session_app name) c.in_ok-session_command.ensures (session-exact name) in
    first-of (HasPassed (rows_of (found_of c.in_ok-matches.matches))) entries_rule (journal_rule ∷ []) finds.passed

pub form_of-requires : goal.form_of-requires
form_of-requires c =
    let name = c.args.name.now in
    let finds = c.in_ok-matches.ensures (session_app name) c.in_ok-session_command.ensures (session-exact name) in
    second-of (HasPassed (rows_of (found_of c.in_ok-matches.matches))) entries_rule journal_rule [] finds.passed

pub returns-clause-reads : goal.returns-clause-reads
returns-clause-reads c =
    let name = c.args.name.now in
    let finds = c.in_ok-matches.ensures (session_app name) c.in_ok-session_command.ensures (session-exact name) in
    ap (option_map session_in) finds.taken
    ∙ ap₂ (λ (n : ℕ) (form : Form). Some (session n form)) (sym c.entries_of.ensures.reads) (sym c.form_of.ensures)
  where
    session : ℕ → Form → Session
    session n form = record { entries = n; form = form }
