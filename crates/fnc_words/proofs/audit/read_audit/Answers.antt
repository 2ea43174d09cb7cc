use Rattle.std.proofs.Common.{◌∙◌, ap, rules, map, string_bytes, Some, ℕ, [], sym}
use Rattle.std.specs.Prelude.{option_map}
use Rattle.clap.specs.Words.{found_of, rows_of}
use Rattle.fnc_words.specs.declared.audit.Audit.{Audit}
use Rattle.fnc_words.specs.Arguments.{entries_app, entries_rule, taken}
use Rattle.fnc_words.specs.Commands.{audit_of}
use Rattle.fnc_words.specs.Making.{HasPassed}
use Rattle.fnc_words.specs.Values.{audit_in}
use Rattle.fnc_words.proofs.Making.{entries-exact}
use Rattle.fnc_words.proofs.Places.{first-of}
use Rattle.fnc_words.proofs.Refusing.{passed-on, refused-map}
use Rattle.fnc_words.proofs.audit.read_audit.Goals as goal

pub returns-in_err-matches-clause-reads : goal.returns-in_err-matches-clause-reads
returns-in_err-matches-clause-reads c =
    let name = c.args.name.now in
    let words = map string_bytes c.args.words.now in
    let fault = c.in_err-matches.field-0.0 in
    passed-on c.from_residual-in_err-matches.result fault (audit_of name words) (search rules)
    (refused-map audit_in (taken (entries_app name) words) fault
    (c.in_err-matches.ensures (entries_app name) c.in_ok-entries_command.ensures (entries-exact name)))

pub entries_of-requires : goal.entries_of-requires
entries_of-requires c =
    let name = c.args.name.now in
    let finds = c.in_ok-matches.ensures (entries_app name) c.in_ok-entries_command.ensures (entries-exact name) in
    first-of (HasPassed (rows_of (found_of c.in_ok-matches.matches))) entries_rule [] finds.passed

pub returns-clause-reads : goal.returns-clause-reads
returns-clause-reads c =
    let name = c.args.name.now in
    let finds = c.in_ok-matches.ensures (entries_app name) c.in_ok-entries_command.ensures (entries-exact name) in
    ap (option_map audit_in) finds.taken ∙ ap (λ (n : ℕ). Some (audit n)) (sym c.entries_of.ensures.reads)
  where
    audit : ℕ → Audit
    audit n = record { entries = n }
