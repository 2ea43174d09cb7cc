use Rattle.std.proofs.Common.{◌≡◌, true, false, refl, Ok, sym, ap, ◌∙◌}
use Rattle.std.specs.Prelude.{bytes_eq}
use Rattle.fnc_journal.specs.EntryBounds.{is_within}
use Rattle.fnc_journal_text.specs.Spelled.{line_of}
use Rattle.std.proofs.lemmas.Result.{err_from_is_err_and}
use Rattle.fnc_journal_reader.proofs.Answering.{in-entry, in-fault, same-fault, same-entry, not-outside, not-other}
use Rattle.fnc_journal_reader.specs.Cuts.{words}
use Rattle.fnc_journal_reader.proofs.TypedBack.{entry-typed}
use Rattle.fnc_journal_reader.proofs.read.read_entry.Goals as goal

pub returns-in_err-entry-clause-back : goal.returns-in_err-entry-clause-back
returns-in_err-entry-clause-back c =
    λ e typed within spelled.
    let p = err_from_is_err_and c.from_residual.result c.from_residual.ensures.1 in
    rw (p.1, p.2) (same-fault c.args.line.now e typed within spelled c.in_err-entry.field-0.0 c.in_err-entry.ensures)

pub returns-then-not-is_within-clause-back : goal.returns-then-not-is_within-clause-back
returns-then-not-is_within-clause-back c =
    λ e typed within spelled. absurd (not-outside c.args.line.now e typed within spelled c.in_ok-entry.entry c.in_ok-entry.ensures (sym c.if-not-is_within.ensures))

pub returns-then-not-branch-clause-back : goal.returns-then-not-branch-clause-back
returns-then-not-branch-clause-back c =
    λ e typed within spelled. absurd (not-other c.args.line.now e typed within spelled c.in_ok-entry.entry c.in_ok-entry.ensures (sym c.in_ok-is_spelled.ensures.ok ∙ c.if-not-branch.true))

pub returns-clause-back : goal.returns-clause-back
returns-clause-back c =
    λ e typed within spelled. ap Ok (same-entry c.args.line.now e typed within spelled c.in_ok-entry.entry c.in_ok-entry.ensures)

pub returns-clause-typed : goal.returns-clause-typed
returns-clause-typed c = entry-typed (words c.args.line.now) c.in_ok-entry.entry c.in_ok-entry.ensures

pub returns-in_err-entry-clause-reads : goal.returns-in_err-entry-clause-reads
returns-in_err-entry-clause-reads c =
    let p = err_from_is_err_and c.from_residual.result c.from_residual.ensures.1 in
    rw (p.1, p.2) (in-fault c.args.line.now c.in_err-entry.field-0.0 c.in_err-entry.ensures)

pub returns-then-not-is_within-clause-reads : goal.returns-then-not-is_within-clause-reads
returns-then-not-is_within-clause-reads c =
    let outside : is_within c.in_ok-entry.entry ≡ false = sym c.if-not-is_within.ensures in
    in-entry c.args.line.now c.in_ok-entry.entry c.in_ok-entry.ensures false (rw outside refl)

pub returns-then-not-branch-clause-reads : goal.returns-then-not-branch-clause-reads
returns-then-not-branch-clause-reads c =
    let within : is_within c.in_ok-entry.entry ≡ true = sym c.if-not-is_within.ensures in
    let other : bytes_eq (line_of c.in_ok-entry.entry) c.args.line.now ≡ false =
    sym c.in_ok-is_spelled.ensures.ok ∙ c.if-not-branch.true in
    in-entry c.args.line.now c.in_ok-entry.entry c.in_ok-entry.ensures false (rw (within, other) refl)

pub returns-clause-reads : goal.returns-clause-reads
returns-clause-reads c =
    let within : is_within c.in_ok-entry.entry ≡ true = sym c.if-not-is_within.ensures in
    let same : bytes_eq (line_of c.in_ok-entry.entry) c.args.line.now ≡ true =
    sym c.in_ok-is_spelled.ensures.ok ∙ c.if-not-branch.false in
    in-entry c.args.line.now c.in_ok-entry.entry c.in_ok-entry.ensures true (rw (within, same) refl)
