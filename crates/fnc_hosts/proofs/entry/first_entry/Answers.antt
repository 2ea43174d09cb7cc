use Rattle.std.proofs.Common.{sym, ◌∙◌, arith}
use Rattle.fnc_hosts.specs.Entries.{separates}
use Rattle.fnc_hosts.proofs.EntryLemmas.{entries_from-none, cut_first}
use Rattle.fnc_hosts.proofs.Boundaries.{IsCharBoundary-past_separators, IsCharBoundary-at_separator, separators_ascii}
use Rattle.fnc_hosts.proofs.entry.first_entry.Goals as goal

pub returns-then-length-eq0 : goal.returns-then-length-eq0
returns-then-length-eq0 c place =
    let part = c.first_part-skipped in
    let separator = separates c.args.form in
    let text = c.as_bytes.ensures.value in
    let width = rw (part.ensures.skipped, text) at part.ensures.length in
    entries_from-none separator place c.args.text.now (sym width ∙ c.if-length-eq0.true)

pub range-requires-clause-start_boundary : goal.range-requires-clause-start_boundary
range-requires-clause-start_boundary c _ =
    let skipped = rw c.as_bytes.ensures.value at c.first_part-skipped.ensures.skipped in
    IsCharBoundary-past_separators (separates c.args.form) (separators_ascii c.args.form) c.args.text.now c.utf8.text
    c.first_part-skipped.result.0 skipped

pub range-requires-clause-end_boundary : goal.range-requires-clause-end_boundary
range-requires-clause-end_boundary c =
    let part = c.first_part-skipped in
    let width = rw c.as_bytes.ensures.value at part.ensures.length in
    IsCharBoundary-at_separator (separates c.args.form) (separators_ascii c.args.form) c.args.text.now c.utf8.text
    part.result.0 part.result.1 (omega arith) width

pub range_from-requires : goal.range_from-requires
range_from-requires c _ =
    let part = c.first_part-skipped in
    let width = rw c.as_bytes.ensures.value at part.ensures.length in
    IsCharBoundary-at_separator (separates c.args.form) (separators_ascii c.args.form) c.args.text.now c.utf8.text
    part.result.0 part.result.1 (omega arith) width

pub returns : goal.returns
returns c =
    let part = c.first_part-skipped in
    let text = c.as_bytes.ensures.value in
    let skipped = rw text at part.ensures.skipped in
    let width = rw text at part.ensures.length in
    cut_first (separates c.args.form) c.args.text.now c.range.result.now c.range_from.result.now part.result.0
    part.result.1 skipped width (omega arith) (omega arith) c.range.ensures.value c.range_from.ensures.value
