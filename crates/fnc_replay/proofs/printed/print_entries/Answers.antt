-- One line more, or a part of it where a write failed.
use Rattle.std.proofs.Common.{◌<◌, ◌+◌, sym, subst, arith, length}
use Rattle.fnc_outside.specs.Told.{Gains}
use Rattle.fnc_outside.specs.Writes.{AppendsPart}
use Rattle.fnc_outside.proofs.Telling.{gains-gains, gains-part}
use Rattle.fnc_journal.specs.History.{History}
use Rattle.fnc_journal.proofs.Prefixes.{prefix-all}
use Rattle.fnc_journal_text.specs.declared.form.Form.{Form}
use Rattle.fnc_journal_text.specs.Paper.{text}
use Rattle.fnc_printing.proofs.Pieces.{on-err}
use Rattle.fnc_replay.proofs.Papers.{paper-front, paper-more}
use Rattle.fnc_replay.proofs.printed.print_entries.Goals as goal

pub returns-in_err-print_entry-clause-err : goal.returns-in_err-print_entry-clause-err
returns-in_err-print_entry-clause-err g c =
    let h = c.args.journal.now.history in
    let less : c.loop-index.index < length h = omega (arith, c.loop-index-test.true, c.len-index-end.ensures) in
    λ start before.
    on-err _ _
    (paper-front start _ h (c.loop-index.index + 1)
    (subst (AppendsPart start (g.K.Sink.held c.print_entry.new.sink)) (sym (paper-more h c.loop-index.index less))
    (gains-part _ _ _ _ _ (c.loop-index.invariant.printed start before) c.in_err-print_entry.ensures.err)))

pub loop-index-preserved : goal.loop-index-preserved
loop-index-preserved g c =
    let h = c.args.journal.now.history in
    let less : c.loop-index.index < length h = omega (arith, c.loop-index-test.true, c.len-index-end.ensures) in
    record {
      printed = λ start before.
          subst (Gains start (g.K.Sink.held c.print_entry.new.sink)) (sym (paper-more h c.loop-index.index less))
          (gains-gains _ _ _ _ _ (c.loop-index.invariant.printed start before) c.in_ok-print_entry.ensures.ok);
      count = omega (arith, c.loop-index.invariant.count, c.in_ok-print_entry.ensures.count);
    }

pub returns-clause-ok : goal.returns-clause-ok
returns-clause-ok g c =
    let h = c.args.journal.now.history in
    λ start before.
    subst (λ (p : History). Gains start (g.K.Sink.held c.loop-index.sink) (text p Form.Journal))
    (prefix-all h c.loop-index.index (omega (arith, c.loop-index-test.false, c.len-index-end.ensures)))
    (c.loop-index.invariant.printed start before)
