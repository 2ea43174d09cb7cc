use Rattle.fnc_journal_text.proofs.Lines.{words-cut}
use Rattle.fnc_printing.proofs.Pieces.{on-err-then}
use Rattle.fnc_journal_text.proofs.paper.print_spelling.Goals as goal

pub returns-clause-err : goal.returns-clause-err
returns-clause-err g c =
    let held = g.K.Sink.held in
    on-err-then _ _ _
    (λ part. words-cut c.args.entry.now (held c.args.sink.now) (held c.print_pieces.new.sink) (held c.print_event.new.sink) c.in_ok-print_pieces.ensures.ok part)
    c.print_event.ensures.err
