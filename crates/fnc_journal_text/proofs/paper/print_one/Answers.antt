use Rattle.std.proofs.Common.{codes}
use Rattle.fnc_outside.proofs.Telling.{gains-part}
use Rattle.fnc_journal_text.specs.Spelled.{line_of}
use Rattle.fnc_printing.proofs.Pieces.{on-err-then}
use Rattle.fnc_journal_text.proofs.paper.print_one.Goals as goal

pub returns-clause-err : goal.returns-clause-err
returns-clause-err g c =
    let held = g.K.Sink.held in
    on-err-then _ _ _
    (λ part.
    gains-part (held c.args.sink.now) (held c.print_spelling.new.sink) (held c.print_pieces.new.sink) (line_of c.args.entry.now) (codes "\n") c.in_ok-print_spelling.ensures.ok part)
    c.print_pieces.ensures.err
