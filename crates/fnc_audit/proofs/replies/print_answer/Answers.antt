use Rattle.std.proofs.Common.{subst}
use Rattle.std.specs.Prelude.{OnErr, OnOk}
use Rattle.fnc_outside.specs.Told.{Gains}
use Rattle.fnc_outside.specs.Writes.{AppendsPart}
use Rattle.fnc_printing.specs.Printed.{piece_text}
use Rattle.fnc_audit.proofs.AnswerLine.{answer-pieces}
use Rattle.fnc_audit.proofs.replies.print_answer.Goals as goal

pub returns-clause-ok : goal.returns-clause-ok
returns-clause-ok g c =
    subst (λ t. OnOk c.print_pieces.result
    (Gains (g.K.Sink.held c.args.sink.now) (g.K.Sink.held c.print_pieces.new.sink) t))
    (answer-pieces c.args.moment c.args.asked.now c.args.answer c.as_str.result.now c.word.result.now
    c.answer_word.result.now (piece_text c.answer_piece.result) c.as_str.ensures c.word.ensures c.answer_word.ensures
    c.answer_piece.ensures)
    c.print_pieces.ensures.ok

pub returns-clause-err : goal.returns-clause-err
returns-clause-err g c =
    subst (λ t. OnErr c.print_pieces.result
    (AppendsPart (g.K.Sink.held c.args.sink.now) (g.K.Sink.held c.print_pieces.new.sink) t))
    (answer-pieces c.args.moment c.args.asked.now c.args.answer c.as_str.result.now c.word.result.now
    c.answer_word.result.now (piece_text c.answer_piece.result) c.as_str.ensures c.word.ensures c.answer_word.ensures
    c.answer_piece.ensures)
    c.print_pieces.ensures.err
