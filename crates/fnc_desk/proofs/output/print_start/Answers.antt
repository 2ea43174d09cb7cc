use Rattle.std.proofs.Common.{subst}
use Rattle.std.specs.Prelude.{OnErr, OnOk}
use Rattle.fnc_outside.specs.Told.{Gains}
use Rattle.fnc_outside.specs.Writes.{AppendsPart}
use Rattle.fnc_desk.proofs.StartLine.{start-text}
use Rattle.fnc_desk.proofs.output.print_start.Goals as goal

pub returns-clause-ok : goal.returns-clause-ok
returns-clause-ok g c =
    subst (λ t. OnOk c.print_pieces.result
    (Gains (g.K.Sink.held c.args.sink.now) (g.K.Sink.held c.print_pieces.new.sink) t))
    (start-text c.from.result _ c.from-2.result _ c.args.start.now.kind c.name_of.result.now _ c.word.result.now
    c.target_of.result.now _ c.from.ensures c.name_of.ensures c.word.ensures c.target_of.ensures c.from-2.ensures)
    c.print_pieces.ensures.ok

pub returns-clause-err : goal.returns-clause-err
returns-clause-err g c =
    subst (λ t. OnErr c.print_pieces.result
    (AppendsPart (g.K.Sink.held c.args.sink.now) (g.K.Sink.held c.print_pieces.new.sink) t))
    (start-text c.from.result _ c.from-2.result _ c.args.start.now.kind c.name_of.result.now _ c.word.result.now
    c.target_of.result.now _ c.from.ensures c.name_of.ensures c.word.ensures c.target_of.ensures c.from-2.ensures)
    c.print_pieces.ensures.err
