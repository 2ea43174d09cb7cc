use Rattle.std.proofs.Common.{sym, subst}
use Rattle.std.specs.Prelude.{OnErr, OnOk}
use Rattle.fnc_outside.specs.Told.{Gains}
use Rattle.fnc_outside.specs.Writes.{AppendsPart}
use Rattle.fnc_desk.proofs.Lines.{line-whole}
use Rattle.fnc_desk.proofs.output.print_line.Goals as goal

pub returns-clause-ok : goal.returns-clause-ok
returns-clause-ok g c =
    subst (λ text. OnOk c.print_event.result (Gains (g.K.Sink.held c.args.sink.now) (g.K.Sink.held c.print_event.new.sink) text))
    (sym (line-whole c.args.journal.now.history c.requires.lawful c.args.index c.entry.result.now c.entry.ensures))
    c.print_event.ensures.ok

pub returns-clause-err : goal.returns-clause-err
returns-clause-err g c =
    subst (λ text. OnErr c.print_event.result (AppendsPart (g.K.Sink.held c.args.sink.now) (g.K.Sink.held c.print_event.new.sink) text))
    (sym (line-whole c.args.journal.now.history c.requires.lawful c.args.index c.entry.result.now c.entry.ensures))
    c.print_event.ensures.err
