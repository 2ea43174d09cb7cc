use Rattle.std.proofs.Common.{sym, subst}
use Rattle.std.specs.Prelude.{OnErr, OnOk}
use Rattle.fnc_outside.specs.Told.{Gains}
use Rattle.fnc_outside.specs.Writes.{AppendsPart}
use Rattle.fnc_outside.proofs.Telling.{gains-gains}
use Rattle.fnc_journal_text.proofs.Lines.{line-found, text-more}
use Rattle.fnc_printing.proofs.Pieces.{on-ok-then}
use Rattle.fnc_journal_text.proofs.paper.print_entry.Goals as goal

pub returns-clause-ok : goal.returns-clause-ok
returns-clause-ok g c =
    subst (λ text. OnOk c.print_one.result (Gains (g.K.Sink.held c.args.sink.now) (g.K.Sink.held c.print_one.new.sink) text))
    (sym (line-found c.args.journal.now.history c.args.index c.entry.result.now c.entry.ensures)) c.print_one.ensures.ok

pub returns-clause-err : goal.returns-clause-err
returns-clause-err g c =
    subst (λ text. OnErr c.print_one.result (AppendsPart (g.K.Sink.held c.args.sink.now) (g.K.Sink.held c.print_one.new.sink) text))
    (sym (line-found c.args.journal.now.history c.args.index c.entry.result.now c.entry.ensures)) c.print_one.ensures.err

pub returns-clause-grows : goal.returns-clause-grows
returns-clause-grows g c =
    let h = c.args.journal.now.history in
    λ start before.
    on-ok-then _ _ _
    (λ gained.
    subst (Gains start (g.K.Sink.held c.print_one.new.sink)) (sym (text-more h c.args.index c.requires))
    (gains-gains _ _ _ _ _ before (subst (Gains (g.K.Sink.held c.args.sink.now) (g.K.Sink.held c.print_one.new.sink)) (sym (line-found h c.args.index c.entry.result.now c.entry.ensures)) gained)))
    c.print_one.ensures.ok
