use Rattle.std.proofs.Common.{sym, subst}
use Rattle.std.specs.Prelude.{OnErr}
use Rattle.fnc_outside.specs.Writes.{AppendsPart}
use Rattle.fnc_journal.specs.declared.event.Event.{Event}
use Rattle.fnc_journal_text.specs.Spelled.{spaced, words_of}
use Rattle.fnc_journal_text.proofs.event.print_event.Goals as goal

pub returns-in-Device-clause-err : goal.returns-in-Device-clause-err
returns-in-Device-clause-err g c =
    subst (λ (e : Event). OnErr c.print_device.result (AppendsPart (g.K.Sink.held c.args.sink.now) (g.K.Sink.held c.print_device.new.sink) (spaced (words_of e)))) (sym c.in-Device.is)
    c.print_device.ensures.err
