use Rattle.std.proofs.Common.{subst}
use Rattle.fnc_journal.specs.declared.outcome.Outcome.{Outcome}
use Rattle.fnc_journal.specs.History.{History}
use Rattle.fnc_told.specs.SourceAndSink.{change, sink_told}
use Rattle.fnc_audit.specs.Reading.{IsWritten}
use Rattle.fnc_audit.specs.Said.{history_text}
use Rattle.fnc_audit.proofs.saying.say_answers.Goals as goal

pub returns : goal.returns
returns g c =
    let of_sink = sink_told g.K.Sink.held g.K.Sink.unsent g.K.Sink.faults in
    subst (λ (h : History). IsWritten c.send_on.result Outcome.Finished
    (change (of_sink c.args.sink.now) (of_sink c.send_on.new.sink)) (history_text c.args.node.now h))
    c.journal.ensures.history
    (c.send_on.ensures (of_sink c.args.sink.now) (history_text c.args.node.now c.journal.result.now.history)
    c.print_answers-printed.ensures.ok c.print_answers-printed.ensures.err c.print_answers-printed.ensures.count
    c.print_answers-printed.ensures.cause)
