use Rattle.std.proofs.Common.{◌∙◌, ap, length}
use Rattle.fnc_journal.specs.History.{History}
use Rattle.fnc_judge.specs.Verdicts.{fault_of}
use Rattle.fnc_told.specs.SourceAndSink.{change, sink_told}
use Rattle.fnc_audit.specs.Said.{verdict_line}
use Rattle.fnc_audit.proofs.Writing.{written-verdict}
use Rattle.fnc_audit.proofs.saying.say_verdict.Goals as goal

pub returns : goal.returns
returns g c =
    let of_sink = sink_told g.K.Sink.held g.K.Sink.unsent g.K.Sink.faults in
    written-verdict (fault_of c.verdict-verdict.result) _ c.len.result _ c.send_on.result c.verdict_outcome.result
    (change (of_sink c.args.sink.now) (of_sink c.send_on.new.sink)) c.verdict-verdict.ensures
    (c.len.ensures ∙ ap (λ (h : History). length h) c.journal.ensures.history) c.verdict_outcome.ensures
    (c.send_on.ensures (of_sink c.args.sink.now) (verdict_line c.len.result (fault_of c.verdict-verdict.result))
    c.print_verdict-printed.ensures.ok c.print_verdict-printed.ensures.err c.print_verdict-printed.ensures.count
    c.print_verdict-printed.ensures.cause)
