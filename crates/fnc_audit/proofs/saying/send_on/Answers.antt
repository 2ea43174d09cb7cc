use Rattle.std.proofs.Common.{subst}
use Rattle.std.specs.Prelude.{OnErr}
use Rattle.fnc_outside.specs.Faults.{Rose}
use Rattle.fnc_outside.specs.Writes.{AppendsPart}
use Rattle.fnc_told.specs.SourceAndSink.{sink_told}
use Rattle.fnc_audit.proofs.Writing.{written-part}
use Rattle.fnc_audit.proofs.saying.send_on.Goals as goal

pub returns-in-Err : goal.returns-in-Err
returns-in-Err g c = λ start text ok err later rose.
    let of_sink = sink_told g.K.Sink.held g.K.Sink.unsent g.K.Sink.faults in
    written-part c.args.outcome start (of_sink c.args.sink.now) text
    (subst (λ r. OnErr r (AppendsPart start.held (g.K.Sink.held c.args.sink.now) text)) c.in-Err.is err)
    (subst (λ r. OnErr r (Rose start.faults (g.K.Sink.faults c.args.sink.now))) c.in-Err.is rose)
