-- The last flush worked or failed.
use Rattle.std.proofs.Common.{sym, subst}
use Rattle.fnc_journal.specs.declared.outcome.Outcome.{Outcome}
use Rattle.fnc_replay.specs.Session.{Wrote}
use Rattle.fnc_told.specs.SourceAndSink.{change, sink_told}
use Rattle.fnc_replay.proofs.Writing.{wrote-failed, wrote-sent}
use Rattle.fnc_replay.proofs.turn.close.Goals as goal

pub returns-in-Ok-clause-text : goal.returns-in-Ok-clause-text
returns-in-Ok-clause-text g c = λ start form h later printed.
    let of_sink = sink_told g.K.Sink.held g.K.Sink.unsent g.K.Sink.faults in
    wrote-sent c.args.outcome form start (of_sink c.args.sink.now) (of_sink c.flush.new.self) h
    c.flush.ensures.count.0 c.in-Ok.ensures.ok c.in-Ok.ensures.sent printed

pub returns-in-Err-clause-text : goal.returns-in-Err-clause-text
returns-in-Err-clause-text g c = λ start form h later printed.
    let of_sink = sink_told g.K.Sink.held g.K.Sink.unsent g.K.Sink.faults in
    subst (λ (o : Outcome). Wrote o form (change start (of_sink c.flush.new.self)) h) (sym c.after_failed_flush.ensures)
    (wrote-failed c.args.outcome form start (of_sink c.args.sink.now) (of_sink c.flush.new.self) h
    later c.in-Err.ensures.err c.in-Err.ensures.cause printed)
