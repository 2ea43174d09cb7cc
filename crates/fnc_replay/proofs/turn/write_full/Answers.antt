-- All of the text was printed, or a write failed.
use Rattle.fnc_journal_text.specs.Paper.{text}
use Rattle.fnc_told.specs.SourceAndSink.{sink_told}
use Rattle.fnc_replay.proofs.Writing.{printed-full}
use Rattle.fnc_replay.proofs.turn.write_full.Goals as goal

pub returns-clause-text : goal.returns-clause-text
returns-clause-text g c = λ start held.
    let of_sink = sink_told g.K.Sink.held g.K.Sink.unsent g.K.Sink.faults in
    printed-full c.print_more.result start (of_sink c.args.sink.now) (of_sink c.print_more.new.sink)
    (text c.args.journal.now.history c.args.form) held.1 (c.print_more.ensures.ok start.held held.0)
    (c.print_more.ensures.err start.held held.0) c.print_more.ensures.cause
