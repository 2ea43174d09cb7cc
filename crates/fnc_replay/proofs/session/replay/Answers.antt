-- What the turns came to, and the last flush.
use Rattle.std.proofs.Common.{◌≤◌, ◌+◌, sym, subst, length}
use Rattle.fnc_journal.specs.Owed.{owed}
use Rattle.fnc_journal.specs.History.{History}
use Rattle.fnc_replay.specs.Room.{FoundRoom}
use Rattle.fnc_replay.specs.Session.{IsServed, PollCounts, Wrote}
use Rattle.fnc_told.specs.SourceAndSink.{change, sink_told, source_told}
use Rattle.fnc_replay.proofs.Resting.{cause-closed, cause-cored, complete-of, served-driven}
use Rattle.fnc_replay.proofs.Hearing.{heard-closed, heard-cored}
use Rattle.fnc_replay.proofs.session.replay.Goals as goal
use Rattle.fnc_printing.proofs.Pieces.{gains-none}

pub returns-clause-served : goal.returns-clause-served
returns-clause-served g c =
    subst (λ (h : History). IsServed h) (sym c.into_journal.ensures.history)
    (served-driven _ c.into_journal.ensures.sound c.take_turns-ended.ensures.driven)

pub returns-clause-room : goal.returns-clause-room
returns-clause-room g c = record {
  found =
      subst (λ (h : History). FoundRoom c.into_journal.result.limit h) (sym c.into_journal.ensures.history)
      (subst (λ n. FoundRoom n c.take_turns-ended.new.desk.history) (sym c.into_journal.ensures.limit)
      c.take_turns-ended.ensures.room);
  left =
      subst (λ (h : History). length h + owed h ≤ c.into_journal.result.limit) (sym c.into_journal.ensures.history)
      (subst (λ n. length c.take_turns-ended.new.desk.history + owed c.take_turns-ended.new.desk.history ≤ n)
      (sym c.into_journal.ensures.limit) c.into_journal.ensures.sound.room);
}

pub returns-clause-text : goal.returns-clause-text
returns-clause-text g c =
    let of_sink = sink_told g.K.Sink.held g.K.Sink.unsent g.K.Sink.faults in
    subst (λ (h : History). Wrote c.close.result c.args.form (change (of_sink c.args.sink) (of_sink c.close.new.sink)) h)
    (sym c.into_journal.ensures.history)
    (c.close.ensures.text (of_sink c.args.sink) c.args.form _ c.take_turns-ended.ensures.writes
    c.take_turns-ended.ensures.text)

pub returns-clause-cause : goal.returns-clause-cause
returns-clause-cause g c =
    let of_source = source_told g.S.Source.given g.S.Source.left g.S.Source.faults in
    let of_sink = sink_told g.K.Sink.held g.K.Sink.unsent g.K.Sink.faults in
    let polls : PollCounts = record { made = c.take_turns-ended.result.polls; allowed = c.args.polls } in
    cause-closed c.take_turns-ended.result.outcome c.close.result
    (change (of_source c.args.source) (of_source c.take_turns-ended.new.source)) (of_sink c.args.sink)
    (of_sink c.take_turns-ended.new.sink) (of_sink c.close.new.sink) polls c.into_journal.result
    c.take_turns-ended.ensures.writes c.close.ensures.writes c.close.ensures.closes
    (cause-cored c.take_turns-ended.result.outcome _ _ polls c.take_turns-ended.new.desk c.into_journal.result
    c.into_journal.ensures.history c.into_journal.ensures.limit c.take_turns-ended.ensures.cause)

pub returns-clause-complete : goal.returns-clause-complete
returns-clause-complete g c = complete-of c.close.result _ _ _ c.into_journal.result (returns-clause-cause g c)

pub returns-clause-heard : goal.returns-clause-heard
returns-clause-heard g c =
    let of_source = source_told g.S.Source.given g.S.Source.left g.S.Source.faults in
    let of_sink = sink_told g.K.Sink.held g.K.Sink.unsent g.K.Sink.faults in
    heard-closed c.take_turns-ended.result.outcome c.close.result
    (change (of_sink c.take_turns-ended.new.sink) (of_sink c.close.new.sink))
    (change (of_source c.args.source) (of_source c.take_turns-ended.new.source)) _ _
    c.close.ensures.closes
    (heard-cored c.take_turns-ended.result.outcome _ _ _ c.into_journal.result
    c.into_journal.ensures.history c.into_journal.ensures.limit c.take_turns-ended.ensures.heard)

pub returns-in_default-clause-nothing_read : goal.returns-in_default-clause-nothing_read
returns-in_default-clause-nothing_read g c = gains-none (g.S.Source.given c.args.source)

pub returns-in_default-clause-nothing_written : goal.returns-in_default-clause-nothing_written
returns-in_default-clause-nothing_written g c = gains-none (g.K.Sink.held c.args.sink)
