-- What was written of the journal before stays written, and the session rests again or has ended.
use Rattle.std.proofs.Common.{◌≡◌, ◌+◌, ap, ap₂, sym, ◌∙◌, subst, length}
use Rattle.fnc_journal.specs.declared.outcome.Outcome.{Outcome}
use Rattle.fnc_replay.specs.Heard.{Heard}
use Rattle.fnc_journal.specs.History.{History}
use Rattle.fnc_journal.specs.Prefix.{prefix}
use Rattle.fnc_core.specs.Cored.{Cored}
use Rattle.fnc_replay.specs.Session.{HoldsSoFar, Printed, Puts}
use Rattle.fnc_told.specs.SourceAndSink.{change, sink_told, source_told}
use Rattle.fnc_replay.proofs.Growing.{grows-served, grows-passed, prefix-grown}
use Rattle.fnc_replay.specs.Room.{FoundRoom}
use Rattle.fnc_replay.proofs.Rooms.{room-passed, room-served}
use Rattle.fnc_replay.proofs.Hearing.{heard-again, heard-fault, heard-full, heard-served}
use Rattle.fnc_replay.proofs.Resting.{turns-served, turns-still, driven-passed}
use Rattle.fnc_replay.proofs.turn.turn.Goals as goal

pub returns-in-Served-clause-text : goal.returns-in-Served-clause-text
returns-in-Served-clause-text g c = λ start held.
    let of_sink = sink_told g.K.Sink.held g.K.Sink.unsent g.K.Sink.faults in
    let grown = grows-served _ _ _ c.in-Served.ensures.takes.does in
    let same : c.journal-in-Served.result.now.history ≡ c.take.new.desk.history = c.journal-in-Served.ensures.history in
    let from : c.len-written.result ≡ length c.args.desk.now.history =
    c.len-written.ensures ∙ ap length c.journal.ensures.history in
    let before : prefix c.len-written.result c.journal-in-Served.result.now.history ≡ c.args.desk.now.history =
    ap₂ prefix from same ∙ prefix-grown _ _ grown in
    subst (λ (h : History). Puts c.write_on.result c.args.form (change start (of_sink c.write_on.new.sink)) h) same
    (c.write_on.ensures.text start
    (subst (λ (h : History). HoldsSoFar c.args.form (change start (of_sink c.args.sink.now)) h) (sym before) held))

pub returns-in-Served-clause-turns : goal.returns-in-Served-clause-turns
returns-in-Served-clause-turns g c =
    turns-served c.write_on.result _ _ _ c.in-Served.ensures.takes.does c.journal-in-Served.ensures.sound

pub returns-in-Full-clause-text : goal.returns-in-Full-clause-text
returns-in-Full-clause-text g c = λ start held.
    let of_sink = sink_told g.K.Sink.held g.K.Sink.unsent g.K.Sink.faults in
    let grown = grows-passed _ _ _ _ c.in-Full.ensures.takes.does in
    let same : c.journal-in-Full.result.now.history ≡ c.take.new.desk.history = c.journal-in-Full.ensures.history in
    let from : c.len-written.result ≡ length c.args.desk.now.history =
    c.len-written.ensures ∙ ap length c.journal.ensures.history in
    let before : prefix c.len-written.result c.journal-in-Full.result.now.history ≡ c.args.desk.now.history =
    ap₂ prefix from same ∙ prefix-grown _ _ grown in
    subst (λ (h : History). Printed c.write_full.result c.args.form (change start (of_sink c.write_full.new.sink)) h) same
    (c.write_full.ensures.text start
    (subst (λ (h : History). HoldsSoFar c.args.form (change start (of_sink c.args.sink.now)) h) (sym before) held))

pub returns-in-Full-clause-turns : goal.returns-in-Full-clause-turns
returns-in-Full-clause-turns g c =
    λ rests. driven-passed _ _ _ _ rests c.in-Full.ensures.takes.does c.journal-in-Full.ensures.sound

pub returns-in-Nothing-clause-text : goal.returns-in-Nothing-clause-text
returns-in-Nothing-clause-text g c = λ start held.
    let of_sink = sink_told g.K.Sink.held g.K.Sink.unsent g.K.Sink.faults in
    subst (λ (v : Cored). Puts c.send_on.result c.args.form (change start (of_sink c.send_on.new.sink)) v.history)
    (sym c.in-Nothing.ensures.takes.0) (c.send_on.ensures.text start c.args.form c.args.desk.now.history held)

pub returns-in-Nothing-clause-turns : goal.returns-in-Nothing-clause-turns
returns-in-Nothing-clause-turns g c = turns-still c.send_on.result _ _ c.in-Nothing.ensures.takes.0

pub returns-in-Nothing-clause-heard : goal.returns-in-Nothing-clause-heard
returns-in-Nothing-clause-heard g c = λ start made heard.
    let of_source = source_told g.S.Source.given g.S.Source.left g.S.Source.faults in
    let of_sink = sink_told g.K.Sink.held g.K.Sink.unsent g.K.Sink.faults in
    heard-again c.send_on.result start (change (of_source c.args.source.now) (of_source c.take.new.source)) made
    (change (of_sink c.args.sink.now) (of_sink c.send_on.new.sink)) _ _ heard
    c.in-Nothing.ensures.takes.0 c.in-Nothing.ensures.takes.1 c.send_on.ensures.cause

pub returns-in-Served-clause-heard : goal.returns-in-Served-clause-heard
returns-in-Served-clause-heard g c = λ start made heard.
    let of_source = source_told g.S.Source.given g.S.Source.left g.S.Source.faults in
    let of_sink = sink_told g.K.Sink.held g.K.Sink.unsent g.K.Sink.faults in
    heard-served c.write_on.result start (change (of_source c.args.source.now) (of_source c.take.new.source)) made
    (change (of_sink c.args.sink.now) (of_sink c.write_on.new.sink)) _ _ heard
    c.in-Served.ensures.takes c.write_on.ensures.cause

pub returns-in-Full-clause-heard : goal.returns-in-Full-clause-heard
returns-in-Full-clause-heard g c = λ start made heard.
    let of_source = source_told g.S.Source.given g.S.Source.left g.S.Source.faults in
    subst (λ (o : Outcome). Heard o (change start (of_source c.take.new.source)) (made + 1) c.take.new.desk)
    (sym c.write_full.ensures.outcome)
    (heard-full start (change (of_source c.args.source.now) (of_source c.take.new.source)) made c.in-Full.full _ _ heard
    c.in-Full.ensures.takes)

pub returns-in-Nothing-clause-room : goal.returns-in-Nothing-clause-room
returns-in-Nothing-clause-room g c = λ found.
    subst (λ (v : Cored). FoundRoom c.args.desk.now.limit v.history) (sym c.in-Nothing.ensures.takes.0) found

pub returns-in-Served-clause-room : goal.returns-in-Served-clause-room
returns-in-Served-clause-room g c = room-served _ _ _ c.in-Served.ensures.takes.does

pub returns-in-Full-clause-room : goal.returns-in-Full-clause-room
returns-in-Full-clause-room g c = room-passed _ _ _ _ c.in-Full.ensures.takes.does

pub returns-in-Failed-clause-heard : goal.returns-in-Failed-clause-heard
returns-in-Failed-clause-heard g c = λ start made heard.
    let of_source = source_told g.S.Source.given g.S.Source.left g.S.Source.faults in
    heard-fault start (change (of_source c.args.source.now) (of_source c.take.new.source)) made _ _ heard
    c.in-Failed.ensures.takes.0 c.in-Failed.ensures.takes.1
