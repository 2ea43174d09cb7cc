use Rattle.std.proofs.Common.{◌≤◌, ◌≡◌, []}
use Rattle.fnc_journal.specs.declared.limits.TheConstants.{LONGEST_LINE}
use Rattle.fnc_replay.specs.Rests.{Rests}
use Rattle.fnc_replay.specs.Room.{FoundRoom}
use Rattle.fnc_replay.specs.Heard.{HeardSoFar}
use Rattle.fnc_replay.specs.Session.{HoldsSoFar}
use Rattle.fnc_told.specs.SourceAndSink.{change, sink_told, source_told}
use Rattle.fnc_replay.proofs.turns.take_turns.Given as goal

-- the session rests, all lines so far are written, and each line gave its input and found its room
abbrev pub invariant-loop-made : goal.invariant-loop-made
invariant-loop-made g l = record {
  rests : Rests l.desk;
  empty : l.line.bytes ≡ [];
  longest : l.line.size ≡ LONGEST_LINE;
  limit : l.desk.limit ≡ l.fn.desk.limit;
  text : (
      let of_sink = sink_told g.K.Sink.held g.K.Sink.unsent g.K.Sink.faults in
      HoldsSoFar l.form (change (of_sink l.fn.sink) (of_sink l.sink)) l.desk.history);
  heard : (
      let of_source = source_told g.S.Source.given g.S.Source.left g.S.Source.faults in
      HeardSoFar (change (of_source l.fn.source) (of_source l.source)) l.made l.desk);
  room : FoundRoom l.desk.limit l.desk.history;
  reads : g.S.Source.faults l.fn.source ≤ g.S.Source.faults l.source;
}
