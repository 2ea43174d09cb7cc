-- The start, one more turn, and the turn or the last poll that ended the session.
use Rattle.std.proofs.Common.{[], ◌≡◌, ◌+◌, refl, sym, ◌∙◌, subst, arith, inl}
use Rattle.fnc_journal.specs.declared.outcome.Outcome.{Outcome}
use Rattle.fnc_journal.specs.Driven.{DrivenInputs}
use Rattle.fnc_journal.specs.History.{History}
use Rattle.fnc_core.specs.Cored.{Cored}
use Rattle.fnc_replay.specs.Heard.{Heard}
use Rattle.fnc_replay.specs.Rests.{Rests}
use Rattle.fnc_replay.specs.Room.{FoundRoom}
use Rattle.fnc_replay.specs.Session.{HoldsSoFar, PollCounts}
use Rattle.fnc_told.specs.SourceAndSink.{change, sink_told, source_told}
use Rattle.fnc_replay.proofs.Resting.{cause-of, driven-rests}
use Rattle.fnc_replay.proofs.Hearing.{heard-budget, heard-none, opened}
use Rattle.fnc_replay.proofs.turns.take_turns.Goals as goal

rests-none : (v : Cored) → v.history ≡ [] → Rests v
rests-none v none = record { inputs = subst DrivenInputs (sym none) tt; rest = inl none }

pub returns-in-Some-clause-heard : goal.returns-in-Some-clause-heard
returns-in-Some-clause-heard g c =
    let of_source = source_told g.S.Source.given g.S.Source.left g.S.Source.faults in
    opened c.in-Some.outcome (of_source c.args.source.now) _ _ c.in-Some.ensures.cause
    (heard-none (of_source c.args.source.now) _ c.requires.no_history c.requires.at_first)

pub loop-made-init : goal.loop-made-init
loop-made-init g c =
    let of_sink = sink_told g.K.Sink.held g.K.Sink.unsent g.K.Sink.faults in
    let none : c.args.desk.now.history ≡ [] = c.requires.no_history in
    record {
      rests = rests-none _ none;
      empty = c.requires.holds_none;
      longest = c.requires.longest;
      limit = refl;
      text =
          subst (λ (h : History). HoldsSoFar c.args.form (change (of_sink c.args.sink.now) (of_sink c.write_head.new.sink)) h)
          (sym none) c.in-None.ensures.text;
      heard = heard-none _ _ none c.requires.at_first;
      room = subst (FoundRoom c.args.desk.now.limit) (sym none) tt;
      reads = omega arith;
    }

pub turn-requires-clause-holds_none : goal.turn-requires-clause-holds_none
turn-requires-clause-holds_none g c = c.loop-made.invariant.empty

pub turn-requires-clause-longest : goal.turn-requires-clause-longest
turn-requires-clause-longest g c = c.loop-made.invariant.longest

pub returns-in-Some-turn-clause-text : goal.returns-in-Some-turn-clause-text
returns-in-Some-turn-clause-text g c =
    let of_sink = sink_told g.K.Sink.held g.K.Sink.unsent g.K.Sink.faults in
    c.in-Some-turn.ensures.text (of_sink c.args.sink.now) c.loop-made.invariant.text

pub returns-in-Some-turn-clause-driven : goal.returns-in-Some-turn-clause-driven
returns-in-Some-turn-clause-driven g c = c.in-Some-turn.ensures.turns c.loop-made.invariant.rests

pub returns-in-Some-turn-clause-cause : goal.returns-in-Some-turn-clause-cause
returns-in-Some-turn-clause-cause g c =
    let of_source = source_told g.S.Source.given g.S.Source.left g.S.Source.faults in
    let of_sink = sink_told g.K.Sink.held g.K.Sink.unsent g.K.Sink.faults in
    let polls : PollCounts = record { made = c.loop-made.made + 1; allowed = c.args.polls } in
    cause-of c.in-Some-turn.outcome (change (of_source c.loop-made.source) (of_source c.turn.new.source))
    (change (of_sink c.loop-made.sink) (of_sink c.turn.new.sink)) (of_source c.args.source.now)
    (of_sink c.args.sink.now) polls c.turn.new.desk c.loop-made.invariant.reads c.loop-made.invariant.text.1
    c.in-Some-turn.ensures.cause

pub returns-in-Some-turn-clause-heard : goal.returns-in-Some-turn-clause-heard
returns-in-Some-turn-clause-heard g c =
    let of_source = source_told g.S.Source.given g.S.Source.left g.S.Source.faults in
    c.in-Some-turn.ensures.heard (of_source c.args.source.now) c.loop-made.made c.loop-made.invariant.heard

pub returns-in-Some-turn-clause-room : goal.returns-in-Some-turn-clause-room
returns-in-Some-turn-clause-room g c =
    subst (λ n. FoundRoom n c.turn.new.desk.history) (sym c.in-Some-turn.ensures.limit)
    (c.in-Some-turn.ensures.room c.loop-made.invariant.room)

pub returns-in-Some-turn-clause-limit : goal.returns-in-Some-turn-clause-limit
returns-in-Some-turn-clause-limit g c = c.in-Some-turn.ensures.limit ∙ c.loop-made.invariant.limit

pub returns-in-Some-turn-clause-writes : goal.returns-in-Some-turn-clause-writes
returns-in-Some-turn-clause-writes g c = omega (arith, c.loop-made.invariant.text.1, c.in-Some-turn.ensures.writes)

pub loop-made-preserved : goal.loop-made-preserved
loop-made-preserved g c =
    let of_source = source_told g.S.Source.given g.S.Source.left g.S.Source.faults in
    let of_sink = sink_told g.K.Sink.held g.K.Sink.unsent g.K.Sink.faults in
    let before = c.loop-made.invariant in
    let turned = c.in-None-turn.ensures in
    record {
      rests = turned.turns before.rests;
      empty = turned.empty;
      longest = turned.size ∙ before.longest;
      limit = turned.limit ∙ before.limit;
      text = turned.text (of_sink c.args.sink.now) before.text;
      heard = turned.heard (of_source c.args.source.now) _ before.heard;
      room = subst (λ n. FoundRoom n c.turn.new.desk.history) (sym turned.limit) (turned.room before.room);
      reads = omega (arith, before.reads, turned.reads);
    }

pub returns-clause-text : goal.returns-clause-text
returns-clause-text g c = c.loop-made.invariant.text.0

pub returns-clause-driven : goal.returns-clause-driven
returns-clause-driven g c = driven-rests _ c.loop-made.invariant.rests

pub returns-clause-heard : goal.returns-clause-heard
returns-clause-heard g c =
    let of_source = source_told g.S.Source.given g.S.Source.left g.S.Source.faults in
    let all : c.loop-made.made ≡ c.args.polls = omega (arith, c.loop-made.auto.made-end, c.loop-made-test.false) in
    subst (λ n. Heard Outcome.Budget (change (of_source c.args.source.now) (of_source c.loop-made.source)) n
    c.loop-made.desk) all
    (heard-budget _ _ _ c.loop-made.invariant.heard)

pub returns-clause-room : goal.returns-clause-room
returns-clause-room g c = c.loop-made.invariant.room

pub returns-clause-limit : goal.returns-clause-limit
returns-clause-limit g c = c.loop-made.invariant.limit

pub returns-clause-writes : goal.returns-clause-writes
returns-clause-writes g c = c.loop-made.invariant.text.1
