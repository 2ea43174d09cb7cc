-- The start, one more poll, and the poll that ended the reading.
use Rattle.std.proofs.Common.{◌≡◌, refl, ◌∙◌, subst, arith}
use Rattle.fnc_told.specs.SourceAndSink.{change, source_told}
use Rattle.fnc_audit.specs.Reading.{ReadsSoFar}
use Rattle.fnc_audit.proofs.Polling.{reads-budget, reads-ended, reads-more, reads-none, reads-over}
use Rattle.fnc_audit.proofs.reading.read_text.Goals as goal

pub loop-init : goal.loop-init
loop-init g c =
    let of_source = source_told g.S.Source.given g.S.Source.left g.S.Source.faults in
    record {
      empty = c.requires.holds_none;
      longest = c.requires.longest;
      limit = refl;
      reads = reads-none (of_source c.args.source.now) c.args.text.now c.requires.at_first;
      faults = omega arith;
    }

pub poll-requires-clause-holds_none : goal.poll-requires-clause-holds_none
poll-requires-clause-holds_none g c = c.loop.invariant.empty

pub poll-requires-clause-longest : goal.poll-requires-clause-longest
poll-requires-clause-longest g c = c.loop.invariant.longest

pub returns-in-Over-clause-reads : goal.returns-in-Over-clause-reads
returns-in-Over-clause-reads g c =
    let of_source = source_told g.S.Source.given g.S.Source.left g.S.Source.faults in
    reads-over (of_source c.args.source.now) (change (of_source c.loop.source) (of_source c.poll.new.source))
    c.loop.counter c.loop.text c.poll.new.text c.loop.invariant.reads c.poll.ensures.limit c.loop.invariant.faults
    c.args.polls c.loop-test.true c.in-Over.ensures.polls

pub returns-in-Ended-clause-reads : goal.returns-in-Ended-clause-reads
returns-in-Ended-clause-reads g c =
    let of_source = source_told g.S.Source.given g.S.Source.left g.S.Source.faults in
    reads-ended (of_source c.args.source.now) (change (of_source c.loop.source) (of_source c.poll.new.source))
    c.loop.counter c.loop.text c.poll.new.text c.loop.invariant.reads c.poll.ensures.limit c.loop.invariant.faults
    c.args.polls c.in-Ended.outcome c.loop-test.true c.in-Ended.ensures.polls

pub loop-preserved : goal.loop-preserved
loop-preserved g c =
    let of_source = source_told g.S.Source.given g.S.Source.left g.S.Source.faults in
    let before = c.loop.invariant in
    record {
      empty = c.poll.ensures.empty;
      longest = c.poll.ensures.size ∙ before.longest;
      limit = c.poll.ensures.limit ∙ before.limit;
      reads =
          reads-more (of_source c.args.source.now) (change (of_source c.loop.source) (of_source c.poll.new.source))
          c.loop.counter c.loop.text c.poll.new.text before.reads c.poll.ensures.limit before.faults
          c.in-More.ensures.polls;
      faults = omega (arith, before.faults, c.poll.ensures.reads);
    }

pub returns-clause-reads : goal.returns-clause-reads
returns-clause-reads g c =
    let of_source = source_told g.S.Source.given g.S.Source.left g.S.Source.faults in
    let all : c.loop.counter ≡ c.args.polls = omega (arith, c.loop.auto.counter-end, c.loop-test.false) in
    reads-budget _ c.args.polls c.loop.text
    (subst (λ n. ReadsSoFar (change (of_source c.args.source.now) (of_source c.loop.source)) n c.loop.text) all
    c.loop.invariant.reads)
