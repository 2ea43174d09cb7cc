-- What was served is what the source gave.
use Rattle.std.proofs.Common.{ℕ, List, refl, ◌∙◌, subst}
use Rattle.fnc_journal.specs.declared.limits.TheConstants.{LONGEST_LINE}
use Rattle.fnc_outside.specs.Events.{Happening}
use Rattle.fnc_outside.specs.declared.source.Polled.{Polled}
use Rattle.fnc_replay.specs.Polls.{Serves}
use Rattle.fnc_told.specs.SourceAndSink.{change, source_told}
use Rattle.fnc_replay.proofs.Hearing.{takes-line}
use Rattle.fnc_told.proofs.Reading.{gave-poll}
use Rattle.fnc_replay.proofs.taken.take.Goals as goal

pub returns-in-TooLong-clause-takes : goal.returns-in-TooLong-clause-takes
returns-in-TooLong-clause-takes g c =
    let of_source = source_told g.S.Source.given g.S.Source.left g.S.Source.faults in
    takes-line c.serve_long.result (Happening.TooLong c.poll.new.line.size)
    (change (of_source c.args.source.now) (of_source c.poll.new.self)) _ _
    refl
    (gave-poll LONGEST_LINE Polled.TooLong c.poll.new.line _ (c.poll.ensures.size ∙ c.requires.longest) c.in-TooLong.ensures.buffer
    c.in-TooLong.ensures.leaves c.in-TooLong.ensures.gives)
    (c.serve_long.ensures c.poll.new.line.size)

pub returns-in-Line-clause-takes : goal.returns-in-Line-clause-takes
returns-in-Line-clause-takes g c =
    let of_source = source_told g.S.Source.given g.S.Source.left g.S.Source.faults in
    takes-line c.serve-taken.result (Happening.Line c.poll.new.line.bytes)
    (change (of_source c.args.source.now) (of_source c.poll.new.self)) _ _
    refl
    (gave-poll LONGEST_LINE Polled.Line c.poll.new.line _ (c.poll.ensures.size ∙ c.requires.longest) c.in-Line.ensures.buffer
    c.in-Line.ensures.leaves c.in-Line.ensures.gives)
    (subst (λ (bytes : List ℕ). Serves c.serve-taken.result (Happening.Line bytes) c.args.desk.now c.serve-taken.new.desk)
    c.bytes.ensures.bytes c.serve-taken.ensures)

pub returns-in-Again-clause-takes : goal.returns-in-Again-clause-takes
returns-in-Again-clause-takes g c = (
  refl,
  gave-poll LONGEST_LINE Polled.Again c.poll.new.line _ (c.poll.ensures.size ∙ c.requires.longest) c.in-Again.ensures.buffer
      c.in-Again.ensures.leaves c.in-Again.ensures.gives,
)
