-- The text has the line that the source gave.
use Rattle.std.proofs.Common.{List, ℕ, Some, refl, sym, ◌∙◌, subst}
use Rattle.fnc_journal.specs.declared.limits.TheConstants.{LONGEST_JOURNAL_LINE}
use Rattle.fnc_outside.specs.Events.{Happening}
use Rattle.fnc_outside.specs.declared.source.Polled.{Polled}
use Rattle.fnc_told.specs.SourceAndSink.{Change, SourceTold, change, source_told}
use Rattle.fnc_told.proofs.Reading.{gave-poll}
use Rattle.fnc_audit.specs.Reading.{Adds, Polls}
use Rattle.fnc_audit.specs.declared.reading.Taken.{Taken}
use Rattle.fnc_audit.specs.TextRead.{with_line}
use Rattle.fnc_audit.specs.Texted.{read}
use Rattle.fnc_audit.proofs.Polling.{polls-line}
use Rattle.fnc_audit.proofs.reading.poll.Goals as goal

pub returns-in-Line-clause-polls : goal.returns-in-Line-clause-polls
returns-in-Line-clause-polls g c =
    let of_source = source_told g.S.Source.given g.S.Source.left g.S.Source.faults in
    let source : Change SourceTold = change (of_source c.args.source.now) (of_source c.poll.new.self) in
    subst (λ (taken : Taken). Polls taken source c.args.text.now c.take_line-outcome.new.self) (sym c.ended.ensures)
    (polls-line c.take_line-outcome.result (Happening.Line c.poll.new.line.bytes) source c.args.text.now
    c.take_line-outcome.new.self
    (gave-poll LONGEST_JOURNAL_LINE Polled.Line c.poll.new.line _ (c.poll.ensures.size ∙ c.requires.longest)
    c.in-Line.ensures.buffer c.in-Line.ensures.leaves c.in-Line.ensures.gives)
    (subst (λ (bytes : List ℕ). Adds c.take_line-outcome.result
    (with_line c.args.text.now.limit (read c.args.text.now) bytes) c.args.text.now c.take_line-outcome.new.self)
    c.bytes.ensures.bytes c.take_line-outcome.ensures.adds))

pub returns-in-TooLong-clause-polls : goal.returns-in-TooLong-clause-polls
returns-in-TooLong-clause-polls g c =
    let of_source = source_told g.S.Source.given g.S.Source.left g.S.Source.faults in
    polls-line (Some c.bad_line.result) (Happening.TooLong c.poll.new.line.size)
    (change (of_source c.args.source.now) (of_source c.poll.new.self)) c.args.text.now c.args.text.now
    (gave-poll LONGEST_JOURNAL_LINE Polled.TooLong c.poll.new.line _ (c.poll.ensures.size ∙ c.requires.longest)
    c.in-TooLong.ensures.buffer c.in-TooLong.ensures.leaves c.in-TooLong.ensures.gives)
    c.bad_line.ensures

pub returns-in-Again-clause-polls : goal.returns-in-Again-clause-polls
returns-in-Again-clause-polls g c = record {
  event = Happening.Again;
  gave =
      gave-poll LONGEST_JOURNAL_LINE Polled.Again c.poll.new.line _ (c.poll.ensures.size ∙ c.requires.longest)
      c.in-Again.ensures.buffer c.in-Again.ensures.leaves c.in-Again.ensures.gives;
  does = refl;
}
