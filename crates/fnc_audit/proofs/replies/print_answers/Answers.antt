-- One line more, or a part of it where a write failed.
use Rattle.std.proofs.Common.{◌<◌, ◌+◌, sym, subst, arith, length}
use Rattle.fnc_outside.specs.Told.{Gains}
use Rattle.fnc_outside.specs.Writes.{AppendsPart}
use Rattle.fnc_outside.proofs.Telling.{gains-gains, gains-part, then-rose}
use Rattle.fnc_journal.specs.History.{History}
use Rattle.fnc_journal.proofs.Prefixes.{prefix-all, prefix-none}
use Rattle.fnc_printing.proofs.Pieces.{gains-none, on-err}
use Rattle.fnc_audit.specs.Said.{history_text}
use Rattle.fnc_audit.proofs.Answered.{text-front, text-more}
use Rattle.fnc_audit.proofs.replies.print_answers.Goals as goal

pub loop-index-init : goal.loop-index-init
loop-index-init g c = record {
  printed =
      subst (λ (h : History). Gains (g.K.Sink.held c.args.sink.now) (g.K.Sink.held c.args.sink.now)
      (history_text c.args.node.now h))
      (sym (prefix-none c.args.journal.now.history)) (gains-none (g.K.Sink.held c.args.sink.now));
  count = omega arith;
}

pub returns-in_err-print_line-clause-err : goal.returns-in_err-print_line-clause-err
returns-in_err-print_line-clause-err g c =
    let h = c.args.journal.now.history in
    let node = c.args.node.now in
    let less : c.loop-index.index < length h = omega (arith, c.loop-index-test.true, c.len-index-end.ensures) in
    on-err _ _
    (text-front node (g.K.Sink.held c.args.sink.now) _ h (c.loop-index.index + 1)
    (subst (AppendsPart (g.K.Sink.held c.args.sink.now) (g.K.Sink.held c.print_line.new.sink))
    (sym (text-more node h c.loop-index.index less))
    (gains-part _ _ _ _ _ c.loop-index.invariant.printed c.in_err-print_line.ensures.err)))

pub returns-in_err-print_line-clause-count : goal.returns-in_err-print_line-clause-count
returns-in_err-print_line-clause-count g c =
    omega (arith, c.loop-index.invariant.count, c.in_err-print_line.ensures.count)

pub returns-in_err-print_line-clause-cause : goal.returns-in_err-print_line-clause-cause
returns-in_err-print_line-clause-cause g c =
    on-err _ _ (then-rose _ _ _ c.loop-index.invariant.count c.in_err-print_line.ensures.cause)

pub loop-index-preserved : goal.loop-index-preserved
loop-index-preserved g c =
    let h = c.args.journal.now.history in
    let node = c.args.node.now in
    let less : c.loop-index.index < length h = omega (arith, c.loop-index-test.true, c.len-index-end.ensures) in
    record {
      printed =
          subst (Gains (g.K.Sink.held c.args.sink.now) (g.K.Sink.held c.print_line.new.sink))
          (sym (text-more node h c.loop-index.index less))
          (gains-gains _ _ _ _ _ c.loop-index.invariant.printed c.in_ok-print_line.ensures.ok);
      count = omega (arith, c.loop-index.invariant.count, c.in_ok-print_line.ensures.count);
    }

pub returns-clause-ok : goal.returns-clause-ok
returns-clause-ok g c =
    let h = c.args.journal.now.history in
    subst (λ (p : History). Gains (g.K.Sink.held c.args.sink.now) (g.K.Sink.held c.loop-index.sink)
    (history_text c.args.node.now p))
    (prefix-all h c.loop-index.index (omega (arith, c.loop-index-test.false, c.len-index-end.ensures)))
    c.loop-index.invariant.printed

pub returns-clause-count : goal.returns-clause-count
returns-clause-count g c = c.loop-index.invariant.count
