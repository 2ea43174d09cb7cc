use Rattle.std.proofs.Common.{sym, subst, arith}
use Rattle.std.specs.Prelude.{OnErr, OnOk}
use Rattle.std.specs.Option.{option_copied}
use Rattle.fnc_outside.specs.Told.{Gains}
use Rattle.fnc_outside.specs.Writes.{AppendsPart}
use Rattle.fnc_printing.proofs.Pieces.{gains-none}
use Rattle.fnc_audit.proofs.Answered.{line-none, line-reply}
use Rattle.fnc_audit.proofs.replies.print_line.Goals as goal

pub returns-in-Reply-clause-ok : goal.returns-in-Reply-clause-ok
returns-in-Reply-clause-ok g c =
    subst (λ t. OnOk c.print_reply.result
    (Gains (g.K.Sink.held c.args.sink.now) (g.K.Sink.held c.print_reply.new.sink) t))
    (line-reply c.args.node.now c.args.journal.now.history c.args.index c.entry-entry.result.now c.in-Reply.reply
    (option_copied c.request_before-asked.result) c.requires c.entry-entry.ensures c.in-Reply.is
    c.request_before-asked.ensures)
    c.print_reply.ensures.ok

pub returns-in-Reply-clause-err : goal.returns-in-Reply-clause-err
returns-in-Reply-clause-err g c =
    subst (λ t. OnErr c.print_reply.result
    (AppendsPart (g.K.Sink.held c.args.sink.now) (g.K.Sink.held c.print_reply.new.sink) t))
    (line-reply c.args.node.now c.args.journal.now.history c.args.index c.entry-entry.result.now c.in-Reply.reply
    (option_copied c.request_before-asked.result) c.requires c.entry-entry.ensures c.in-Reply.is
    c.request_before-asked.ensures)
    c.print_reply.ensures.err

pub returns-in_default : goal.returns-in_default
returns-in_default g c = record {
  ok =
      subst (Gains (g.K.Sink.held c.args.sink.now) (g.K.Sink.held c.args.sink.now))
      (sym (line-none c.args.node.now c.args.journal.now.history c.args.index c.entry-entry.result.now c.requires
      c.entry-entry.ensures c.in_default.not-Reply))
      (gains-none (g.K.Sink.held c.args.sink.now));
  err = tt;
  count = omega arith;
  cause = tt;
}
