-- Each reply is one more.
use Rattle.fnc_core.proofs.GaveReplies.{gave-more}
use Rattle.fnc_core.proofs.parts.Parts.give_replies.Goals as goal

pub loop-preserved : goal.loop-preserved
loop-preserved c = (
  c.reply_next.ensures.between,
  gave-more c.args.moment c.args.self.now c.loop.self c.reply_next.new.self
      c.loop.invariant.1 c.loop-test.ensures.some c.loop-test.ensures.unsettled,
)
