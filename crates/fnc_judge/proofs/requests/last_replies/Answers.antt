use Rattle.std.proofs.Common.{ap, ◌∙◌}
use Rattle.fnc_judge.specs.Opened.{replies_after}
use Rattle.fnc_judge.proofs.Testings.{replies-same}
use Rattle.fnc_judge.proofs.requests.last_replies.Goals as goal

pub returns : goal.returns
returns c =
    c.replies_after.ensures ∙ ap (replies_after c.args.req c.args.past.now) c.last.ensures
    ∙ replies-same c.args.req c.args.past.now
