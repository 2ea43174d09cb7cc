-- The first entry that asks the operation's request says when its total time is over.
use Rattle.std.proofs.Common.{◌∙◌}
use Rattle.fnc_core.proofs.Overs.{over-found, over-none}
use Rattle.fnc_core.proofs.limits.over_of.Goals as goal

pub returns-in-Some : goal.returns-in-Some
returns-in-Some c o found =
    c.over_by.ensures
    ∙ over-found c.args.journal.now.history c.requires c.args.req.0 o found c.in-Some.entry.now c.in-Some.ensures.asked

pub returns-in-None : goal.returns-in-None
returns-in-None c o found = absurd (over-none c.args.journal.now.history c.args.req.0 o found c.in-None.ensures.asked)
