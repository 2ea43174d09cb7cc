-- What the loop keeps true, and why it ends.
use Rattle.std.proofs.Common.{◌-◌, length}
use Rattle.fnc_core.specs.Between.{Between, GaveReplies}
use Rattle.fnc_core.proofs.parts.Parts.give_replies.Given as goal

-- the parts are those of the journal, which has the replies that were given so far
abbrev pub invariant-loop : goal.invariant-loop
invariant-loop l = Between l.moment l.self × GaveReplies l.moment l.initial.self l.self

-- the room that is left in the journal
abbrev pub decreases-loop : goal.decreases-loop
decreases-loop l = l.self.limit - length l.self.history
