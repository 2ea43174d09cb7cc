-- The new entry is the newest of those that lowered the lane of a name, or it lowers none.
use Rattle.std.proofs.Common.{◌∙◌, ◌∷◌, sym, ap, arith}
use Rattle.fnc_journal.proofs.LeastRegistrations.{heads-lowered, heads-kept}
use Rattle.fnc_journal.proofs.heads.Heads.enter.Goals as goal

pub returns-then-is_head : goal.returns-then-is_head
returns-then-is_head c = λ limit e h l b p a.
    let few = a.few in
    let room = a.room in
    heads-lowered limit e h c.args.self.now c.add.new.self (sym p ∙ c.if-is_head.true) a
    (c.add.ensures.entries (omega arith) ∙ ap (λ k. k ∷ c.args.self.now.entries) (sym l)) c.add.ensures.room

pub returns-else-is_head : goal.returns-else-is_head
returns-else-is_head c = λ limit e h l b p a. heads-kept limit e h c.args.self.now (sym p ∙ c.if-is_head.false) a
