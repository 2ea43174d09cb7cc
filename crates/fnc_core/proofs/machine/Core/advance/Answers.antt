-- The parts rest at the moment, and the numbers are as they were.
use Rattle.std.proofs.Common.{◌≡◌, ◌∙◌, arith, sym, ap}
use Rattle.fnc_journal.specs.Found.{devices, asks, starts}
use Rattle.fnc_core.proofs.Numbers.{holds-replied}
use Rattle.fnc_core.specs.Cored.{Cored}
use Rattle.fnc_core.proofs.Following.{advances-none}
use Rattle.fnc_core.proofs.Sounds.{sound_seen}
use Rattle.fnc_core.proofs.machine.Core.advance.Goals as goal

pub invariant_of-self : goal.invariant_of-self
invariant_of-self c =
    holds-replied c.args.moment c.pass_time.new.self c.give_replies.new.self _ _ _ c.give_replies.ensures.gave
    c.give_replies.ensures.rests
    (c.self.invariant.next_reg ∙ sym (ap devices c.pass_time.ensures.history))
    (c.self.invariant.next_req ∙ sym (ap asks c.pass_time.ensures.history))
    (c.self.invariant.next_run ∙ sym (ap starts c.pass_time.ensures.history))

pub returns-else-moment-self : goal.returns-else-moment-self
returns-else-moment-self c =
    let last : c.self.inside.last ≡ c.args.self.now.last = ap (λ (v : Cored). v.last) c.self.view_is in
    let same : c.args.self.now.last ≡ c.args.moment = omega (arith, last, c.requires.later, c.if-moment-self.false) in
    advances-none c.args.self.now c.args.moment same
    (sound_seen c.args.self.now c.self.inside.last c.self.inside.parts c.self.view_is c.self.invariant.rests)
