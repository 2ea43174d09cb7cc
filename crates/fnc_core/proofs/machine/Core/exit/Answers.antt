-- The parts rest after the exit and its replies, and the run was alive before the advance exactly where it is after it.
use Rattle.std.proofs.Common.{◌≡◌, ◌++◌, ◌∙◌, true, false, is_some, refl, sym, ap, subst}
use Rattle.fnc_journal.specs.Found.{devices, asks, starts}
use Rattle.fnc_journal.specs.Startable.{is_alive}
use Rattle.fnc_core.specs.Cored.{Cored}
use Rattle.fnc_core.specs.Holds.{Holds}
use Rattle.fnc_core.proofs.Numbers.{holds-replied}
use Rattle.fnc_core.proofs.Replied.{is_alive-replied}
use Rattle.fnc_core.proofs.machine.Core.exit.Goals as goal

pub returns-in_default-clause-alive : goal.returns-in_default-clause-alive
returns-in_default-clause-alive c =
    let now : c.self.inside.parts.history ≡ c.advance.ensures.advance ++ c.args.self.now.history =
    ap (λ (v : Cored). v.history) c.self.view_is ∙ c.advance.ensures.history in
    let same : is_alive c.args.run.0 c.self.inside.parts.history ≡ is_alive c.args.run.0 c.args.self.now.history =
    ap (is_alive c.args.run.0) now
    ∙ is_alive-replied c.args.moment c.advance.ensures.advance c.args.self.now.history c.advance.ensures.at_once
    c.args.run.0 in
    let no : is_alive c.args.run.0 c.self.inside.parts.history ≡ false = sym c.alive_start.ensures.alive
    ∙ ap is_some c.in_default.is in
    (λ e. cc, λ e. sym no ∙ same ∙ e)

pub invariant_of-self : goal.invariant_of-self
invariant_of-self c =
    let now : c.self.inside.last ≡ c.args.moment = ap (λ (v : Cored). v.last) c.self.view_is ∙ c.advance.ensures.last in
    subst (λ n. Holds n c.give_replies.new.self c.self.inside.next_reg c.self.inside.next_req c.self.inside.next_run)
    (sym now)
    (holds-replied c.args.moment c.end_run.new.self c.give_replies.new.self _ _ _ c.give_replies.ensures.gave
    c.give_replies.ensures.rests
    (c.self.invariant.next_reg ∙ sym (ap devices c.end_run.ensures.adds.history))
    (c.self.invariant.next_req ∙ sym (ap asks c.end_run.ensures.adds.history))
    (c.self.invariant.next_run ∙ sym (ap starts c.end_run.ensures.adds.history)))

pub returns-clause-alive : goal.returns-clause-alive
returns-clause-alive c =
    let now : c.self.inside.parts.history ≡ c.advance.ensures.advance ++ c.args.self.now.history =
    ap (λ (v : Cored). v.history) c.self.view_is ∙ c.advance.ensures.history in
    let same : is_alive c.args.run.0 c.self.inside.parts.history ≡ is_alive c.args.run.0 c.args.self.now.history =
    ap (is_alive c.args.run.0) now
    ∙ is_alive-replied c.args.moment c.advance.ensures.advance c.args.self.now.history c.advance.ensures.at_once
    c.args.run.0 in
    let yes : is_alive c.args.run.0 c.self.inside.parts.history ≡ true = sym c.alive_start.ensures.alive
    ∙ ap is_some c.in-Some.is in
    (λ e. sym same ∙ yes, λ e. refl)
