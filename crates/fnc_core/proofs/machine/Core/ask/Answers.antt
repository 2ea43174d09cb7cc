-- The request is taken after the advance.
use Rattle.std.proofs.Common.{◌≡◌, ◌∙◌, sym, ap, subst}
use Rattle.fnc_journal.specs.Found.{asks}
use Rattle.fnc_journal.specs.Levels.{is_in_place}
use Rattle.fnc_core.specs.Between.{IsPlanOf}
use Rattle.fnc_core.specs.Cored.{Cored, Asks}
use Rattle.fnc_core.proofs.Following.{follows-asks}
use Rattle.fnc_core.proofs.Replied.{asks-replied, is_in_place-replied, is_plan-replied}
use Rattle.fnc_core.proofs.machine.Core.ask.Goals as goal

pub take-requires-clause-in_place : goal.take-requires-clause-in_place
take-requires-clause-in_place c =
    ap (is_in_place c.args.plan.scope c.args.ask.target) c.advance.ensures.history
    ∙ is_in_place-replied c.args.moment c.advance.ensures.advance c.args.self.now.history c.advance.ensures.at_once
    c.args.plan.scope c.args.ask.target ∙ c.requires.in_place

pub take-requires-clause-planned : goal.take-requires-clause-planned
take-requires-clause-planned c =
    subst (λ n. IsPlanOf c.advance.new.self.history n c.args.ask.kind c.args.ask.target c.args.plan)
    (sym c.advance.ensures.last)
    (subst (λ h. IsPlanOf h c.args.moment c.args.ask.kind c.args.ask.target c.args.plan) (sym c.advance.ensures.history)
    (is_plan-replied c.args.moment c.advance.ensures.advance c.args.self.now.history c.advance.ensures.at_once
    c.args.moment c.args.ask.kind c.args.ask.target c.args.plan c.requires.planned))

pub returns-clause-ok : goal.returns-clause-ok
returns-clause-ok c =
    let next : c.self.inside.next_req ≡ asks c.advance.new.self.history = c.self.invariant.next_req
    ∙ ap (λ (v : Cored). asks v.history) c.self.view_is in
    subst (λ n. Asks c.args.self.now c.take.new.self c.args.moment c.args.ask c.args.plan (record { 0 = n })) (sym next)
    (follows-asks c.args.self.now c.advance.new.self c.take.new.self c.args.moment c.args.ask c.args.plan
    c.advance.ensures c.in_ok-take.ensures.room c.in_ok-take.ensures.ok)

pub returns-clause-number : goal.returns-clause-number
returns-clause-number c =
    c.self.invariant.next_req ∙ ap (λ (v : Cored). asks v.history) c.self.view_is ∙ ap asks c.advance.ensures.history
    ∙ asks-replied c.args.moment c.advance.ensures.advance c.args.self.now.history c.advance.ensures.at_once
