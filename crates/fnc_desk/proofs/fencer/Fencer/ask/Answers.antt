use Rattle.std.proofs.Common.{refl, subst}
use Rattle.std.specs.Prelude.{IfErr}
use Rattle.fnc_core.specs.Cored.{Asks, Cored, ask_event}
use Rattle.fnc_desk.specs.Called.{AsksFor}
use Rattle.fnc_desk.specs.Obeyed.{Denies, Obeys}
use Rattle.fnc_desk.proofs.Asked.{denies-asked, obeys-asked, planned-as}
use Rattle.fnc_desk.proofs.Keeping.{keeps-still}
use Rattle.fnc_desk.proofs.Taking.{unmoved-at}
use Rattle.fnc_desk.proofs.fencer.Fencer.ask.Goals as goal

pub returns-in_err-ask-clause-err : goal.returns-in_err-ask-clause-err
returns-in_err-ask-clause-err c =
    let core = c.self.inside.core in
    let planned =
    planned-as c.journal.result.now.history core.history c.as_str.result.now c.args.ask.target c.args.ask.kind
    c.last-moment.result core.last c.in_ok-plan.plan c.journal.ensures.history c.as_str.ensures
    c.last-moment.ensures.value c.in_ok-plan.ensures.plan in
    let same = unmoved-at core c.ask.new.self c.last-moment.result c.last-moment.ensures.value c.in_err-ask.ensures.err in
    subst (λ (v : Cored). IfErr c.from_residual-in_err-ask.result (Denies (AsksFor v c.args.ask) v c.ask.new.self))
    c.self.view_is
    (denies-asked core c.args.ask c.in_ok-plan.plan c.ask.new.self c.in_err-ask.field-0.0
    c.from_residual-in_err-ask.result planned same c.in_err-ask.ensures.refusal c.from_residual-in_err-ask.ensures.1)

pub invariant_of-self-2 : goal.invariant_of-self-2
invariant_of-self-2 c =
    let asked = c.in_ok-ask.ensures.ok in
    keeps-still c.self.inside.config c.self.inside.core c.ask.new.self c.last-moment.result
    (ask_event c.in_ok-ask.field-0 asked.lead c.args.ask c.in_ok-plan.plan) asked.need (λ at d. refl)
    (rw (c.requires.named, c.requires.aimed) refl) asked.enters c.self.invariant

pub returns-clause-ok : goal.returns-clause-ok
returns-clause-ok c =
    let core = c.self.inside.core in
    let planned =
    planned-as c.journal.result.now.history core.history c.as_str.result.now c.args.ask.target c.args.ask.kind
    c.last-moment.result core.last c.in_ok-plan.plan c.journal.ensures.history c.as_str.ensures
    c.last-moment.ensures.value c.in_ok-plan.ensures.plan in
    let asked =
    subst (λ m. Asks core c.ask.new.self m c.args.ask c.in_ok-plan.plan c.in_ok-ask.field-0)
    c.last-moment.ensures.value c.in_ok-ask.ensures.ok in
    subst (λ (v : Cored). Obeys (AsksFor v c.args.ask) v c.ask.new.self) c.self.view_is
    (obeys-asked core c.args.ask c.in_ok-plan.plan c.ask.new.self c.in_ok-ask.field-0 planned c.in_ok-ask.ensures.number asked)
