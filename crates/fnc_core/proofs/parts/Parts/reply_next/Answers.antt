-- Nothing is due exactly where the records say so.
use Rattle.std.proofs.Common.{sym, subst}
use Rattle.fnc_journal.specs.Operations.{first_due}
use Rattle.fnc_ops.specs.Stands.{IsFirstDue, StandsFor}
use Rattle.fnc_core.specs.Parted.{Parted}
use Rattle.fnc_core.proofs.DueFirst.{settled-no_due, unsettled-due}
use Rattle.fnc_core.proofs.parts.Parts.reply_next.Goals as goal

pub returns-in-None-clause-settled : goal.returns-in-None-clause-settled
returns-in-None-clause-settled c =
    let stands : StandsFor c.self.inside.ops c.args.self.now.history =
    subst (λ (v : Parted). StandsFor v.ops c.args.self.now.history) (sym c.self.view_is) c.requires.stands in
    settled-no_due c.args.self.now.history c.args.moment
    (subst (λ d. IsFirstDue c.args.self.now.history c.args.moment d (first_due c.args.self.now.history c.args.moment))
    c.in-None.is (c.due.ensures c.args.self.now.history stands))

pub returns-in-Some-clause-unsettled : goal.returns-in-Some-clause-unsettled
returns-in-Some-clause-unsettled c =
    let stands : StandsFor c.self.inside.ops c.args.self.now.history =
    subst (λ (v : Parted). StandsFor v.ops c.args.self.now.history) (sym c.self.view_is) c.requires.stands in
    unsettled-due c.args.self.now.history c.args.moment c.in-Some.due
    (subst (λ d. IsFirstDue c.args.self.now.history c.args.moment d (first_due c.args.self.now.history c.args.moment))
    c.in-Some.is (c.due.ensures c.args.self.now.history stands))
