use Rattle.std.proofs.Common.{ap, ◌∙◌}
use Rattle.fnc_journal.specs.Startable.{is_alive}
use Rattle.fnc_core.specs.Cored.{Cored}
use Rattle.fnc_desk.proofs.Denying.{not-so, refuses-unknown}
use Rattle.fnc_desk.proofs.Taking.{unmoved-at}
use Rattle.fnc_desk.proofs.fencer.Fencer.end.Goals as goal

pub returns-in_err-finish-clause-err : goal.returns-in_err-finish-clause-err
returns-in_err-finish-clause-err c =
    refuses-unknown c.args.self.now c.finish.new.self c.args.run c.args.exit c.args.output.now c.from_residual.result
    (unmoved-at c.args.self.now c.finish.new.self c.last-moment.result
    (c.last-moment.ensures.value ∙ ap (λ (v : Cored). v.last) c.self.view_is) c.in_err-finish.ensures.err)
    (not-so (is_alive c.args.run.0 c.args.self.now.history) c.in_err-finish.ensures.alive.1) c.from_residual.ensures.1
