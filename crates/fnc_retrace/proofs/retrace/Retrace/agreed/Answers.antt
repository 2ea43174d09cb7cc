use Rattle.std.proofs.Common.{subst}
use Rattle.fnc_journal.specs.History.{Journaled}
use Rattle.fnc_journal.specs.Lawful.{Lawful}
use Rattle.fnc_journal.specs.Prefix.{prefix}
use Rattle.fnc_retrace.proofs.Agreement.{lawful-read}
use Rattle.fnc_retrace.proofs.retrace.Retrace.agreed.Goals as goal

pub returns-clause-lawful : goal.returns-clause-lawful
returns-clause-lawful c =
    subst (λ (j : Journaled). Lawful (prefix c.self.inside.agreed j.history)) c.self.view_is
    (lawful-read c.self.inside.agreed c.self.inside.journal.history c.self.inside.follower.history c.self.invariant)
