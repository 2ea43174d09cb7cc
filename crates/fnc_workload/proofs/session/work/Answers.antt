-- The session rests where no line is left.
use Rattle.std.proofs.Common.{sym, subst}
use Rattle.fnc_journal.specs.Driven.{Driven}
use Rattle.fnc_core.specs.Cored.{Cored}
use Rattle.fnc_replay.proofs.Resting.{driven-rests}
use Rattle.fnc_workload.proofs.session.work.Goals as goal

pub returns-in-Whole-clause-driven : goal.returns-in-Whole-clause-driven
returns-in-Whole-clause-driven c =
    subst (λ (v : Cored). Driven v.history) (sym c.in-Whole.ensures.turns.0)
    (driven-rests c.loop-full.desk c.loop-full.invariant.stands.rests)
