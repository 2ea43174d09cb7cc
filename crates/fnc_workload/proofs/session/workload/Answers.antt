-- The journal that is handed back tells how the workload ended.
use Rattle.std.proofs.Common.{sym, subst}
use Rattle.fnc_journal.specs.History.{History}
use Rattle.fnc_replay.proofs.Resting.{served-driven}
use Rattle.fnc_replay.specs.Session.{IsServed}
use Rattle.fnc_told.specs.SourceAndSink.{change, sink_told}
use Rattle.fnc_printing.proofs.Pieces.{gains-none}
use Rattle.fnc_workload.proofs.Wholly.{ends-cored}
use Rattle.fnc_workload.specs.Worked.{Leaves, Writes}
use Rattle.fnc_workload.proofs.session.workload.Goals as goal

pub returns-clause-served : goal.returns-clause-served
returns-clause-served g c =
    subst (λ (h : History). IsServed h) (sym c.into_journal.ensures.history)
    (served-driven c.run-outcome.new.desk c.into_journal.ensures.sound c.run-outcome.ensures.driven)

pub returns-clause-lines : goal.returns-clause-lines
returns-clause-lines g c =
    ends-cored c.run-outcome.result (record { number = c.args.number; count = c.args.count }) c.run-outcome.new.desk
    c.into_journal.result c.into_journal.ensures.history c.into_journal.ensures.limit c.run-outcome.ensures.ends

pub returns-clause-summary : goal.returns-clause-summary
returns-clause-summary g c =
    let of_sink = sink_told g.K.Sink.held g.K.Sink.unsent g.K.Sink.faults in
    subst (λ (h : History). Writes c.run-outcome.result (record { number = c.args.number; count = c.args.count })
    (change (of_sink c.args.sink) (of_sink c.run-outcome.new.sink)) h) (sym c.into_journal.ensures.history)
    c.run-outcome.ensures.writes

pub returns-in_default-clause-nothing : goal.returns-in_default-clause-nothing
returns-in_default-clause-nothing g c = gains-none (g.K.Sink.held c.args.sink)

pub returns-clause-over : goal.returns-clause-over
returns-clause-over g c =
    subst (λ (h : History). Leaves c.run-outcome.result h) (sym c.into_journal.ensures.history)
    c.run-outcome.ensures.over
