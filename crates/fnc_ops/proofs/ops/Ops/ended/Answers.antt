-- The records stand for the journal with the exit.
use Rattle.std.proofs.Common.{◌∷◌, ◌∙◌, ◌-◌, sym, ap, subst}
use Rattle.fnc_ops.specs.Kept.{Kept}
use Rattle.fnc_ops.specs.OpsRecords.{waiting}
use Rattle.fnc_ops.specs.Stands.{StandsFor, AreAt, exit_entry}
use Rattle.fnc_ops.proofs.AliveCounts.{alive-ended}
use Rattle.fnc_ops.proofs.StandsExits.{stands-ended}
use Rattle.fnc_ops.proofs.Waits.{at-ended, waiting-ended}
use Rattle.fnc_ops.proofs.ops.Ops.ended.Goals as goal

pub returns-clause-stands : goal.returns-clause-stands
returns-clause-stands c =
    subst (λ (v : Kept). StandsFor v (exit_entry c.args.moment c.args.ended ∷ c.args.journal.now.history))
    (sym c.kept_ended.ensures)
    (record {
      each = stands-ended c.args.journal.now.history c.requires.lawful c.args.moment c.args.ended c.requires.few
          c.requires.alive c.args.start.now c.requires.started
          c.args.self.now.operations c.requires.stands.each c.requires.at;
      alive = ap (λ n. n - 1) c.requires.stands.alive
          ∙ alive-ended c.args.journal.now.history c.requires.lawful c.args.moment c.args.ended c.requires.alive;
    })

pub returns-clause-at : goal.returns-clause-at
returns-clause-at c =
    subst (λ (v : Kept). AreAt c.args.moment v.operations) (sym c.kept_ended.ensures)
    (at-ended c.args.start.now c.args.ended c.args.moment c.args.moment c.args.self.now.operations c.requires.at)

pub returns-clause-others : goal.returns-clause-others
returns-clause-others c n other =
    ap (λ (v : Kept). waiting n v.operations) c.kept_ended.ensures
    ∙ waiting-ended c.args.start.now c.args.ended c.args.moment n other c.args.self.now.operations
