-- The records stand for the journal with the operator's word.
use Rattle.std.proofs.Common.{ℕ, List, map, ◌∷◌, ◌∙◌, ap, sym, subst}
use Rattle.fnc_ops.specs.Kept.{Kept}
use Rattle.fnc_records.specs.OperationRecords.{operation_confirmed}
use Rattle.fnc_ops.specs.OpsRecords.{waiting}
use Rattle.fnc_ops.specs.Stands.{StandsFor, AreAt, confirm_entry}
use Rattle.fnc_ops.proofs.StandsSteps.{stands-confirmed}
use Rattle.fnc_ops.proofs.Waits.{at-map, moment-confirmed, waiting-confirmed}
use Rattle.fnc_ops.proofs.ops.Ops.confirm.Goals as goal

pub returns-clause-stands : goal.returns-clause-stands
returns-clause-stands c moment word own =
    subst (λ (v : Kept). StandsFor v (confirm_entry moment word ∷ c.args.journal.now.history))
    (ap (λ (t : List ℕ). record {
      operations = map (operation_confirmed t) c.args.self.now.operations;
      alive =
          c.args.self.now.alive;
    }) own
    ∙ sym c.kept_confirmed.ensures)
    (record {
      each = stands-confirmed c.args.journal.now.history moment word c.args.self.now.operations c.requires.stands.each;
      alive = c.requires.stands.alive;
    })

pub returns-clause-at : goal.returns-clause-at
returns-clause-at c m at =
    subst (λ (v : Kept). AreAt m v.operations) (sym c.kept_confirmed.ensures)
    (at-map m (operation_confirmed c.args.target.now) (moment-confirmed c.args.target.now) c.args.self.now.operations
    at)

pub returns-clause-waits : goal.returns-clause-waits
returns-clause-waits c n = ap (λ (v : Kept). waiting n v.operations) c.kept_confirmed.ensures
    ∙ waiting-confirmed c.args.target.now n c.args.self.now.operations
