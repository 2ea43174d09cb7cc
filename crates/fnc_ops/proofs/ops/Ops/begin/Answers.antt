-- The records stand for the journal with the request.
use Rattle.std.proofs.Common.{◌≡◌, ◌∷◌, ◌++◌, [], sym, subst}
use Rattle.std.specs.Prelude.{OnOk}
use Rattle.std.proofs.lemmas.Result.{on_ok_weaker}
use Rattle.fnc_ops.specs.Kept.{Kept}
use Rattle.fnc_records.specs.KeptOperation.{KeptOperation}
use Rattle.fnc_ops.specs.Stands.{StandsFor, ask_entry, begun_request}
use Rattle.fnc_ops.proofs.StandsBegins.{stands-begun, others-wait-ever}
use Rattle.fnc_ops.proofs.ops.Ops.begin.Goals as goal

pub returns-clause-ok : goal.returns-clause-ok
returns-clause-ok c client =
    on_ok_weaker c.kept_begun.result
    (λ e. subst (λ (v : Kept). StandsFor v (ask_entry c.args.operation.moment
    (begun_request c.args.operation client c.args.plan.scope) ∷ c.args.journal.now.history))
    (sym e)
    (stands-begun c.args.operation c.args.plan c.args.journal.now.history client c.requires.lawful c.requires.number
    c.requires.planned c.requires.bounded c.args.tries c.requires.tries c.requires.few_candidates c.args.self.now
    c.requires.stands))
    (subst (λ (k : KeptOperation). OnOk c.kept_begun.result (c.kept_begun.new.self ≡ record {
      operations =
          c.args.self.now.operations ++ k ∷ [];
      alive = c.args.self.now.alive;
    })) c.in_ok-record.ensures
    c.kept_begun.ensures.ok)

pub returns-clause-others : goal.returns-clause-others
returns-clause-others c =
    others-wait-ever c.args.operation c.args.plan c.args.journal.now.history c.args.tries c.args.self.now
    c.kept_begun.new.self c.kept_begun.result
    (subst (λ (k : KeptOperation). OnOk c.kept_begun.result (c.kept_begun.new.self ≡ record {
      operations =
          c.args.self.now.operations ++ k ∷ [];
      alive = c.args.self.now.alive;
    })) c.in_ok-record.ensures
    c.kept_begun.ensures.ok)
    c.kept_begun.ensures.err
