-- What is counted is what the definition says.
use Rattle.std.proofs.Common.{◌≡◌, ap, subst, refl, sym}
use Rattle.fnc_journal.specs.Found.{Asked}
use Rattle.fnc_ops.specs.Stands.{AreBounded}
use Rattle.fnc_core.specs.Cored.{Cored, next_of}
use Rattle.fnc_core.specs.Between.{tries_with}
use Rattle.fnc_core.specs.Parted.{Parted}
use Rattle.fnc_core.proofs.KnownFew.{planned-candidates, planned-levels, planned-devices}
use Rattle.fnc_core.proofs.Sounds.{knows-few}
use Rattle.fnc_core.proofs.machine.Core.tries.Goals as goal

pub allowed_tries-requires-clause-bounded : goal.allowed_tries-requires-clause-bounded
allowed_tries-requires-clause-bounded c = subst (λ (p : Parted). AreBounded p.history)
    (sym (ap (λ i. i.parts) c.self-inside.view_is)) c.self.invariant.rests.between.bounded

pub allowed_tries-requires-clause-few_candidates : goal.allowed_tries-requires-clause-few_candidates
allowed_tries-requires-clause-few_candidates c =
    planned-candidates c.args.self.now.history c.args.self.now.last c.args.ask.now.kind c.args.ask.now.target
    c.args.plan.now
    (knows-few c.args.self.now c.self.inside.parts c.self.inside.last c.self.view_is c.self.invariant.rests)
    c.requires.planned

pub allowed_tries-requires-clause-few_levels : goal.allowed_tries-requires-clause-few_levels
allowed_tries-requires-clause-few_levels c =
    planned-levels c.args.self.now.history c.args.self.now.last c.args.ask.now.kind c.args.ask.now.target
    c.args.plan.now
    (knows-few c.args.self.now c.self.inside.parts c.self.inside.last c.self.view_is c.self.invariant.rests)
    c.requires.planned

pub allowed_tries-requires-clause-few_devices : goal.allowed_tries-requires-clause-few_devices
allowed_tries-requires-clause-few_devices c =
    planned-devices c.args.self.now.history c.args.self.now.last c.args.ask.now.kind c.args.ask.now.target
    c.args.plan.now
    (knows-few c.args.self.now c.self.inside.parts c.self.inside.last c.self.view_is c.self.invariant.rests)
    c.requires.planned

pub returns-clause-tries : goal.returns-clause-tries
returns-clause-tries c =
    let asked : Asked = record {
      moment = c.self.inside.last;
      lead = (next_of c.args.self.now).0;
      kind = c.args.ask.now.kind;
      target = c.args.ask.now.target;
      total = c.args.ask.now.total;
      coin = c.args.ask.now.coin;
      scope = c.args.plan.now.scope;
      before = c.self.inside.parts.history;
    } in
    subst (λ (v : Cored). c.allowed_tries.result ≡ tries_with v.history v.last
    (next_of c.args.self.now) c.args.ask.now c.args.plan.now) c.self.view_is
    (c.allowed_tries.ensures.tries (next_of c.args.self.now).0 asked refl
    (sym (ap (λ i. i.parts.history) c.self-inside.view_is)))
