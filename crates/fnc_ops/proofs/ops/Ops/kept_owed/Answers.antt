-- What the records owe.
use Rattle.std.proofs.Common.{◌≡◌, ◌+◌, ◌∙◌, ap, ap₂, refl, arith}
use Rattle.fnc_ops.specs.Kept.{Kept}
use Rattle.fnc_ops.specs.OpsRecords.{owed, owed_by_all, owed_with}
use Rattle.fnc_ops.proofs.Owes.{owed-fits, unwrapped}
use Rattle.fnc_ops.proofs.ops.Ops.kept_owed.Goals as goal

pub returns : goal.returns
returns c few =
    let alive : c.from.result ≡ c.args.self.now.alive = c.from.ensures ∙ ap (λ (v : Kept). v.alive) c.self.view_is in
    let all : owed_with c.from.result c.deref.result.now ≡ owed_with c.args.self.now.alive c.args.self.now.operations =
    ap₂ owed_with alive (c.deref.ensures.value ∙ ap (λ (v : Kept). v.operations) c.self.view_is) in
    let sum : owed c.args.self.now ≡ c.args.self.now.alive + owed_by_all c.args.self.now.operations = refl in
    let exact : c.owed_with-owed.result ≡ owed c.args.self.now = c.owed_with-owed.ensures ∙ all
    ∙ owed-fits c.args.self.now.alive c.args.self.now.operations (omega (arith, few, sum)) in
    c.unwrap_or.ensures ∙ unwrapped c.try_from.result c.owed_with-owed.result _ c.try_from.ensures
    (omega (arith, few, exact)) ∙ exact
