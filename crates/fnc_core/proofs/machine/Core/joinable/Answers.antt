-- The records say which operation a request would join.
use Rattle.std.proofs.Common.{◌≡◌, ap, subst, sym}
use Rattle.std.specs.Prelude.{option_map}
use Rattle.fnc_journal.specs.declared.entry.Req.{Req}
use Rattle.fnc_journal.specs.Slots.{Operation}
use Rattle.fnc_journal.specs.Operations.{joined}
use Rattle.fnc_ops.specs.Stands.{AreAt, StandsFor}
use Rattle.fnc_core.specs.Cored.{Cored}
use Rattle.fnc_core.specs.Parted.{Parted}
use Rattle.fnc_core.proofs.machine.Core.joinable.Goals as goal

pub returns : goal.returns
returns c =
    let b = c.self.invariant.rests.between in
    subst (λ (v : Cored). option_map (λ (r : Req). r.0) c.joinable.result ≡ option_map (λ (o : Operation). o.req)
    (joined v.history v.last c.args.kind c.args.target.now)) c.self.view_is
    (c.joinable.ensures c.self.inside.parts.history c.self.inside.last
    (subst (λ (p : Parted). AreAt c.self.inside.last p.ops.operations)
    (sym (ap (λ i. i.parts) c.self-inside.view_is)) b.at)
    (subst (λ (p : Parted). StandsFor p.ops c.self.inside.parts.history)
    (sym (ap (λ i. i.parts) c.self-inside.view_is)) b.stands))
