-- The record of the operation has one more member.
use Rattle.std.proofs.Common.{◌≡◌, ◌∙◌, Some, sym, ap, set, position}
use Rattle.std.proofs.lemmas.List.Quantifiers.{position-Some}
use Rattle.std.proofs.lemmas.Result.{IfOk-weaker}
use Rattle.fnc_ops.specs.OpsRecords.{is_of}
use Rattle.fnc_ops.proofs.StandsJoined.{joined-at, joined-none}
use Rattle.fnc_ops.proofs.records.join.Goals as goal

pub returns-in-Some-clause-ok : goal.returns-in-Some-clause-ok
returns-in-Some-clause-ok c =
    let found : position (is_of c.args.operation.0) c.args.records.now ≡ Some c.in-Some.place = sym c.place_of.ensures
    ∙ c.in-Some.is in
    let there = position-Some (is_of c.args.operation.0) c.args.records.now c.in-Some.place
    c.index-records-place.result found in
    IfOk-weaker c.join.result _ _
    (λ x e.
    ap (set c.args.records.now c.in-Some.place) e
    ∙ joined-at c.args.operation.0 c.args.req c.args.records.now c.in-Some.place c.index-records-place.result there.0
    there.1 there.2)
    c.join.ensures.ok

pub returns-in-None-clause-ok : goal.returns-in-None-clause-ok
returns-in-None-clause-ok c = joined-none c.args.operation.0 c.args.req c.args.records.now (sym c.place_of.ensures
    ∙ c.in-None.is)
