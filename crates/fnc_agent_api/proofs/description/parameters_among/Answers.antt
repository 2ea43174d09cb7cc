use Rattle.std.proofs.Common.{arith}
use Rattle.serde_json.specs.View.{view}
use Rattle.fnc_agent_api.specs.Descriptions.{parameter_of}
use Rattle.std.proofs.lemmas.Result.{err_from_is_err_and}
use Rattle.fnc_agent_api.proofs.ItemsSeen.{goes_on, ends, read_ok}
use Rattle.fnc_agent_api.proofs.description.parameters_among.Goals as goal

pub returns-in_err-read_parameter : goal.returns-in_err-read_parameter
returns-in_err-read_parameter c =
    let p = err_from_is_err_and c.from_residual.result c.from_residual.ensures.1 in
    rw (p.1, p.2) (ends c.in_err-read_parameter.field-0.0 c.loop-item.parameters c.args.items.now
    c.loop-item.item-index c.item-item.result (omega arith) c.item-item.is c.in_err-read_parameter.ensures
    c.loop-item.invariant)

pub loop-item-preserved : goal.loop-item-preserved
loop-item-preserved c =
    let p = c.in_ok-read_parameter.field-0 in
    let read = read_ok p (parameter_of (view c.item-item.result)) c.in_ok-read_parameter.ensures in
    rw c.in_ok-push.ensures.ok (goes_on c.loop-item.parameters c.args.items.now c.loop-item.item-index
    c.item-item.result p (omega arith) c.item-item.is read c.loop-item.invariant)
