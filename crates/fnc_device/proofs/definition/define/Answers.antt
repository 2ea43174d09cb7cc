use Rattle.fnc_device.proofs.Bounded.{IfOk-bounded}
use Rattle.fnc_device.proofs.definition.define.Goals as goal

pub returns-clause-bounded : goal.returns-clause-bounded
returns-clause-bounded c fit = IfOk-bounded c.as_slice.result.now c.args.description.now c.read_definition.result
    c.read_definition.ensures fit
