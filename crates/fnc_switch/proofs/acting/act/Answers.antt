use Rattle.std.proofs.Common.{◌∙◌, sym}
use Rattle.fnc_switch.specs.Agents.{silent}
use Rattle.fnc_switch.specs.declared.action.Action.{Action}
use Rattle.fnc_switch.proofs.Leaving.{leaves}
use Rattle.fnc_switch.proofs.acting.act.Goals as goal

pub returns-in-Operate-clause-leaves : goal.returns-in-Operate-clause-leaves
returns-in-Operate-clause-leaves c =
    rw c.in-Operate.is (λ z. leaves (Action.Operate c.in-Operate.operation) c.args.options.now c.args.switch.now
    (silent c.operate_asked.result c.operate_asked.new.switch) c.operate_asked.ensures
    (sym c.silent.ensures.status ∙ z))
