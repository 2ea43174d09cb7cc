use Rattle.std.specs.List.{filter_map}
use Rattle.fnc_switch.specs.References.{meant, references}
use Rattle.fnc_switch.proofs.Places.{kept_less, kept_operated}
use Rattle.fnc_switch.proofs.operations.operate.Goals as goal

pub returns-in-Some-clause-kept : goal.returns-in-Some-clause-kept
returns-in-Some-clause-kept c = λ e. rw c.fail.ensures (kept_less c.args.plugs.now c.in-Some.place e)

pub returns-in-None-clause-kept : goal.returns-in-None-clause-kept
returns-in-None-clause-kept c = λ e.
    rw c.operate_all.ensures (kept_operated c.args.operation
    (filter_map (meant c.args.plugs.now) (references c.args.value.now)) c.args.plugs.now e)
