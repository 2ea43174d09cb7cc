use Rattle.fnc_switch.specs.Agents.{turned}
use Rattle.fnc_switch.proofs.Places.{changed_at}
use Rattle.fnc_switch.proofs.operations.turn.Goals as goal

pub returns : goal.returns
returns c =
    changed_at (turned c.args.on) c.args.plugs.now c.args.place c.index-plugs-place.result c.requires
