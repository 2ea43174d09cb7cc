use Rattle.fnc_switch.specs.References.{references}
use Rattle.fnc_switch.proofs.Places.{rebooted}
use Rattle.fnc_switch.proofs.operations.operate_all.Goals as goal

pub returns-in-Reboot : goal.returns-in-Reboot
returns-in-Reboot c =
    rw c.in-Reboot.is (rebooted c.args.plugs.now c.turn_all-in-Reboot.new.plugs c.turn_all-in-Reboot-2.new.plugs
    (references c.args.value.now) c.turn_all-in-Reboot.ensures c.turn_all-in-Reboot-2.ensures)
