use Rattle.std.proofs.Common.{◌≡◌, ◌+◌, length}
use Rattle.fnc_agent_api.specs.Cuts.{lines_of}
use Rattle.fnc_switch.specs.Switches.{plugs_from, switch_of}
use Rattle.fnc_switch.proofs.ReadLines.{after_plugs}
use Rattle.fnc_switch.proofs.switch.add_lines.Given as goal

-- the plugs so far and those of the lines that are left are the plugs of all lines
abbrev pub invariant-loop-rest : goal.invariant-loop-rest
invariant-loop-rest l = after_plugs l.switch (plugs_from (length l.switch + 1) (lines_of l.rest)) ≡ switch_of l.text

abbrev pub decreases-loop-rest : goal.decreases-loop-rest
decreases-loop-rest l = length l.rest
