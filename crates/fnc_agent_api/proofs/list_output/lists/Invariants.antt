use Rattle.std.proofs.Common.{◌≡◌, length}
use Rattle.fnc_agent_api.specs.ListOutput.{lists}
use Rattle.fnc_agent_api.proofs.list_output.lists.Given as goal

-- no line so far names the target
abbrev pub invariant-loop-rest : goal.invariant-loop-rest
invariant-loop-rest l = lists l.rest l.target ≡ lists l.output l.target

abbrev pub decreases-loop-rest : goal.decreases-loop-rest
decreases-loop-rest l = length l.rest
