use Rattle.fnc_command.proofs.ProperLines.{exit-proper}
use Rattle.fnc_command.proofs.read.read_exit.Goals as goal

pub returns-in-Some-clause-proper : goal.returns-in-Some-clause-proper
returns-in-Some-clause-proper c = exit-proper c.args.line.now c.in-Some.exit _ c.in-Some.ensures.read
