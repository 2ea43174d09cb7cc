use Rattle.fnc_command.proofs.ProperLines.{told-proper}
use Rattle.fnc_command.proofs.read.read_command.Goals as goal

pub returns-clause-proper : goal.returns-clause-proper
returns-clause-proper c = told-proper c.args.mode c.args.line.now c.read_line.result c.read_line.ensures.told
