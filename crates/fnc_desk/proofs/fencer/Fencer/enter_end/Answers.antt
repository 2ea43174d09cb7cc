use Rattle.std.proofs.Common.{◌≡◌}
use Rattle.fnc_command.specs.declared.command.Command.{Command}
use Rattle.fnc_desk.specs.Called.{exit_called}
use Rattle.fnc_desk.specs.Inputs.{GivesNow}
use Rattle.fnc_desk.proofs.LineEntries.{lacks-refused_now, refused-given, takes-obeyed, takes-refused_now}
use Rattle.fnc_desk.proofs.fencer.Fencer.enter_end.Goals as goal

pub returns-in-Ok-clause-ok : goal.returns-in-Ok-clause-ok
returns-in-Ok-clause-ok c =
    takes-obeyed c.args.self.now c.end.new.self 0 c.args.number (Command.Exit c.args.run c.args.exit c.args.output.now)
    (λ called. called ≡ exit_called c.args.run c.args.exit c.args.output.now c.args.self.now.history) (λ called k. k)
    c.in-Ok.ensures.ok

pub returns-in-Err-clause-ok : goal.returns-in-Err-clause-ok
returns-in-Err-clause-ok c =
    let command = Command.Exit c.args.run c.args.exit c.args.output.now in
    takes-refused_now c.args.self.now c.end.new.self c.refuse.new.self (GivesNow c.args.self.now 0 command c.args.number)
    c.args.number c.in-Err.denial.cause c.refuse.result c.in-Err.ensures.err.0
    (refused-given c.args.self.now 0 c.args.number command c.in-Err.denial.cause c.in-Err.ensures.err.1)
    c.refuse.ensures.ok

pub returns-in-Err-clause-full : goal.returns-in-Err-clause-full
returns-in-Err-clause-full c =
    let command = Command.Exit c.args.run c.args.exit c.args.output.now in
    lacks-refused_now c.args.self.now c.end.new.self c.refuse.new.self (GivesNow c.args.self.now 0 command c.args.number)
    c.args.number c.in-Err.denial.cause c.refuse.result c.in-Err.ensures.err.0
    (refused-given c.args.self.now 0 c.args.number command c.in-Err.denial.cause c.in-Err.ensures.err.1)
    c.refuse.ensures.err c.refuse.ensures.full
