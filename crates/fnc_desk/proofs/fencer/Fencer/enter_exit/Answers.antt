use Rattle.std.proofs.Common.{◌≤◌, arith}
use Rattle.fnc_desk.specs.Inputs.{read_of}
use Rattle.fnc_desk.proofs.ReadLines.{lacks-read, takes-read}
use Rattle.fnc_desk.proofs.fencer.Fencer.enter_exit.Goals as goal

pub returns-clause-ok : goal.returns-clause-ok
returns-clause-ok c =
    let later : c.args.self.now.last ≤ c.args.exit.moment = omega (arith, c.last.ensures.value, c.if-exit-last.false) in
    takes-read c.args.self.now c.advance.new.self (record { moment = 0; coin = 0 })
    (read_of c.args.exit c.args.output.now) c.args.number later c.advance.ensures c.enter_end.new.self c.enter_end.result
    c.enter_end.ensures.ok

pub returns-clause-full : goal.returns-clause-full
returns-clause-full c =
    let later : c.args.self.now.last ≤ c.args.exit.moment = omega (arith, c.last.ensures.value, c.if-exit-last.false) in
    lacks-read c.args.self.now c.advance.new.self (record { moment = 0; coin = 0 })
    (read_of c.args.exit c.args.output.now) c.args.number later c.advance.ensures c.enter_end.new.self c.enter_end.result
    c.enter_end.ensures.full
