use Rattle.std.proofs.Common.{◌≤◌, arith, subst}
use Rattle.fnc_core.specs.Cored.{Advances}
use Rattle.fnc_desk.proofs.ReadLines.{lacks-line, takes-line}
use Rattle.fnc_desk.proofs.fencer.Fencer.enter_read.Goals as goal

pub returns-clause-ok : goal.returns-clause-ok
returns-clause-ok c =
    let old = c.args.self.now in
    let later : old.last ≤ c.unwrap_or-moment.result = omega (arith, c.last.ensures.value, c.if-moment-last.false) in
    takes-line old c.advance.new.self c.args.given c.args.read c.args.number
    (subst (λ m. old.last ≤ m) c.unwrap_or-moment.ensures later)
    (subst (λ m. Advances old c.advance.new.self m) c.unwrap_or-moment.ensures c.advance.ensures) c.requires.other
    c.enter_command.new.self c.enter_command.result c.enter_command.ensures.ok

pub returns-clause-full : goal.returns-clause-full
returns-clause-full c =
    let old = c.args.self.now in
    let later : old.last ≤ c.unwrap_or-moment.result = omega (arith, c.last.ensures.value, c.if-moment-last.false) in
    lacks-line old c.advance.new.self c.args.given c.args.read c.args.number
    (subst (λ m. old.last ≤ m) c.unwrap_or-moment.ensures later)
    (subst (λ m. Advances old c.advance.new.self m) c.unwrap_or-moment.ensures c.advance.ensures) c.requires.other
    c.enter_command.new.self c.enter_command.result c.enter_command.ensures.full
