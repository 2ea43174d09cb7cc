use Rattle.std.proofs.Common.{inl}
use Rattle.fnc_core.specs.Cored.{IsFull}
use Rattle.fnc_desk.specs.Called.{CallsFor}
use Rattle.fnc_desk.specs.Inputs.{GivesNow, GivesOther}
use Rattle.fnc_desk.proofs.LineEntries.{denied-given, lacks-refused_now, lacks-room, takes-obeyed, takes-refused_now}
use Rattle.fnc_desk.proofs.Taking.{err-is, takes-as}
use Rattle.fnc_desk.proofs.fencer.Fencer.enter_command.Goals as goal

pub returns-in_err-room-clause-full : goal.returns-in_err-room-clause-full
returns-in_err-room-clause-full c =
    lacks-room c.args.self.now c.args.coin c.args.number c.args.command c.from_residual.result c.in_err-room.ensures.sound
    (err-is (IsFull c.args.self.now 1) c.in_err-room.field-0.0 c.from_residual.result c.from_residual.ensures.1
    c.in_err-room.ensures.full)

pub returns-in-Ok-clause-ok : goal.returns-in-Ok-clause-ok
returns-in-Ok-clause-ok c =
    let old = c.args.self.now in
    takes-as (GivesNow old c.args.coin c.args.command c.args.number)
    (GivesOther old c.args.coin c.args.command c.args.number) old c.obey.new.self (λ h e g. inl g)
    (takes-obeyed old c.obey.new.self c.args.coin c.args.number c.args.command (CallsFor old c.args.coin c.args.command)
    (λ called k. k) c.in-Ok.ensures.ok)

pub returns-in-Err-clause-ok : goal.returns-in-Err-clause-ok
returns-in-Err-clause-ok c =
    let old = c.args.self.now in
    takes-refused_now old c.obey.new.self c.refuse.new.self (GivesOther old c.args.coin c.args.command c.args.number)
    c.args.number c.in-Err.denial.cause c.refuse.result c.in-Err.ensures.err.0
    (denied-given old c.args.coin c.args.number c.args.command c.in-Err.denial.cause c.in-Err.ensures.err.1)
    c.refuse.ensures.ok

pub returns-in-Err-clause-full : goal.returns-in-Err-clause-full
returns-in-Err-clause-full c =
    let old = c.args.self.now in
    lacks-refused_now old c.obey.new.self c.refuse.new.self (GivesOther old c.args.coin c.args.command c.args.number)
    c.args.number c.in-Err.denial.cause c.refuse.result c.in-Err.ensures.err.0
    (denied-given old c.args.coin c.args.number c.args.command c.in-Err.denial.cause c.in-Err.ensures.err.1)
    c.refuse.ensures.err c.refuse.ensures.full
