use Rattle.std.proofs.Common.{◌≡◌, None, subst, sym}
use Rattle.fnc_command.specs.Lines.{exit_said, said}
use Rattle.fnc_desk.proofs.LineForms.{
  lacks-cause,
  lacks-command,
  lacks-exit,
  none-found,
  takes-cause,
  takes-command,
  takes-exit,
  unsaid-live,
}
use Rattle.fnc_desk.proofs.fencer.Fencer.enter_line.Goals.{in-Timed+in_default-read_exit, in_default}
use Rattle.fnc_desk.proofs.fencer.Fencer.enter_line.Goals as goal

pub returns-in-Some-clause-ok : goal.returns-in-Some-clause-ok
returns-in-Some-clause-ok c =
    takes-exit c.args.self.now c.enter_exit.new.self c.args.mode c.args.given c.args.line.now c.args.number c.in-Some.exit
    c.read_exit.new.out.bytes c.bytes.result.now c.enter_exit.result c.in-Timed.is c.bytes.ensures.bytes
    c.in-Some.ensures.read c.enter_exit.ensures.ok

pub returns-in-Some-clause-full : goal.returns-in-Some-clause-full
returns-in-Some-clause-full c =
    lacks-exit c.args.self.now c.enter_exit.new.self c.args.mode c.args.given c.args.line.now c.args.number c.in-Some.exit
    c.read_exit.new.out.bytes c.bytes.result.now c.enter_exit.result c.in-Timed.is c.bytes.ensures.bytes
    c.in-Some.ensures.read c.enter_exit.ensures.full

pub returns-in-Ok-clause-ok : goal.returns-in-Ok-clause-ok
returns-in-Ok-clause-ok c =
    takes-command c.args.self.now c.enter_read.new.self c.args.mode c.args.given c.args.line.now c.args.number
    c.in-Ok.read c.within.result c.enter_read.result c.within.ensures c.in-Ok.ensures.ok c.enter_read.ensures.ok

pub returns-in-Ok-clause-full : goal.returns-in-Ok-clause-full
returns-in-Ok-clause-full c =
    lacks-command c.args.self.now c.enter_read.new.self c.args.mode c.args.given c.args.line.now c.args.number
    c.in-Ok.read c.within.result c.enter_read.result c.within.ensures c.in-Ok.ensures.ok c.enter_read.ensures.full

pub returns-in-Err-clause-ok : goal.returns-in-Err-clause-ok
returns-in-Err-clause-ok c =
    let none : exit_said (said c.args.mode c.args.line.now) ≡ None = elim c.match-mode.branch [
      | in-Timed+in_default-read_exit w ↦
          subst (λ m. exit_said (said m c.args.line.now) ≡ None) (sym w.in-Timed.is)
          (none-found w.read_exit.result _ w.in_default-read_exit.not-Some w.read_exit.ensures.read)
      | in_default w ↦ unsaid-live c.args.mode c.args.line.now w.in_default.not-Timed
    ] in
    takes-cause c.args.self.now c.refuse_line.new.self c.args.mode c.args.given c.args.line.now c.args.number c.in-Err.cause
    c.refuse_line.result none c.in-Err.ensures.err c.refuse_line.ensures.ok

pub returns-in-Err-clause-full : goal.returns-in-Err-clause-full
returns-in-Err-clause-full c =
    let none : exit_said (said c.args.mode c.args.line.now) ≡ None = elim c.match-mode.branch [
      | in-Timed+in_default-read_exit w ↦
          subst (λ m. exit_said (said m c.args.line.now) ≡ None) (sym w.in-Timed.is)
          (none-found w.read_exit.result _ w.in_default-read_exit.not-Some w.read_exit.ensures.read)
      | in_default w ↦ unsaid-live c.args.mode c.args.line.now w.in_default.not-Timed
    ] in
    lacks-cause c.args.self.now c.refuse_line.new.self c.args.mode c.args.given c.args.line.now c.args.number c.in-Err.cause
    c.refuse_line.result none c.in-Err.ensures.err c.refuse_line.ensures.full
