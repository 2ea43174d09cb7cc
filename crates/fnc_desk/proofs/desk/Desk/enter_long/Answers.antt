-- The line is counted, or only the moment advanced.
use Rattle.std.proofs.Common.{◌≡◌, ◌+◌, arith, subst}
use Rattle.std.specs.Prelude.{IfErr}
use Rattle.fnc_outside.specs.Events.{Happening}
use Rattle.fnc_desk.specs.Desked.{Desked}
use Rattle.fnc_desk.specs.declared.entering.Given.{Given}
use Rattle.fnc_desk.specs.Entered.{LacksRoom, TakesLine, next_line}
use Rattle.fnc_desk.specs.Inputs.{inputs}
use Rattle.fnc_desk.proofs.Counting.{line-counted}
use Rattle.fnc_desk.proofs.Numbering.{advance-counted, lacks-long, takes-long}
use Rattle.fnc_desk.proofs.Taking.{err-is}
use Rattle.fnc_desk.proofs.desk.Desk.enter_long.Goals as goal

pub invariant_of-self : goal.invariant_of-self
invariant_of-self c =
    let mode = c.self.inside.mode in
    let lacked = c.in_err-refuse_line.ensures.full in
    let uncounted : inputs mode c.refuse_line.new.self.history ≡ inputs mode c.self.inside.fencer.history =
    advance-counted mode c.self.inside.fencer c.refuse_line.new.self lacked.entry.moment lacked.advances in
    (omega (arith, uncounted, c.self.invariant.0), c.self.invariant.1)

pub returns-in_err-refuse_line-clause-full : goal.returns-in_err-refuse_line-clause-full
returns-in_err-refuse_line-clause-full c = λ size given.
    let mode = c.self.inside.mode in
    let number : c.saturating_add-number.result ≡ next_line mode c.self.inside.fencer =
    omega (arith, c.saturating_add-number.ensures, c.self.invariant.0) in
    subst
    (λ (d : Desked). IfErr c.from_residual.result
    (LacksRoom d.mode given (Happening.TooLong size) d.core c.refuse_line.new.self))
    c.self.view_is
    (err-is (LacksRoom mode given (Happening.TooLong size) c.self.inside.fencer c.refuse_line.new.self)
    c.in_err-refuse_line.field-0.0 c.from_residual.result c.from_residual.ensures.1
    (lacks-long mode given size c.self.inside.fencer c.refuse_line.new.self c.in_err-refuse_line.field-0.0
    c.saturating_add-number.result number c.in_err-refuse_line.ensures.full))

pub invariant_of-self-2 : goal.invariant_of-self-2
invariant_of-self-2 c =
    let mode = c.self.inside.mode in
    let given : Given = record { moment = 0; coin = 0 } in
    let number : c.saturating_add-number.result ≡ next_line mode c.self.inside.fencer =
    omega (arith, c.saturating_add-number.ensures, c.self.invariant.0) in
    let counted : inputs mode c.refuse_line.new.self.history ≡ inputs mode c.self.inside.fencer.history + 1 =
    line-counted mode given (Happening.TooLong 0) c.self.inside.fencer c.refuse_line.new.self
    (takes-long mode given 0 c.self.inside.fencer c.refuse_line.new.self c.saturating_add-number.result number
    c.in_ok-refuse_line.ensures.ok) in
    (omega (arith, counted, c.saturating_add-number.ensures, c.self.invariant.0), c.self.invariant.1)

pub returns-clause-ok : goal.returns-clause-ok
returns-clause-ok c = λ size given.
    let mode = c.self.inside.mode in
    let number : c.saturating_add-number.result ≡ next_line mode c.self.inside.fencer =
    omega (arith, c.saturating_add-number.ensures, c.self.invariant.0) in
    subst (λ (d : Desked). TakesLine d.mode given (Happening.TooLong size) d.core c.refuse_line.new.self) c.self.view_is
    (takes-long mode given size c.self.inside.fencer c.refuse_line.new.self c.saturating_add-number.result number
    c.in_ok-refuse_line.ensures.ok)
