use Rattle.std.proofs.Common.{◌≡◌, ◌+◌, ◌-◌, ◌*◌, ◌<◌, drop, get_or, sym, ◌∙◌, arith}
use Rattle.fnc_text.specs.Digits.{digits_value}
use Rattle.fnc_text.proofs.DigitLemmas.{joined-drop, joined-ge, at_most-none}
use Rattle.fnc_text.proofs.number.value_up_to.Goals as goal

pub loop-digit-preserved : goal.loop-digit-preserved
loop-digit-preserved c =
    let ds = c.args.digits.now in
    let i = c.loop-digit.digit-index in
    let step = joined-drop c.loop-digit.value ds i (omega arith) in
    let grown : c.in_ok-value.value ≡ c.loop-digit.value * 10 + (get_or ds i 0 - 48) =
    omega (arith, c.from.ensures, c.in_ok-value.ensures, c.in_ok-checked_mul.ensures) in
    rw grown (sym step ∙ c.loop-digit.invariant)

pub returns-in_err-checked_mul-clause-value : goal.returns-in_err-checked_mul-clause-value
returns-in_err-checked_mul-clause-value c =
    let ds = c.args.digits.now in
    let step = joined-drop c.loop-digit.value ds c.loop-digit.digit-index (omega arith) in
    let whole = joined-ge (c.loop-digit.value * 10 + (get_or ds c.loop-digit.digit-index 0 - 48))
    (drop (c.loop-digit.digit-index + 1) ds) in
    let above : c.args.most < digits_value ds = omega (arith, c.loop-digit.invariant, c.in_err-checked_mul.ensures) in
    c.from_residual.ensures ∙ sym (at_most-none c.args.most (digits_value ds) above)

pub returns-in_err-value-clause-value : goal.returns-in_err-value-clause-value
returns-in_err-value-clause-value c =
    let ds = c.args.digits.now in
    let step = joined-drop c.loop-digit.value ds c.loop-digit.digit-index (omega arith) in
    let whole = joined-ge (c.loop-digit.value * 10 + (get_or ds c.loop-digit.digit-index 0 - 48))
    (drop (c.loop-digit.digit-index + 1) ds) in
    let above : c.args.most < digits_value ds =
    omega (arith, c.loop-digit.invariant, c.from.ensures, c.in_ok-checked_mul.ensures, c.in_err-value.ensures) in
    c.from_residual-in_err-value.ensures ∙ sym (at_most-none c.args.most (digits_value ds) above)
