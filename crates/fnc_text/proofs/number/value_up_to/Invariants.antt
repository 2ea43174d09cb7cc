use Rattle.std.proofs.Common.{◌≡◌, ◌+◌, ◌*◌, ◌^◌, length, drop}
use Rattle.fnc_text.specs.Digits.{digits_value}
use Rattle.fnc_text.proofs.number.value_up_to.Given as goal

-- the digits so far, moved to the left of those that are left
abbrev pub invariant-loop-digit : goal.invariant-loop-digit
invariant-loop-digit l =
    let rest = drop l.digit-index l.digits in l.value * 10 ^ length rest + digits_value rest ≡ digits_value l.digits
