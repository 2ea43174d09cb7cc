use Rattle.std.proofs.Common.{◌≡◌, drop}
use Rattle.fnc_device.specs.Options.{well_formed}
use Rattle.fnc_device.proofs.option.check_form.Given as goal

abbrev pub invariant-loop-option : goal.invariant-loop-option
invariant-loop-option l = well_formed (drop l.option-index l.options) ≡ well_formed l.options
