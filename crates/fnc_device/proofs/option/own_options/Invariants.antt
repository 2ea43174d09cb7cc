use Rattle.std.proofs.Common.{◌≡◌, take}
use Rattle.fnc_device.specs.Options.{own_options}
use Rattle.fnc_device.proofs.option.own_options.Given as goal

abbrev pub invariant-loop-option : goal.invariant-loop-option
invariant-loop-option l = l.own ≡ own_options (take l.option-index l.options)
