use Rattle.std.proofs.Common.{◌≡◌, drop}
use Rattle.fnc_device.specs.Definitions.{all_given}
use Rattle.fnc_device.proofs.definition.check_given.Given as goal

abbrev pub invariant-loop-parameter : goal.invariant-loop-parameter
invariant-loop-parameter l = all_given l.options l.argument (drop l.parameter-index l.parameters)
    ≡ all_given l.options l.argument l.parameters
